-- Each row of a plain form parses to the line that it was written for, places left out.
use Prim.Native.Nat.{ℕ, zero, suc, ◌+◌, ◌≤◌, ◌<◌, min}
use mathlib.Core.Bool.{Bool, true, false}
use mathlib.Core.List.{List, [], ◌∷◌, ◌++◌, map}
use Rattle.std.specs.Prelude.{Option, None, Some}
use mathlib.Core.Path.{◌≡◌, refl, ap, ap₂, ◌∙◌}
use native.Mathlib.Omega.{arith}
use native.Mathlib.Nat.{min-eq_left}
use lib.ListN.{length, length-map}
use Rattle.lexer.specs.Text.{codes, same}
use Rattle.lexer.specs.Tokens.{TokenKind, word, quoted, sign, newline, Token}
use Rattle.lexer.specs.Words.{value}
use Rattle.machine.specs.declared.Kind.{Kind}
use Rattle.machine.specs.declared.Kind.TheVariants.{Acceptor, Transducer, Enumerator, Beaver}
use Rattle.machine.specs.declared.BitOrder.TheVariants.{Lsb, Msb}
use Rattle.machine.specs.declared.Decoder.{Decoder}
use Rattle.machine.specs.declared.Decoder.TheVariants.{Word, Unary, Binary}
use Rattle.language.specs.Machine.{Located, Dir, left, right, stay}
use Rattle.language.specs.Content.{RuleContent, Content}
use Rattle.language.specs.Parser.{Result, ok, Parser, then, give, is_sign, goes_on, branch, one, at_most, entries, tuple, set}
use Rattle.language.specs.Lines.{glyph, RawDecoder, raw_word, raw_unary, raw_binary, RawTransition, Item, machine_item, input_item, kind_item, output_item, tapes_item, states_item, final_item, input_alphabet_item, tape_alphabet_item, blank_item, start_item, transition_item, Line, blank_line, comment_line, item_line, state_in, state, symbol, direction, read_entry, write_entry, transition, output, goes_by, ending_of, in_front, rows, finished, line_from, line_of, lines}
use Rattle.language.specs.Lines as L
use Rattle.language.specs.Plain.{final_names, plain}
use Rattle.language.proofs.Every.{Every, Filled, every_any}
use Rattle.language.proofs.PlainLex.{commas_t, dir_kind, own_t}
use Rattle.language.proofs.Decimal.{value-digits}
use Rattle.language.proofs.PlainRows.{Row, row, comment_row, flat_rows, only_row, comment_rows, machine_row, kind_row, input_row, output_row, tapes_row, blank_row, start_row, set_row, action_read, action_write, action_dir, rule_t, rule_row, rule_rows, plain_rows, Written, plain_lexes, finals_every, names_every}
use Rattle.language.proofs.TokenKinds.{kinds}

-- ---- without places

abbrev pub U : Type 0
U = Unit {0}

abbrev pub bare : TokenKind → Token U
bare k = record { kind = k; place = tt; inner = tt }

abbrev pub loc : {A : Type 0} → A → Located U A
loc a = record { value = a; place = tt }

abbrev pub maybe_loc : {A : Type 0} → Option A → Option (Located U A)
maybe_loc None = None
maybe_loc (Some a) = Some (loc a)

abbrev pub nowhere : U → U → U
nowhere a b = tt

abbrev pub text : List ℕ → L.Text U
text s = loc (loc s)

-- ---- lists of entries

then_ok : {A B : Type 0} {p : Result U A} {a : A} {ts : List (Token U)} → p ≡ ok a ts → (f : A → Parser U B) → then p f ≡ f a ts
unfolding then
then_ok e f = ap (λ r. then r f) e

-- `p` reads the token `f a` as `g a`
pub record Reads {A B : Type 0} (good : A → Type 0) (f : A → TokenKind) (g : A → B) (p : Parser U B) : Type 0 where
  pub reads : (a : A) → good a → (ts : List (Token U)) → p (bare (f a) ∷ ts) ≡ ok (g a) ts

-- the sign c ends a list
record Closes (c : ℕ) : Type 0 where
  closes : goes_on c (sign c) ≡ Some false

at_most_read : {A B : Type 0} {good : A → Type 0} {f : A → TokenKind} {g : A → B} {p : Parser U B} → Reads good f g p → {c : ℕ} → Closes c
    → (a : A) (l : List A) → Every good (a ∷ l) → (n : ℕ) → length (a ∷ l) ≤ n → (rest : List TokenKind)
    → at_most tt n p c (map bare (commas_t f (a ∷ l) (sign c ∷ rest))) ≡ ok (map g (a ∷ l)) (map bare rest)
unfolding at_most commas_t one
at_most_read R C a l h zero m rest = absurd (omega arith)
at_most_read R C a [] h (suc n) m rest = rw (R.reads a h.0) (rw C.closes)
at_most_read R C a (b ∷ l) h (suc n) m rest = rw (R.reads a h.0) (rw (at_most_read R C b l h.1 n (omega arith) rest))

commas_t_length : {A : Type 0} (f : A → TokenKind) (l : List A) (rest : List TokenKind) → length l ≤ length (commas_t f l rest)
unfolding commas_t
commas_t_length f [] rest = omega arith
commas_t_length f (a ∷ []) rest = omega arith
commas_t_length f (a ∷ b ∷ l) rest = omega (arith, commas_t_length f (b ∷ l) rest)

entries_read_lem : {A B : Type 0} {good : A → Type 0} {f : A → TokenKind} {g : A → B} {p : Parser U B} → Reads good f g p → {c : ℕ} → Closes c
    → (a : A) (l : List A) → Every good (a ∷ l) → (rest : List TokenKind)
    → entries tt p c (map bare (commas_t f (a ∷ l) (sign c ∷ rest))) ≡ ok (map g (a ∷ l)) (map bare rest)
unfolding entries
entries_read_lem {f = f} R {c} C a l h rest =
    at_most_read R C a l h (length (map bare (commas_t f (a ∷ l) (sign c ∷ rest)))) (rw length-map (commas_t_length f (a ∷ l) (sign c ∷ rest))) rest

parenthesis : Closes 0x29
unfolding goes_on
parenthesis = record { closes = refl }

brace : Closes 0x7D
unfolding goes_on
brace = record { closes = refl }

tuple-read : {A B : Type 0} {good : A → Type 0} {f : A → TokenKind} {g : A → B} {p : Parser U B} → Reads good f g p
    → (l : List A) → Filled l → Every good l → (rest : List TokenKind)
    → tuple tt p (bare (sign 0x28) ∷ map bare (commas_t f l (sign 0x29 ∷ rest))) ≡ ok (map g l) (map bare rest)
unfolding tuple
tuple-read R [] s h rest = absurd s
tuple-read R (a ∷ l) s h rest = entries_read_lem R parenthesis a l h rest

-- ---- names, symbols, moves

-- a state's name: a word but `_`
abbrev pub NotBlank : List ℕ → Type 0
NotBlank w = same w (codes "_") ≡ false

state-read : (w : List ℕ) → NotBlank w → (ts : List (Token U)) → state tt (bare (word w) ∷ ts) ≡ ok (loc w) ts
unfolding state
state-read w e ts = rw (e, state_in)

states-read : Reads NotBlank word loc (state tt)
states-read = record { reads = state-read }

abbrev Any : {A : Type 0} → A → Type 0
Any a = U

any : {A : Type 0} (l : List A) → Every Any l
any l = every_any Any (λ a. tt) l

symbols-read : Reads Any quoted (λ c. loc (glyph c)) (symbol tt)
unfolding symbol
symbols-read = record { reads = λ c h ts. refl }

read-read : Reads Any action_read (λ a. loc (glyph a.read) ∷ []) (read_entry tt)
unfolding read_entry
read-read = record { reads = λ a h ts. refl }

write_read : Reads Any action_write (λ a. loc (Some (glyph a.write))) (write_entry tt)
unfolding write_entry
write_read = record { reads = λ a h ts. refl }

direction-read : (d : Dir) (ts : List (Token U)) → direction tt (bare (dir_kind d) ∷ ts) ≡ ok (loc d) ts
unfolding direction
direction-read left ts = refl
direction-read right ts = refl
direction-read stay ts = refl

move_read : Reads Any action_dir (λ a. loc a.dir) (direction tt)
move_read = record { reads = λ a h ts. direction-read a.dir ts }

-- ---- rules

-- a rule as its plain form writes it
unfoldable pub raw_of : RuleContent → RawTransition U
raw_of r = record {
  from = loc r.from;
  read = map (λ a. loc (glyph a.read) ∷ []) r.actions;
  to = loc r.to;
  write = map (λ a. loc (Some (glyph a.write))) r.actions;
  dir = map (λ a. loc a.dir) r.actions;
}

-- what the parser asks of a rule
pub record Parsed (r : RuleContent) : Type 0 where
  pub from_name : NotBlank r.from
  pub to_name : NotBlank r.to
  pub some-actions : Filled r.actions

transition-read : (r : RuleContent) → Parsed r → transition tt (map bare (rule_t r [])) ≡ ok (raw_of r) []
unfolding transition raw_of rule_t
transition-read r h =
    then_ok (state-read r.from h.from_name _) _
    ∙ (then_ok (tuple-read read-read r.actions h.some-actions (any r.actions) _) _
    ∙ (then_ok (state-read r.to h.to_name _) _
    ∙ (then_ok (tuple-read write_read r.actions h.some-actions (any r.actions) _) _
    ∙ then_ok (tuple-read move_read r.actions h.some-actions (any r.actions) _) _)))

-- ---- rows and lines

-- the line of a row
unfoldable pub row_line : Row → Line U
unfolding line_from
row_line r = line_from nowhere (map bare r.body) tt (maybe_loc r.own)

abbrev GoesBy : TokenKind → Type 0
GoesBy k = ending_of k ≡ goes_by

row_front : (ks : List TokenKind) → Every GoesBy ks → (o : Option (List ℕ)) (rest : List TokenKind)
    → rows (map bare (ks ++ own_t o (newline ∷ rest))) ≡ record { body = map bare ks; stop = tt; comment = maybe_loc o } ∷ rows (map bare rest)
unfolding rows
row_front [] h None rest = refl
row_front [] h (Some s) rest = refl
row_front (k ∷ ks) h o rest = rw h.0 (ap (in_front goes_by (bare k)) (row_front ks h.1 o rest))

-- the rows parse to the lines; the text's end is one more, blank
pub data Parses : List Row → List (Line U) → Type 0 where
  last : Parses [] (blank_line ∷ [])
  next : {r : Row} {l : Line U} {rs : List Row} {ls : List (Line U)} → Every GoesBy r.body → row_line r ≡ l → Parses rs ls → Parses (r ∷ rs) (l ∷ ls)

pub parses_lines : {rs : List Row} {ls : List (Line U)} → Parses rs ls → lines nowhere (map bare (flat_rows rs)) ≡ ls
unfolding lines flat_rows row_line
parses_lines last = refl
parses_lines (next {r = r} {rs = rs} g e p) = ap (map (line_of nowhere)) (row_front r.body g r.own (flat_rows rs)) ∙ ap₂ (λ x y. x ∷ y) e (parses_lines p)

abbrev pub declaration : Item U → Line U
declaration i = item_line i tt None

-- a line that stands there only if b
abbrev pub only_line : Bool → Line U → List (Line U) → List (Line U)
only_line true l ls = l ∷ ls
only_line false l ls = ls

-- ---- each line

-- an output as its plain form writes it
abbrev pub raw_decoder : Decoder → RawDecoder
raw_decoder Word = raw_word
raw_decoder (Unary c) = raw_unary (glyph c)
raw_decoder (Binary b) = raw_binary b

commas_t_goes : {A : Type 0} (f : A → TokenKind) → ((a : A) → GoesBy (f a)) → (l : List A) (rest : List TokenKind) → Every GoesBy rest → Every GoesBy (commas_t f l rest)
unfolding commas_t ending_of
commas_t_goes f e [] rest h = h
commas_t_goes f e (x ∷ []) rest h = (e x, h)
commas_t_goes f e (x ∷ y ∷ l) rest h = (e x, (refl, commas_t_goes f e (y ∷ l) rest h))

set-read : {A B : Type 0} {good : A → Type 0} {f : A → TokenKind} {g : A → B} {p : Parser U B} → Reads good f g p → ((a : A) → is_sign 0x7D (f a) ≡ None)
    → (l : List A) → Every good l → set tt p (bare (sign 0x7B) ∷ map bare (commas_t f l (sign 0x7D ∷ []))) ≡ ok (map g l) []
unfolding set commas_t
set-read R n [] h = refl
set-read R n (a ∷ []) h = rw (n a, branch) (entries_read_lem R brace a [] h [])
set-read R n (a ∷ b ∷ l) h = rw (n a, branch) (entries_read_lem R brace a (b ∷ l) h [])

le_max : (n : ℕ) → n < 256 → n ≤ 18446744073709551615
le_max n h = omega arith

module _ {rs : List Row} {ls : List (Line U)} (h : Parses rs ls) where
  put : (r : Row) (l : Line U) → Every GoesBy r.body → row_line r ≡ l → Parses (r ∷ rs) (l ∷ ls)
  put r l g e = next g e h

  comment_parses : (s : List ℕ) → Parses (comment_row s ∷ rs) (comment_line (loc s) ∷ ls)
  unfolding row_line
  comment_parses s = put (comment_row s) _ tt refl

  machine_parses : (s : List ℕ) → Parses (machine_row s ∷ rs) (declaration (machine_item (text s)) ∷ ls)
  unfolding row_line ending_of
  machine_parses s = put (machine_row s) _ (refl, (refl, tt)) refl

  input_parses : (s : List ℕ) → Parses (input_row s ∷ rs) (declaration (input_item (text s)) ∷ ls)
  unfolding row_line ending_of
  input_parses s = put (input_row s) _ (refl, (refl, tt)) refl

  kind_parses : (k : Kind) → Parses (kind_row k ∷ rs) (declaration (kind_item k) ∷ ls)
  unfolding row_line ending_of
  kind_parses Acceptor = put (kind_row Acceptor) _ (refl, (refl, tt)) refl
  kind_parses Transducer = put (kind_row Transducer) _ (refl, (refl, tt)) refl
  kind_parses Enumerator = put (kind_row Enumerator) _ (refl, (refl, tt)) refl
  kind_parses Beaver = put (kind_row Beaver) _ (refl, (refl, tt)) refl

  output_parses : (d : Decoder) → Parses (output_row d ∷ rs) (declaration (output_item (raw_decoder d)) ∷ ls)
  unfolding row_line ending_of
  output_parses Word = put (output_row Word) _ (refl, (refl, tt)) refl
  output_parses (Unary c) = put (output_row (Unary c)) _ (refl, (refl, (refl, tt))) refl
  output_parses (Binary Lsb) = put (output_row (Binary Lsb)) _ (refl, (refl, (refl, tt))) refl
  output_parses (Binary Msb) = put (output_row (Binary Msb)) _ (refl, (refl, (refl, tt))) refl

  tapes_parses : (n : ℕ) → n < 256 → Parses (tapes_row n ∷ rs) (declaration (tapes_item (loc n)) ∷ ls)
  unfolding row_line ending_of
  tapes_parses n g = put (tapes_row n) _ (refl, (refl, (refl, tt))) (ap (λ v. declaration (tapes_item (loc (min v 18446744073709551615)))) (value-digits n g) ∙ ap (λ v. declaration (tapes_item (loc v))) (min-eq_left (le_max n g)))

  blank_parses : (c : ℕ) → Parses (blank_row c ∷ rs) (declaration (blank_item (glyph c)) ∷ ls)
  unfolding row_line ending_of
  blank_parses c = put (blank_row c) _ (refl, (refl, (refl, tt))) refl

  start_parses : (w : List ℕ) → NotBlank w → Parses (start_row w ∷ rs) (declaration (start_item (loc w)) ∷ ls)
  unfolding row_line ending_of
  start_parses w g = put (start_row w) _ (refl, (refl, (refl, tt))) (ap (λ p. finished tt None (then p (λ q. give (start_item q)))) (state-read w g []))

  states_parses : (l : List (List ℕ)) → Every NotBlank l → Parses (set_row (codes "Q") word l ∷ rs) (declaration (states_item (map loc l)) ∷ ls)
  unfolding row_line ending_of set_row
  states_parses l g = put (set_row (codes "Q") word l) _ (refl, (refl, (refl, commas_t_goes word (λ a. refl) l (sign 0x7D ∷ []) (refl, tt))))
      (ap (λ p. finished tt None (then p (λ q. give (states_item q)))) (set-read states-read (λ a. refl) l g))

  finals_parses : (l : List (List ℕ)) → Every NotBlank l → Parses (set_row (codes "F") word l ∷ rs) (declaration (final_item (map loc l)) ∷ ls)
  unfolding row_line ending_of set_row
  finals_parses l g = put (set_row (codes "F") word l) _ (refl, (refl, (refl, commas_t_goes word (λ a. refl) l (sign 0x7D ∷ []) (refl, tt))))
      (ap (λ p. finished tt None (then p (λ q. give (final_item q)))) (set-read states-read (λ a. refl) l g))

  sigma_parses : (l : List ℕ) → Parses (set_row (codes "Σ") quoted l ∷ rs) (declaration (input_alphabet_item (map (λ c. loc (glyph c)) l)) ∷ ls)
  unfolding row_line ending_of set_row
  sigma_parses l = put (set_row (codes "Σ") quoted l) _ (refl, (refl, (refl, commas_t_goes quoted (λ a. refl) l (sign 0x7D ∷ []) (refl, tt))))
      (ap (λ p. finished tt None (then p (λ q. give (input_alphabet_item q)))) (set-read symbols-read (λ a. refl) l (any l)))

  gamma_parses : (l : List ℕ) → Parses (set_row (codes "Γ") quoted l ∷ rs) (declaration (tape_alphabet_item (map (λ c. loc (glyph c)) l)) ∷ ls)
  unfolding row_line ending_of set_row
  gamma_parses l = put (set_row (codes "Γ") quoted l) _ (refl, (refl, (refl, commas_t_goes quoted (λ a. refl) l (sign 0x7D ∷ []) (refl, tt))))
      (ap (λ p. finished tt None (then p (λ q. give (tape_alphabet_item q)))) (set-read symbols-read (λ a. refl) l (any l)))

  only_parses : (b : Bool) (r : Row) (l : Line U) → (b ≡ true → Parses (r ∷ rs) (l ∷ ls)) → Parses (only_row b r rs) (only_line b l ls)
  only_parses true r l f = f refl
  only_parses false r l f = h

-- ---- rules and the whole

rule_t_goes : (r : RuleContent) → Every GoesBy (rule_t r [])
unfolding rule_t ending_of
rule_t_goes r = (
  refl,
  (
    refl,
    (
      refl,
      (
        refl,
        commas_t_goes action_read (λ a. refl) r.actions _ (
          refl,
          (
            refl,
            (
              refl,
              (
                refl,
                (
                  refl,
                  (
                    refl,
                    (
                      refl,
                      commas_t_goes action_write (λ a. refl) r.actions _
                          (refl, (refl, (refl, commas_t_goes action_dir (λ a. refl) r.actions _ (refl, (refl, tt))))),
                    ),
                  ),
                ),
              ),
            ),
          ),
        ),
      ),
    ),
  ),
)

-- a rule's line
abbrev pub rule_line : RuleContent → Line U
rule_line r = item_line (transition_item (raw_of r)) tt (maybe_loc r.comment)

rule_parses : {rs : List Row} {ls : List (Line U)} → Parses rs ls → (r : RuleContent) → Parsed r → Parses (rule_row r ∷ rs) (rule_line r ∷ ls)
unfolding row_line ending_of rule_row
rule_parses h r g = put h (rule_row r) _ (refl, rule_t_goes r) (ap (λ p. finished tt (maybe_loc r.comment) (then p (λ q. give (transition_item q)))) (transition-read r g))

unfoldable pub comment_lines : List (List ℕ) → List (Line U) → List (Line U)
comment_lines [] ls = ls
comment_lines (s ∷ l) ls = comment_line (loc s) ∷ comment_lines l ls

comments_parses : {rs : List Row} {ls : List (Line U)} → Parses rs ls → (l : List (List ℕ)) → Parses (comment_rows l rs) (comment_lines l ls)
unfolding comment_rows comment_lines
comments_parses h [] = h
comments_parses h (s ∷ l) = comment_parses (comments_parses h l) s

unfoldable pub rule_lines : List RuleContent → List (Line U) → List (Line U)
unfolding comment_lines raw_of
rule_lines [] ls = ls
rule_lines (r ∷ l) ls = comment_lines r.leading (rule_line r ∷ rule_lines l ls)

rules_parses : {rs : List Row} {ls : List (Line U)} → Parses rs ls → (l : List RuleContent) → Every Parsed l → Parses (rule_rows l rs) (rule_lines l ls)
unfolding rule_rows rule_lines
rules_parses h [] g = h
rules_parses h (r ∷ l) g = comments_parses (rule_parses (rules_parses h l g.1) r g.0) r.leading

-- the lines of a plain form
unfoldable pub plain_lines : Content → List (Line U)
unfolding comment_lines rule_lines final_names
plain_lines m =
    comment_lines m.header
    (declaration (machine_item (text m.name))
    ∷ declaration (kind_item m.kind)
    ∷ declaration (input_item (text m.input))
    ∷ declaration (output_item (raw_decoder m.output))
    ∷ declaration (tapes_item (loc m.tapes))
    ∷ only_line m.declared.states (declaration (states_item (map loc (map (λ s. s.name) m.states))))
    (only_line m.declared.input_alphabet (declaration (input_alphabet_item (map (λ c. loc (glyph c)) m.sigma)))
    (only_line m.declared.tape_alphabet (declaration (tape_alphabet_item (map (λ c. loc (glyph c)) m.gamma)))
    (only_line m.declared.blank (declaration (blank_item (glyph m.blank)))
    (only_line m.declared.start (declaration (start_item (loc m.start)))
    (declaration (final_item (map loc (final_names m.states)))
    ∷ rule_lines m.rules
    (comment_lines m.trailing (blank_line ∷ []))))))))

-- what the parser asks of a content
pub record Parsable (m : Content) : Type 0 where
  pub tapes_small : m.tapes < 256
  pub state-names : Every (λ s. NotBlank s.name) m.states
  pub start_name_lem : m.declared.start ≡ true → NotBlank m.start
  pub rules_parsed : Every Parsed m.rules

pub plain_parses : (m : Content) → Parsable m → Parses (plain_rows m) (plain_lines m)
unfolding plain_rows plain_lines
plain_parses m g =
    let end = comments_parses last m.trailing in
    let rules = rules_parses end m.rules g.rules_parsed in
    let finals = finals_parses rules (final_names m.states) (finals_every NotBlank m.states g.state-names) in
    let start = only_parses finals m.declared.start _ _ (λ e. start_parses finals m.start (g.start_name_lem e)) in
    let blank = only_parses start m.declared.blank _ _ (λ e. blank_parses start m.blank) in
    let gamma = only_parses blank m.declared.tape_alphabet _ _ (λ e. gamma_parses blank m.gamma) in
    let sigma = only_parses gamma m.declared.input_alphabet _ _ (λ e. sigma_parses gamma m.sigma) in
    let states = only_parses sigma m.declared.states _ _ (λ e. states_parses sigma (map (λ s. s.name) m.states) (names_every NotBlank m.states g.state-names)) in
    comments_parses (machine_parses (kind_parses (input_parses (output_parses (tapes_parses states m.tapes g.tapes_small) m.output) m.input) m.kind) m.name) m.header

-- reading a plain form gives its lines
pub plain-reads : (m : Content) → Written m → Parsable m → lines nowhere (map bare (kinds (plain m))) ≡ plain_lines m
plain-reads m w g = ap (λ ks. lines nowhere (map bare ks)) (plain_lexes m w).lexes ∙ parses_lines (plain_parses m g)
