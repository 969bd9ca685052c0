-- The tokens of a plain form are its rows, line by line: no piece runs into its neighbour.
use Prim.Native.Nat.{ℕ, ◌+◌, ◌<◌}
use mathlib.Core.Bool.{Bool, true, false}
use mathlib.Core.List.{List, [], ◌∷◌, ◌++◌, map}
use Rattle.std.specs.Prelude.{Option, None, Some}
use mathlib.Core.Path.{◌≡◌, refl, ap, ◌∙◌}
use Rattle.lexer.specs.Text.{codes}
use Rattle.lexer.specs.Tokens as T
use Rattle.lexer.specs.Tokens.{TokenKind, word, number, quoted, str, sign, newline, is_word_continue, is_ascii_digit}
use Rattle.machine.specs.declared.Kind.{Kind}
use Rattle.machine.specs.declared.Kind.TheVariants.{Acceptor, Transducer, Enumerator, Beaver}
use Rattle.machine.specs.declared.BitOrder.TheVariants.{Lsb, Msb}
use Rattle.machine.specs.declared.Decoder.{Decoder}
use Rattle.machine.specs.declared.Decoder.TheVariants.{Word, Unary, Binary}
use Rattle.language.specs.Content.{StateContent, ActionContent, RuleContent, Content}
use Rattle.language.specs.Plain.{Piece, ◌⨾◌, say, verbatim, end, only, each, commas, symbol, direction, string, decimal, comment, comment_line, own_comment, kind_name, decoder, name_set, symbol_set, final_names, rule, rule_lines, pieces, plain}
use Rattle.language.proofs.Every.{by_test, Every, Maybe, every_map}
use Rattle.language.proofs.TokenKinds.{kinds}
use Rattle.language.proofs.PlainLex.{IsWord, IsSymbol, IsComment, Prints, word-kinds, symbol-kinds, commas_t, dir_kind, commas-kinds, name_prints, symbol_prints, dir_prints, comment-kinds, own_t, own_kinds, string-kinds}
use Rattle.language.proofs.Decimal.{digits, decimal-digits, number-kinds, digits_number}

-- ---- rows of tokens

-- the tokens of a line, and its comment
pub record Row : Type 0 where
  pub body : List TokenKind
  pub own : Option (List ℕ)

abbrev pub row : List TokenKind → Row
row b = record { body = b; own = None }

abbrev pub comment_row : List ℕ → Row
comment_row s = record { body = []; own = Some s }

-- the tokens of rows, each with its line's end; the text's end is one more
unfoldable pub flat_rows : List Row → List TokenKind
flat_rows [] = newline ∷ []
flat_rows (r ∷ rs) = r.body ++ own_t r.own (newline ∷ flat_rows rs)

-- the text's tokens are the rows'
pub record Lexes (text : List ℕ) (rs : List Row) : Type 0 where
  pub lexes : kinds text ≡ flat_rows rs

-- a row that stands there only if b
abbrev pub only_row : Bool → Row → List Row → List Row
only_row true r rs = r ∷ rs
only_row false r rs = rs

-- a row for each comment
unfoldable pub comment_rows : List (List ℕ) → List Row → List Row
comment_rows [] rs = rs
comment_rows (s ∷ l) rs = comment_row s ∷ comment_rows l rs

abbrev pub decoder_t : Decoder → List TokenKind
decoder_t Word = word (codes "word") ∷ []
decoder_t (Unary c) = word (codes "unary") ∷ quoted c ∷ []
decoder_t (Binary Lsb) = word (codes "binary") ∷ word (codes "lsb") ∷ []
decoder_t (Binary Msb) = word (codes "binary") ∷ word (codes "msb") ∷ []

-- the lines of one value
abbrev pub machine_row : List ℕ → Row
machine_row s = row (word (codes "machine") ∷ str s ∷ [])

abbrev pub kind_row : Kind → Row
kind_row k = row (word (codes "kind") ∷ word (codes (kind_name k)) ∷ [])

abbrev pub input_row : List ℕ → Row
input_row s = row (word (codes "input") ∷ str s ∷ [])

abbrev pub output_row : Decoder → Row
output_row d = row (word (codes "output") ∷ decoder_t d)

abbrev pub tapes_row : ℕ → Row
tapes_row n = row (word (codes "tapes") ∷ sign 0x3D ∷ number (digits n) ∷ [])

abbrev pub blank_row : ℕ → Row
blank_row c = row (word (codes "blank") ∷ sign 0x3D ∷ quoted c ∷ [])

abbrev pub start_row : List ℕ → Row
start_row w = row (word (codes "start") ∷ sign 0x3D ∷ word w ∷ [])

-- a set behind a keyword
unfoldable pub set_row : {A : Type 0} → List ℕ → (A → TokenKind) → List A → Row
unfolding commas_t
set_row k f l = row (word k ∷ sign 0x3D ∷ sign 0x7B ∷ commas_t f l (sign 0x7D ∷ []))

abbrev pub action_read : ActionContent → TokenKind
action_read a = quoted a.read

abbrev pub action_write : ActionContent → TokenKind
action_write a = quoted a.write

abbrev pub action_dir : ActionContent → TokenKind
action_dir a = dir_kind a.dir

-- a rule behind `δ`
unfoldable pub rule_t : RuleContent → List TokenKind → List TokenKind
unfolding commas_t
rule_t r rest =
    sign 0x28 ∷ word r.from ∷ sign 0x2C ∷ sign 0x28 ∷ commas_t action_read r.actions
    (sign 0x29 ∷ sign 0x29 ∷ sign 0x3D ∷ sign 0x28 ∷ word r.to ∷ sign 0x2C ∷ sign 0x28 ∷ commas_t action_write r.actions
    (sign 0x29 ∷ sign 0x2C ∷ sign 0x28 ∷ commas_t action_dir r.actions
    (sign 0x29 ∷ sign 0x29 ∷ rest)))

unfoldable pub rule_row : RuleContent → Row
unfolding rule_t
rule_row r = record { body = word (codes "δ") ∷ rule_t r []; own = r.comment }

unfoldable pub rule_rows : List RuleContent → List Row → List Row
unfolding comment_rows rule_row
rule_rows [] rs = rs
rule_rows (r ∷ l) rs = comment_rows r.leading (rule_row r ∷ rule_rows l rs)

-- the rows of a plain form
unfoldable pub plain_rows : Content → List Row
unfolding comment_rows set_row rule_rows final_names digits
plain_rows m =
    comment_rows m.header
    (machine_row m.name
    ∷ kind_row m.kind
    ∷ input_row m.input
    ∷ output_row m.output
    ∷ tapes_row m.tapes
    ∷ only_row m.declared.states (set_row (codes "Q") word (map (λ s. s.name) m.states))
    (only_row m.declared.input_alphabet (set_row (codes "Σ") quoted m.sigma)
    (only_row m.declared.tape_alphabet (set_row (codes "Γ") quoted m.gamma)
    (only_row m.declared.blank (blank_row m.blank)
    (only_row m.declared.start (start_row m.start)
    (set_row (codes "F") word (final_names m.states)
    ∷ rule_rows m.rules
    (comment_rows m.trailing [])))))))

-- ---- lines without parts

-- the symbol of a unary output can be quoted
abbrev pub IsDecoder : Decoder → Type 0
IsDecoder Word = Unit {0}
IsDecoder (Unary c) = IsSymbol c
IsDecoder (Binary b) = Unit {0}

module _ {rest : List ℕ} {rs : List Row} (h : Lexes rest rs) where
  comment_lexes : (s : List ℕ) → IsComment s → Lexes (comment_line s rest) (comment_row s ∷ rs)
  unfolding flat_rows
  comment_lexes s g = record { lexes = comment-kinds s g rest ∙ ap (λ l. T.comment s ∷ newline ∷ l) h.lexes }

  machine_lexes : (s : List ℕ) → Lexes ((say "machine " ⨾ string s ⨾ end) rest) (machine_row s ∷ rs)
  unfolding flat_rows kinds
  machine_lexes s = record { lexes = ap (λ l. word (codes "machine") ∷ l) (string-kinds s (10 ∷ rest) ∙ ap (λ l. str s ∷ newline ∷ l) h.lexes) }

  input_lexes : (s : List ℕ) → Lexes ((say "input " ⨾ string s ⨾ end) rest) (input_row s ∷ rs)
  unfolding flat_rows kinds
  input_lexes s = record { lexes = ap (λ l. word (codes "input") ∷ l) (string-kinds s (10 ∷ rest) ∙ ap (λ l. str s ∷ newline ∷ l) h.lexes) }

  kind_lexes : (k : Kind) → Lexes ((say "kind " ⨾ say (kind_name k) ⨾ end) rest) (kind_row k ∷ rs)
  unfolding flat_rows kinds
  kind_lexes Acceptor = record { lexes = ap (λ l. word (codes "kind") ∷ word (codes "acceptor") ∷ newline ∷ l) h.lexes }
  kind_lexes Transducer = record { lexes = ap (λ l. word (codes "kind") ∷ word (codes "transducer") ∷ newline ∷ l) h.lexes }
  kind_lexes Enumerator = record { lexes = ap (λ l. word (codes "kind") ∷ word (codes "enumerator") ∷ newline ∷ l) h.lexes }
  kind_lexes Beaver = record { lexes = ap (λ l. word (codes "kind") ∷ word (codes "beaver") ∷ newline ∷ l) h.lexes }

  output_lexes : (d : Decoder) → IsDecoder d → Lexes ((say "output " ⨾ decoder d ⨾ end) rest) (output_row d ∷ rs)
  unfolding flat_rows kinds
  output_lexes Word g = record { lexes = ap (λ l. word (codes "output") ∷ word (codes "word") ∷ newline ∷ l) h.lexes }
  output_lexes (Unary c) g = record { lexes = ap (λ l. word (codes "output") ∷ word (codes "unary") ∷ l) (symbol-kinds c g (10 ∷ rest) ∙ ap (λ l. quoted c ∷ newline ∷ l) h.lexes) }
  output_lexes (Binary Lsb) g = record { lexes = ap (λ l. word (codes "output") ∷ word (codes "binary") ∷ word (codes "lsb") ∷ newline ∷ l) h.lexes }
  output_lexes (Binary Msb) g = record { lexes = ap (λ l. word (codes "output") ∷ word (codes "binary") ∷ word (codes "msb") ∷ newline ∷ l) h.lexes }

  tapes_lexes : (n : ℕ) → n < 256 → Lexes ((say "tapes = " ⨾ decimal n ⨾ end) rest) (tapes_row n ∷ rs)
  unfolding flat_rows kinds is_ascii_digit
  tapes_lexes n g = record {
    lexes = ap (λ l. word (codes "tapes") ∷ sign 0x3D ∷ l)
        (ap kinds (decimal-digits n (10 ∷ rest)) ∙ (number-kinds (digits n) (digits_number n g) 10 rest refl ∙ ap (λ l. number (digits n) ∷ newline ∷ l) h.lexes));
  }

  blank_lexes : (c : ℕ) → IsSymbol c → Lexes ((say "blank = " ⨾ symbol c ⨾ end) rest) (blank_row c ∷ rs)
  unfolding flat_rows kinds
  blank_lexes c g = record { lexes = ap (λ l. word (codes "blank") ∷ sign 0x3D ∷ l) (symbol-kinds c g (10 ∷ rest) ∙ ap (λ l. quoted c ∷ newline ∷ l) h.lexes) }

  start_lexes : (w : List ℕ) → IsWord w → Lexes ((say "start = " ⨾ verbatim w ⨾ end) rest) (start_row w ∷ rs)
  unfolding flat_rows kinds is_word_continue
  start_lexes w g = record { lexes = ap (λ l. word (codes "start") ∷ sign 0x3D ∷ l) (word-kinds w g 10 rest refl ∙ ap (λ l. word w ∷ newline ∷ l) h.lexes) }

-- ---- sets and rules

pub commas_t_append : {A : Type 0} (f : A → TokenKind) (l : List A) (a b : List TokenKind) → commas_t f l (a ++ b) ≡ commas_t f l a ++ b
unfolding commas_t
commas_t_append f [] a b = refl
commas_t_append f (x ∷ []) a b = refl
commas_t_append f (x ∷ y ∷ l) a b = ap (λ r. f x ∷ sign 0x2C ∷ r) (commas_t_append f (y ∷ l) a b)

pub rule_t_append : (r : RuleContent) (a b : List TokenKind) → rule_t r (a ++ b) ≡ rule_t r a ++ b
unfolding rule_t
rule_t_append r a b = simp (← commas_t_append)

module _ {rest : List ℕ} {rs : List Row} (h : Lexes rest rs) where
  set-tokens : {A : Type 0} {good : A → Type 0} {show : A → Piece} {f : A → TokenKind} → Prints good show f → (l : List A) → Every good l
      → kinds (commas show l (0x7D ∷ 10 ∷ rest)) ≡ commas_t f l (sign 0x7D ∷ []) ++ newline ∷ flat_rows rs
  unfolding kinds is_word_continue
  set-tokens {f = f} p l g = commas-kinds p l g 0x7D (10 ∷ rest) refl ∙ (commas_t_append f l (sign 0x7D ∷ []) (newline ∷ kinds rest) ∙ ap (λ t. commas_t f l (sign 0x7D ∷ []) ++ newline ∷ t) h.lexes)

  states_lexes : (l : List (List ℕ)) → Every IsWord l → Lexes ((say "Q = " ⨾ name_set l ⨾ end) rest) (set_row (codes "Q") word l ∷ rs)
  unfolding flat_rows kinds name_set set_row
  states_lexes l g = record { lexes = ap (λ t. word (codes "Q") ∷ sign 0x3D ∷ sign 0x7B ∷ t) (set-tokens name_prints l g) }

  finals_lexes : (l : List (List ℕ)) → Every IsWord l → Lexes ((say "F = " ⨾ name_set l ⨾ end) rest) (set_row (codes "F") word l ∷ rs)
  unfolding flat_rows kinds name_set set_row
  finals_lexes l g = record { lexes = ap (λ t. word (codes "F") ∷ sign 0x3D ∷ sign 0x7B ∷ t) (set-tokens name_prints l g) }

  sigma_lexes : (l : List ℕ) → Every IsSymbol l → Lexes ((say "Σ = " ⨾ symbol_set l ⨾ end) rest) (set_row (codes "Σ") quoted l ∷ rs)
  unfolding flat_rows kinds symbol_set set_row
  sigma_lexes l g = record { lexes = ap (λ t. word (codes "Σ") ∷ sign 0x3D ∷ sign 0x7B ∷ t) (set-tokens symbol_prints l g) }

  gamma_lexes : (l : List ℕ) → Every IsSymbol l → Lexes ((say "Γ = " ⨾ symbol_set l ⨾ end) rest) (set_row (codes "Γ") quoted l ∷ rs)
  unfolding flat_rows kinds symbol_set set_row
  gamma_lexes l g = record { lexes = ap (λ t. word (codes "Γ") ∷ sign 0x3D ∷ sign 0x7B ∷ t) (set-tokens symbol_prints l g) }

  only_lexes : (b : Bool) (p : Piece) (r : Row) → (b ≡ true → Lexes (p rest) (r ∷ rs)) → Lexes (only b p rest) (only_row b r rs)
  only_lexes true p r f = f refl
  only_lexes false p r f = h

-- a tape's action can be written
abbrev pub IsAction : ActionContent → Type 0
IsAction a = IsSymbol a.read × IsSymbol a.write

read_prints : Prints IsAction (λ a. symbol a.read) action_read
read_prints = record { prints = λ a g d r e. symbol-kinds a.read g.0 (d ∷ r) }

write_prints : Prints IsAction (λ a. symbol a.write) action_write
write_prints = record { prints = λ a g d r e. symbol-kinds a.write g.1 (d ∷ r) }

move_prints : Prints IsAction (λ a. direction a.dir) action_dir
move_prints = record { prints = λ a g d r e. dir_prints.prints a.dir tt d r e }

-- a rule can be written
pub record IsRule (r : RuleContent) : Type 0 where
  pub from_word : IsWord r.from
  pub to_word : IsWord r.to
  pub own : Maybe IsComment r.comment
  pub leads : Every IsComment r.leading
  pub acts : Every IsAction r.actions

rule-tokens : (r : RuleContent) → IsRule r → (rest : List ℕ) → kinds ((rule r ⨾ own_comment r.comment ⨾ end) rest) ≡ word (codes "δ") ∷ rule_t r (own_t r.comment (newline ∷ kinds rest))
unfolding kinds rule_t rule is_word_continue
rule-tokens r h rest =
    ap (λ l. word (codes "δ") ∷ sign 0x28 ∷ l) (word-kinds r.from h.from_word 0x2C _ refl
    ∙ ap (λ l. word r.from ∷ sign 0x2C ∷ sign 0x28 ∷ l) (commas-kinds read_prints r.actions h.acts 0x29 _ refl
    ∙ ap (λ l. commas_t action_read r.actions (sign 0x29 ∷ sign 0x29 ∷ sign 0x3D ∷ sign 0x28 ∷ l)) (word-kinds r.to h.to_word 0x2C _ refl
    ∙ ap (λ l. word r.to ∷ sign 0x2C ∷ sign 0x28 ∷ l) (commas-kinds write_prints r.actions h.acts 0x29 _ refl
    ∙ ap (λ l. commas_t action_write r.actions (sign 0x29 ∷ sign 0x2C ∷ sign 0x28 ∷ l)) (commas-kinds move_prints r.actions h.acts 0x29 _ refl
    ∙ ap (λ l. commas_t action_dir r.actions (sign 0x29 ∷ sign 0x29 ∷ l)) (own_kinds r.comment h.own rest))))))

rule_lexes : {rest : List ℕ} {rs : List Row} → Lexes rest rs → (r : RuleContent) → IsRule r → Lexes ((rule r ⨾ own_comment r.comment ⨾ end) rest) (rule_row r ∷ rs)
unfolding flat_rows rule_row
rule_lexes {rest} {rs} h r g = record {
  lexes = rule-tokens r g rest ∙ ap (λ l. word (codes "δ") ∷ l)
      (rule_t_append r [] (own_t r.comment (newline ∷ kinds rest)) ∙ ap (λ l. rule_t r [] ++ own_t r.comment (newline ∷ l)) h.lexes);
}

comments_lexes : {rest : List ℕ} {rs : List Row} → Lexes rest rs → (l : List (List ℕ)) → Every IsComment l → Lexes (each comment_line l rest) (comment_rows l rs)
unfolding each comment_rows
comments_lexes h [] g = h
comments_lexes h (s ∷ l) g = comment_lexes (comments_lexes h l g.1) s g.0

rules_lexes : {rest : List ℕ} {rs : List Row} → Lexes rest rs → (l : List RuleContent) → Every IsRule l → Lexes (each rule_lines l rest) (rule_rows l rs)
unfolding each rule_lines rule_rows
rules_lexes h [] g = h
rules_lexes h (r ∷ l) g = comments_lexes (rule_lexes (rules_lexes h l g.1) r g.0) r.leading g.0.leads

-- ---- the whole

-- what the tokens of a content's plain form need
pub record Written (m : Content) : Type 0 where
  pub header-comments : Every IsComment m.header
  pub trailing-comments : Every IsComment m.trailing
  pub output-symbol : IsDecoder m.output
  pub tapes-byte : m.tapes < 256
  pub state_words_lem : Every (λ s. IsWord s.name) m.states
  pub sigma-symbols : m.declared.input_alphabet ≡ true → Every IsSymbol m.sigma
  pub gamma-symbols : m.declared.tape_alphabet ≡ true → Every IsSymbol m.gamma
  pub blank_symbol : IsSymbol m.blank
  pub start_word : m.declared.start ≡ true → IsWord m.start
  pub rules-written : Every IsRule m.rules

-- what holds of every state's name holds of the names of the final ones
pub finals_every : (p : List ℕ → Type 0) (l : List StateContent) → Every (λ s. p s.name) l → Every p (final_names l)
unfolding final_names
finals_every p [] g = tt
finals_every p (s ∷ l) g = by_test s.final (λ e. rw (e, final_names) (g.0, finals_every p l g.1)) (λ e. rw (e, final_names) (finals_every p l g.1))

pub names_every : (p : List ℕ → Type 0) (l : List StateContent) → Every (λ s. p s.name) l → Every p (map (λ s. s.name) l)
names_every p l g = every_map (λ s. p s.name) p (λ s. s.name) (λ s h. h) l g

nothing_lexes : Lexes [] []
unfolding flat_rows kinds
nothing_lexes = record { lexes = refl }

pub plain_lexes : (m : Content) → Written m → Lexes (plain m) (plain_rows m)
unfolding plain pieces plain_rows
plain_lexes m g =
    let end = comments_lexes nothing_lexes m.trailing g.trailing-comments in
    let rules = rules_lexes end m.rules g.rules-written in
    let finals = finals_lexes rules (final_names m.states) (finals_every IsWord m.states g.state_words_lem) in
    let start = only_lexes finals m.declared.start _ _ (λ e. start_lexes finals m.start (g.start_word e)) in
    let blank = only_lexes start m.declared.blank _ _ (λ e. blank_lexes start m.blank g.blank_symbol) in
    let gamma = only_lexes blank m.declared.tape_alphabet _ _ (λ e. gamma_lexes blank m.gamma (g.gamma-symbols e)) in
    let sigma = only_lexes gamma m.declared.input_alphabet _ _ (λ e. sigma_lexes gamma m.sigma (g.sigma-symbols e)) in
    let states = only_lexes sigma m.declared.states _ _ (λ e. states_lexes sigma (map (λ s. s.name) m.states) (names_every IsWord m.states g.state_words_lem)) in
    comments_lexes
    (machine_lexes (kind_lexes (input_lexes (output_lexes (tapes_lexes states m.tapes g.tapes-byte) m.output g.output-symbol) m.input) m.kind) m.name)
    m.header
    g.header-comments
