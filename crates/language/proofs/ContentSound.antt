-- A machine that was read can be written: its plain form has tokens, lines and no diagnostic, and characters of the set.
use Prim.Native.Nat.{ℕ, ◌+◌, ◌≤◌, ◌<◌}
use Prim.Native.Char.{code}
use Prim.Native.String as S
use mathlib.Core.Bool.{Bool, true, false, ◌&&◌, ◌||◌, false≢true}
use mathlib.Core.List.{List, [], ◌∷◌, ◌++◌, map}
use Rattle.std.specs.Prelude.{Option, None, Some, unwrap_or, option_to_list, is_some}
use mathlib.Core.Path.{◌≡◌, refl, sym, subst}
use native.Mathlib.Omega.{arith}
use borrow.Author.Tests.{leb-true}
use lib.Dec.{eqb, leb}
use lib.ListN.{length}
use Rattle.lexer.specs.Text.{same, codes}
use Rattle.machine.specs.declared.Kind.{Kind}
use Rattle.machine.specs.declared.Kind.TheVariants.{Acceptor, Transducer, Enumerator, Beaver}
use Rattle.machine.specs.declared.BitOrder.TheVariants.{Lsb, Msb}
use Rattle.machine.specs.declared.Decoder.{Decoder}
use Rattle.machine.specs.declared.Decoder.TheVariants.{Word, Unary, Binary}
use Rattle.language.specs.Machine.{Dir, left, right, stay}
use Rattle.language.specs.Content.{StateContent, RuleContent, Content}
use Rattle.language.specs.Lines.{RawSymbol, RawDecoder, raw_word, raw_unary, raw_binary}
use Rattle.language.specs.Assembly.{resolve}
use Rattle.language.specs.Infer.{member, fresh, nothing, resolve_decoder}
use Rattle.language.specs.Plain.{Piece, ◌⨾◌, say, verbatim, end, only, each, commas, symbol, direction, escaped, in_string, escaped_text, string, decimal, comment, comment_line, own_comment, kind_name, decoder, name_set, symbol_set, final_names, rule, rule_lines, pieces, plain}
use Rattle.language.proofs.Every.{by_test, and_left, and_right, Every, Maybe, every_append, every_map, every_impl}
use Rattle.language.proofs.PlainLex.{IsWord, IsSymbol, IsComment}
use Rattle.language.proofs.Decimal.{digits, decimal-digits, below, at_below}
use Rattle.language.proofs.PlainRows.{IsDecoder, IsAction, IsRule, Written, finals_every, names_every}
use Rattle.language.proofs.PlainParse.{NotBlank, Parsed, Parsable}
use Rattle.language.proofs.PlainAssembly.{Assembles}
use Rattle.language.proofs.LexSound.{fine, Fine, AllFine}
use Rattle.language.proofs.ParseSound.{GoodName, GoodCode, GoodSymbol, GoodComment, GoodOutput}
use Rattle.language.proofs.AssemblySound.{GoodAction, GoodRule, GoodFacts, resolve_good, blank_good}
use Rattle.language.proofs.Facts.{Facts, mentions_c, marked_c, candidates_c, with_blank_c, gamma_c, sigma_c, tapes_c, blank_c, names_c, start_c, content_from}
use Rattle.language.proofs.InferAgain.{fresh_every}

abbrev pub GoodDecoder : Decoder → Type 0
GoodDecoder Word = Unit {0}
GoodDecoder (Unary c) = GoodCode c
GoodDecoder (Binary b) = Unit {0}

-- a content that a plain form can write
pub record GoodContent (m : Content) : Type 0 where
  pub c_name : AllFine m.name
  pub c_input : AllFine m.input
  pub c_output : GoodDecoder m.output
  pub c_tapes : m.tapes < 256
  pub c_blank : GoodCode m.blank
  pub c_start : m.declared.start ≡ true → GoodName m.start
  pub c_states : Every (λ s. GoodName s.name) m.states
  pub c_sigma : m.declared.input_alphabet ≡ true → Every GoodCode m.sigma
  pub c_gamma : m.declared.tape_alphabet ≡ true → Every GoodCode m.gamma
  pub c_header : Every GoodComment m.header
  pub c_trailing : Every GoodComment m.trailing
  pub c_rules : Every GoodRule m.rules
  pub c_count : length m.rules ≤ 262144
  pub c_test : List ℕ → Bool
  pub c_names : List (List ℕ)
  pub c_marks : m.states ≡ marked_c c_test nothing c_names

-- ---- inference keeps what is well formed

else_fine : (o : Option (List ℕ)) → Maybe AllFine o → AllFine (unwrap_or o [])
else_fine None h = tt
else_fine (Some s) h = h

decoder_good : (b : ℕ) → GoodCode b → (o : RawDecoder) → GoodOutput o → GoodDecoder (resolve_decoder b o)
unfolding resolve_decoder
decoder_good b g raw_word h = tt
decoder_good b g (raw_unary s) h = resolve_good b s g h
decoder_good b g (raw_binary o) h = tt

output_good : (b : ℕ) → GoodCode b → (o : Option RawDecoder) → Maybe GoodOutput o → GoodDecoder (resolve_decoder b (unwrap_or o raw_word))
output_good b g None h = decoder_good b g raw_word tt
output_good b g (Some o) h = decoder_good b g o h

tapes_good : (o : Option ℕ) → tapes_c o < 256
unfolding tapes_c
tapes_good None = omega arith
tapes_good (Some n) = by_test (leb n 255) (λ e. let h : n ≤ 255 = leb-true n 255 e in rw (e, tapes_c) (omega arith)) (λ e. rw (e, tapes_c) (omega arith))

mentions_good : (rs : List RuleContent) → Every GoodRule rs → Every GoodName (mentions_c rs)
unfolding mentions_c
mentions_good [] h = tt
mentions_good (r ∷ rs) h = (h.0.rule_from, (h.0.rule_to, mentions_good rs h.1))

option_names : (o : Option (List ℕ)) → Maybe GoodName o → Every GoodName (option_to_list o)
option_names None h = tt
option_names (Some w) h = (h, tt)

else_names : (q : Option (List (List ℕ))) (l : List (List ℕ)) → Maybe (Every GoodName) q → Every GoodName l → Every GoodName (unwrap_or q l)
else_names None l h k = k
else_names (Some q) l h k = h

names_good : (f : Facts) → GoodFacts f → Every GoodName (names_c f)
unfolding names_c
names_good f g = else_names f.states _ g.f_states
    (fresh_every GoodName nothing (option_to_list f.start ++ mentions_c f.rules ++ fresh same nothing f.finals)
    (every_append GoodName (option_to_list f.start ++ mentions_c f.rules) (fresh same nothing f.finals)
    (every_append GoodName (option_to_list f.start) (mentions_c f.rules) (option_names f.start g.f_start) (mentions_good f.rules g.f_rules))
    (fresh_every GoodName nothing f.finals g.f_finals)))

marked_good : (t known : List ℕ → Bool) (l : List (List ℕ)) → Every GoodName l → Every (λ s. GoodName s.name) (marked_c t known l)
unfolding marked_c
marked_good t known [] h = tt
marked_good t known (q ∷ l) h = (h.0, marked_good t (λ y. same q y || known y) l h.1)

start_good : (o : Option (List ℕ)) (names : List (List ℕ)) → Maybe GoodName o → is_some o ≡ true → GoodName (start_c o names)
unfolding start_c
start_good None names h e = absurd (false≢true e)
start_good (Some w) names h e = h

resolved_good : (b : ℕ) → GoodCode b → (l : List RawSymbol) → Every GoodSymbol l → Every GoodCode (map (resolve b) l)
resolved_good b g l h = every_map GoodSymbol GoodCode (resolve b) (λ s k. resolve_good b s g k) l h

with_good : (b : ℕ) → GoodCode b → (l : List ℕ) → Every GoodCode l → Every GoodCode (with_blank_c b l)
unfolding with_blank_c
with_good b g l h = by_test (member eqb l b) (λ e. rw (e, with_blank_c) h) (λ e. rw (e, with_blank_c) (every_append GoodCode l (b ∷ []) h (g, tt)))

sigma_good : (b : ℕ) → GoodCode b → (o : Option (List RawSymbol)) (g : List ℕ) → Maybe (Every GoodSymbol) o → is_some o ≡ true → Every GoodCode (sigma_c b o g)
unfolding sigma_c
sigma_good b k None g h e = absurd (false≢true e)
sigma_good b k (Some s) g h e = resolved_good b k s h

gamma_good : (b : ℕ) → GoodCode b → (o : Option (List RawSymbol)) (cs : List ℕ) → Maybe (Every GoodSymbol) o → is_some o ≡ true → Every GoodCode (gamma_c b o cs)
unfolding gamma_c
gamma_good b k None cs h e = absurd (false≢true e)
gamma_good b k (Some s) cs h e = with_good b k (map (resolve b) s) (resolved_good b k s h)

pub content_good : (f : Facts) → GoodFacts f → GoodContent (content_from f)
unfolding content_from
content_good f g =
    let b = blank_c f.blank in
    let k = blank_good f.blank g.f_blank in
    record {
      c_name = else_fine f.name g.f_name;
      c_input = else_fine f.input g.f_input;
      c_output = output_good b k f.output g.f_output;
      c_tapes = tapes_good f.tapes;
      c_blank = k;
      c_start = start_good f.start (names_c f) g.f_start;
      c_states = marked_good (member same (fresh same nothing f.finals)) nothing (names_c f) (names_good f g);
      c_sigma = sigma_good b k f.sigma (gamma_c b f.gamma (candidates_c b f.sigma f.rules (unwrap_or f.input []))) g.f_sigma;
      c_gamma = gamma_good b k f.gamma (candidates_c b f.sigma f.rules (unwrap_or f.input [])) g.f_gamma;
      c_header = g.f_header;
      c_trailing = g.f_trailing;
      c_rules = g.f_rules;
      c_count = g.f_count;
      c_test = member same (fresh same nothing f.finals);
      c_names = names_c f;
      c_marks = refl;
    }

-- ---- what the round trip asks

comments_are : (l : List (List ℕ)) → Every GoodComment l → Every IsComment l
comments_are l h = every_impl GoodComment IsComment (λ s g. g.0) l h

maybe_is : (o : Option (List ℕ)) → Maybe GoodComment o → Maybe IsComment o
maybe_is None h = tt
maybe_is (Some s) h = h.0

codes_are : (l : List ℕ) → Every GoodCode l → Every IsSymbol l
codes_are l h = every_impl GoodCode IsSymbol (λ c g. g.0) l h

decoder_is : (d : Decoder) → GoodDecoder d → IsDecoder d
decoder_is Word h = tt
decoder_is (Unary c) h = h.0
decoder_is (Binary b) h = tt

rule_is : (r : RuleContent) → GoodRule r → IsRule r
rule_is r h = record {
  from_word = h.rule_from.name-word;
  to_word = h.rule_to.name-word;
  own = maybe_is r.comment h.rule_own;
  leads = comments_are r.leading h.rule-leads;
  acts = every_impl GoodAction IsAction (λ a g. (g.0.0, g.1.0)) r.actions h.rule-actions;
}

pub content_written : (m : Content) → GoodContent m → Written m
content_written m g = record {
  header-comments = comments_are m.header g.c_header;
  trailing-comments = comments_are m.trailing g.c_trailing;
  output-symbol = decoder_is m.output g.c_output;
  tapes-byte = g.c_tapes;
  state_words_lem = every_impl (λ s. GoodName s.name) (λ s. IsWord s.name) (λ s k. k.name-word) m.states g.c_states;
  sigma-symbols = λ e. codes_are m.sigma (g.c_sigma e);
  gamma-symbols = λ e. codes_are m.gamma (g.c_gamma e);
  blank_symbol = g.c_blank.0;
  start_word = λ e. (g.c_start e).name-word;
  rules-written = every_impl GoodRule IsRule rule_is m.rules g.c_rules;
}

pub content_parsable : (m : Content) → GoodContent m → Parsable m
content_parsable m g = record {
  tapes_small = g.c_tapes;
  state-names = every_impl (λ s. GoodName s.name) (λ s. NotBlank s.name) (λ s k. k.name_blank) m.states g.c_states;
  start_name_lem = λ e. (g.c_start e).name_blank;
  rules_parsed = every_impl GoodRule Parsed (λ r k. record { from_name = k.rule_from.name_blank; to_name = k.rule_to.name_blank; some-actions = k.rule-some }) m.rules g.c_rules;
}

pub content_assembles : (m : Content) → GoodContent m → Assembles m
content_assembles m g = record { tapes-byte = g.c_tapes; few_rules = g.c_count; test = g.c_test; names = g.c_names; marks = g.c_marks }

-- ---- the characters of a plain form

all_fine : List ℕ → Bool
unfolding fine
all_fine [] = true
all_fine (c ∷ l) = fine c && all_fine l

all_fine_lem : (l : List ℕ) → all_fine l ≡ true → AllFine l
unfolding all_fine
all_fine_lem [] e = tt
all_fine_lem (c ∷ l) e = (and_left (fine c) (all_fine l) e, all_fine_lem l (and_right (fine c) (all_fine l) e))

fine_append : (l r : List ℕ) → AllFine l → AllFine r → AllFine (l ++ r)
fine_append l r h k = every_append (λ c. fine c ≡ true) l r h k

all_digits : below (λ n. all_fine (digits n)) 256 ≡ true
unfolding below all_fine digits
all_digits = refl

fine_digits : (n : ℕ) → n < 256 → AllFine (digits n)
fine_digits n h = all_fine_lem (digits n) (at_below (λ n. all_fine (digits n)) 256 all_digits n h)

-- a piece adds only characters of the set
pub record FinePiece (p : Piece) : Type 0 where
  pub adds : (rest : List ℕ) → AllFine rest → AllFine (p rest)

say_adds : (s : S.String) → all_fine (codes s) ≡ true → (rest : List ℕ) → AllFine rest → AllFine (say s rest)
unfolding all_fine
say_adds S.[] e rest h = h
say_adds (S.◌∷◌ c s) e rest h = (and_left (fine (code c)) (all_fine (codes s)) e, say_adds s (and_right (fine (code c)) (all_fine (codes s)) e) rest h)

fine_say : (s : S.String) → all_fine (codes s) ≡ true → FinePiece (say s)
fine_say s e = record { adds = say_adds s e }

infixr 20 ◌then◌
◌then◌ : {p q : Piece} → FinePiece p → FinePiece q → FinePiece (p ⨾ q)
◌then◌ {p} {q} h k = record { adds = λ rest g. h.adds (q rest) (k.adds rest g) }

fine_nothing : FinePiece (λ rest. rest)
fine_nothing = record { adds = λ rest g. g }

fine_verbatim : (w : List ℕ) → AllFine w → FinePiece (verbatim w)
fine_verbatim w h = record { adds = λ rest g. fine_append w rest h g }

fine_end : FinePiece end
unfolding fine
fine_end = record { adds = λ rest g. (refl, g) }

fine_only : (b : Bool) (p : Piece) → (b ≡ true → FinePiece p) → FinePiece (only b p)
fine_only true p h = h refl
fine_only false p h = fine_nothing

each_adds : {A : Type 0} (good : A → Type 0) (show : A → Piece) → ((a : A) → good a → FinePiece (show a)) → (l : List A) → Every good l → (rest : List ℕ) → AllFine rest → AllFine (each show l rest)
unfolding each
each_adds good show e [] h rest g = g
each_adds good show e (a ∷ l) h rest g = (e a h.0).adds (each show l rest) (each_adds good show e l h.1 rest g)

fine_each : {A : Type 0} (good : A → Type 0) (show : A → Piece) → ((a : A) → good a → FinePiece (show a)) → (l : List A) → Every good l → FinePiece (each show l)
fine_each good show e l h = record { adds = each_adds good show e l h }

commas_adds : {A : Type 0} (good : A → Type 0) (show : A → Piece) → ((a : A) → good a → FinePiece (show a)) → (l : List A) → Every good l → (rest : List ℕ) → AllFine rest → AllFine (commas show l rest)
unfolding commas fine
commas_adds good show e [] h rest g = g
commas_adds good show e (a ∷ []) h rest g = (e a h.0).adds rest g
commas_adds good show e (a ∷ b ∷ l) h rest g = (e a h.0).adds (say ", " (commas show (b ∷ l) rest)) (refl, (refl, commas_adds good show e (b ∷ l) h.1 rest g))

fine_commas : {A : Type 0} (good : A → Type 0) (show : A → Piece) → ((a : A) → good a → FinePiece (show a)) → (l : List A) → Every good l → FinePiece (commas show l)
fine_commas good show e l h = record { adds = commas_adds good show e l h }

fine_symbol : (c : ℕ) → Fine c → FinePiece (symbol c)
unfolding fine
fine_symbol c h = record { adds = λ rest g. (refl, (h, (refl, g))) }

fine_direction : (d : Dir) → FinePiece (direction d)
unfolding fine
fine_direction left = record { adds = λ rest g. (refl, g) }
fine_direction right = record { adds = λ rest g. (refl, g) }
fine_direction stay = record { adds = λ rest g. (refl, g) }

escaped_fine : (c : ℕ) → Maybe Fine (escaped c)
unfolding escaped fine
escaped_fine c = by_test (eqb c 0x22) (λ t. rw (t, escaped) refl) (λ t. rw (t, escaped)
    (by_test (eqb c 0x5C) (λ t. rw t refl) (λ t. rw t (by_test (eqb c 10) (λ t. rw t refl) (λ t. rw t (by_test (eqb c 9) (λ t. rw t refl) (λ t. rw t tt)))))))

in_string_lem : (o : Option ℕ) (c : ℕ) → Maybe Fine o → Fine c → (rest : List ℕ) → AllFine rest → AllFine (in_string o c rest)
unfolding in_string fine
in_string_lem None c h k rest g = (k, g)
in_string_lem (Some e) c h k rest g = (refl, (h, g))

text_adds : (s : List ℕ) → AllFine s → (rest : List ℕ) → AllFine rest → AllFine (escaped_text s rest)
unfolding escaped_text
text_adds [] h rest g = g
text_adds (c ∷ s) h rest g = in_string_lem (escaped c) c (escaped_fine c) h.0 (escaped_text s rest) (text_adds s h.1 rest g)

fine_string : (s : List ℕ) → AllFine s → FinePiece (string s)
unfolding string fine
fine_string s h = record { adds = λ rest g. (refl, text_adds s h (0x22 ∷ rest) (refl, g)) }

fine_decimal : (n : ℕ) → n < 256 → FinePiece (decimal n)
fine_decimal n h = record { adds = λ rest g. subst AllFine (sym (decimal-digits n rest)) (fine_append (digits n) rest (fine_digits n h) g) }

fine_comment : (s : List ℕ) → AllFine s → FinePiece (comment s)
unfolding fine
fine_comment [] h = record { adds = λ rest g. (refl, (refl, g)) }
fine_comment (c ∷ s) h = record { adds = λ rest g. (refl, (refl, (refl, fine_append (c ∷ s) rest h g))) }

fine_line : (s : List ℕ) → GoodComment s → FinePiece (comment_line s)
fine_line s h = fine_comment s h.1 then fine_end

fine_own : (o : Option (List ℕ)) → Maybe GoodComment o → FinePiece (own_comment o)
unfolding all_fine
fine_own None h = fine_nothing
fine_own (Some s) h = fine_say " " refl then fine_comment s h.1

fine_kind : (k : Kind) → FinePiece (say (kind_name k))
unfolding all_fine
fine_kind Acceptor = fine_say "acceptor" refl
fine_kind Transducer = fine_say "transducer" refl
fine_kind Enumerator = fine_say "enumerator" refl
fine_kind Beaver = fine_say "beaver" refl

fine_decoder : (d : Decoder) → GoodDecoder d → FinePiece (decoder d)
unfolding all_fine
fine_decoder Word h = fine_say "word" refl
fine_decoder (Unary c) h = fine_say "unary " refl then fine_symbol c h.1
fine_decoder (Binary Lsb) h = fine_say "binary lsb" refl
fine_decoder (Binary Msb) h = fine_say "binary msb" refl

fine_names : (l : List (List ℕ)) → Every AllFine l → FinePiece (name_set l)
unfolding name_set all_fine
fine_names l h = fine_say "{" refl then fine_commas AllFine verbatim fine_verbatim l h then fine_say "}" refl

fine_symbols : (l : List ℕ) → Every GoodCode l → FinePiece (symbol_set l)
unfolding symbol_set all_fine
fine_symbols l h = fine_say "{" refl then fine_commas GoodCode symbol (λ c g. fine_symbol c g.1) l h then fine_say "}" refl

fine_rule : (r : RuleContent) → GoodRule r → FinePiece (rule r)
unfolding rule all_fine
fine_rule r h =
    fine_say "δ(" refl then fine_verbatim r.from h.rule_from.name_fine then fine_say ", (" refl
    then fine_commas GoodAction (λ a. symbol a.read) (λ a g. fine_symbol a.read g.0.1) r.actions h.rule-actions
    then fine_say ")) = (" refl then fine_verbatim r.to h.rule_to.name_fine then fine_say ", (" refl
    then fine_commas GoodAction (λ a. symbol a.write) (λ a g. fine_symbol a.write g.1.1) r.actions h.rule-actions
    then fine_say "), (" refl then fine_commas GoodAction (λ a. direction a.dir) (λ a g. fine_direction a.dir) r.actions h.rule-actions then fine_say "))" refl

fine_rules : (r : RuleContent) → GoodRule r → FinePiece (rule_lines r)
unfolding rule_lines
fine_rules r h = fine_each GoodComment comment_line fine_line r.leading h.rule-leads then fine_rule r h then fine_own r.comment h.rule_own then fine_end

name_fines : (l : List StateContent) → Every (λ s. GoodName s.name) l → Every (λ s. AllFine s.name) l
name_fines l h = every_impl (λ s. GoodName s.name) (λ s. AllFine s.name) (λ s g. g.name_fine) l h

fine_pieces : (m : Content) → GoodContent m → FinePiece (pieces m)
unfolding pieces all_fine
fine_pieces m g =
    fine_each GoodComment comment_line fine_line m.header g.c_header
    then fine_say "machine " refl then fine_string m.name g.c_name then fine_end
    then fine_say "kind " refl then fine_kind m.kind then fine_end
    then fine_say "input " refl then fine_string m.input g.c_input then fine_end
    then fine_say "output " refl then fine_decoder m.output g.c_output then fine_end
    then fine_say "tapes = " refl then fine_decimal m.tapes g.c_tapes then fine_end
    then fine_only m.declared.states _ (λ e. fine_say "Q = " refl then fine_names (map (λ s. s.name) m.states) (names_every AllFine m.states (name_fines m.states g.c_states)) then fine_end)
    then fine_only m.declared.input_alphabet _ (λ e. fine_say "Σ = " refl then fine_symbols m.sigma (g.c_sigma e) then fine_end)
    then fine_only m.declared.tape_alphabet _ (λ e. fine_say "Γ = " refl then fine_symbols m.gamma (g.c_gamma e) then fine_end)
    then fine_only m.declared.blank _ (λ e. fine_say "blank = " refl then fine_symbol m.blank g.c_blank.1 then fine_end)
    then fine_only m.declared.start _ (λ e. fine_say "start = " refl then fine_verbatim m.start (g.c_start e).name_fine then fine_end)
    then fine_say "F = " refl then fine_names (final_names m.states) (finals_every AllFine m.states (name_fines m.states g.c_states)) then fine_end
    then fine_each GoodRule rule_lines fine_rules m.rules g.c_rules
    then fine_each GoodComment comment_line fine_line m.trailing g.c_trailing

-- every character of a plain form is of the set
pub plain_fine : (m : Content) → GoodContent m → AllFine (plain m)
unfolding plain
plain_fine m g = (fine_pieces m g).adds [] tt
