-- The words with a meaning: the values of their tokens are those of the tables of the language.
use Rattle.std.specs.Prelude.{None, Option as Optional, Some, Option}
use mathlib.Core.Path.{◌≡◌, refl, sym, ap, ◌∙◌}
use Prim.Native.Nat.{ℕ, suc, ◌+◌}
use native.Mathlib.Omega.{arith}
use mathlib.Core.Bool.{Bool, true, false, cond}
use mathlib.Core.List.{List, [], ◌∷◌}
use lib.Dec.{eqb, leb, ltb}
use lib.ListN.{length}
use borrow.Author.Tests.{eqb-true, eqb-false, leb-true, leb-false, lt-ltb, le-ltb, le-leb, lt-leb}
use Rattle.lexer.specs.Tokens.{TokenKind, word, number, quoted, str, sign, comment, newline, unterminated_string, unterminated_quote, Span}
use Rattle.lexer.specs.Words.{kind_number, word_value, token_value, keyword, position}
use Rattle.machine.specs.declared.Kind.{Kind}
use Rattle.machine.specs.declared.Kind.TheVariants.{Acceptor, Transducer, Enumerator, Beaver}
use Rattle.machine.specs.declared.BitOrder.{BitOrder}
use Rattle.machine.specs.declared.BitOrder.TheVariants.{Lsb, Msb}
use Rattle.language.specs.Lines.{keywords, Keyword as Name, meaning_of, word_in, kinds, outputs, orders, OutputWord, word_output, unary_output, binary_output, machine_word, kind_word, input_word, output_word, tapes_word, states_word, sigma_word, gamma_word, blank_word, start_word, final_word, delta_word}
use Rattle.language.proofs.Every.{by_test}
use Rattle.parser.specs.Views.{Row as Start, row as start, is_choice, lookup, keyword_of}
use Rattle.parser.specs.Meaning.{token_of, SoundAs}
use Rattle.parser.specs.declared.ItemKind.{ItemKind}
use Rattle.parser.specs.declared.ItemKind.TheVariants.{Machine, Kind as KindOf, Input, Output, Tapes, States, InputAlphabet, TapeAlphabet, Blank, Start as StartOf, Final, Transition}
use Rattle.parser.proofs.Tables.{Row, row, find, Codes, member, known, valued, table_rule}
use Rattle.parser.proofs.Views.{is_some, tok, Sees, sign_rule, unnamed_number}

-- ---- meanings with values in a row
abbrev rows_from : {A : Type 0} → ℕ → List A → List (Row A)
rows_from n [] = []
rows_from n (a ∷ l) = row n a ∷ rows_from (suc n) l

in_range : {A : Type 0} (n : ℕ) (l : List A) (v : ℕ) → is_some (find (rows_from n l) v) ≡ cond (leb n v) (ltb v (n + length l)) false
unfolding find
in_range n [] v =
    by_test (leb n v)
    (λ y. rw y (sym (le-ltb v (n + 0) (omega (arith, leb-true n v y)))))
    (λ y. rw y)
in_range {A} n (a ∷ l) v =
    by_test (eqb v n)
    (λ y.
    let e : v ≡ n = eqb-true v n y in
    let p : leb n v ≡ true = le-leb n v (omega arith) in
    let q : ltb v (n + suc (length l)) ≡ true = lt-ltb v (n + suc (length l)) (omega arith) in
    ap (λ (b : Bool). is_some {A = A} (elim b [ true ↦ Some a | false ↦ find (rows_from (suc n) l) v ])) y ∙ rw (p, q))
    (λ y.
    let e : v ≡ n → ⊥ = eqb-false v n y in
    let s : suc n + length l ≡ n + suc (length l) = omega arith in
    ap (λ (b : Bool). is_some {A = A} (elim b [ true ↦ Some a | false ↦ find (rows_from (suc n) l) v ])) y ∙ in_range (suc n) l v ∙
    by_test (leb n v)
    (λ z. let p : leb (suc n) v ≡ true = le-leb (suc n) v (omega (arith, leb-true n v z)) in rw (p, z, s))
    (λ z. let p : leb (suc n) v ≡ false = lt-leb (suc n) v (omega (arith, leb-false n v z)) in rw (p, z)))

-- what a token's soundness says of a word
pub codes_of_lem : (w : List ℕ) (p : Span) → SoundAs (word w) p → Codes w
unfolding SoundAs
codes_of_lem [] p s = tt
codes_of_lem (c ∷ []) p s = s
codes_of_lem (c ∷ d ∷ w) p s = tt

-- a table whose meanings have the values from first to last
sees_choice : {A : Type 0} (l : List (List ℕ × A)) (first last : ℕ) (r : List (Row A)) → ((w : List ℕ) → Codes w → find r (word_value w) ≡ meaning_of l w)
    → ((v : ℕ) → is_some (find r v) ≡ cond (leb first v) (leb v last) false) → Sees (is_choice first last) (word_in l)
unfolding is_choice token_of kind_number token_value word_in
sees_choice l first last r rule range (word w) p q s = sym (range (word_value w)) ∙ ap is_some (rule w (codes_of_lem w p s))
sees_choice l first last r rule range (number w) p q s = refl
sees_choice l first last r rule range (quoted c) p q s = refl
sees_choice l first last r rule range (str t) p q s = refl
sees_choice l first last r rule range (sign c) p q s =
    sign_rule (λ d. is_choice first last (token_of (tok (sign d) p q))) (λ d. false) refl refl refl refl refl refl refl (λ d u. rw (unnamed_number d u)) c
sees_choice l first last r rule range (comment t) p q s = refl
sees_choice l first last r rule range newline p q s = refl
sees_choice l first last r rule range unterminated_string p q s = refl
sees_choice l first last r rule range unterminated_quote p q s = refl

-- up to a number, or below the next
below_next : (v n : ℕ) → ltb v (suc n) ≡ leb v n
below_next v n = by_test (leb v n) (λ y. lt-ltb v (suc n) (omega (arith, leb-true v n y)) ∙ sym y) (λ y. le-ltb v (suc n) (omega (arith, leb-false v n y)) ∙ sym y)

abbrev kind_rows : List (Row Kind)
kind_rows = rows_from 0x110010 (Acceptor ∷ Transducer ∷ Enumerator ∷ Beaver ∷ [])

kind-rule : (w : List ℕ) → Codes w → find kind_rows (word_value w) ≡ meaning_of kinds w
unfolding find word_value keyword position meaning_of known member valued
kind-rule = table_rule kinds kind_rows refl refl refl refl

pub sees_kind : Sees (is_choice 0x110010 0x110013) (word_in kinds)
sees_kind = sees_choice kinds 0x110010 0x110013 kind_rows kind-rule (λ v. in_range 0x110010 (Acceptor ∷ Transducer ∷ Enumerator ∷ Beaver ∷ []) v ∙ ap (λ (b : Bool). cond (leb 0x110010 v) b false) (below_next v 0x110013))

abbrev pub output_rows : List (Row OutputWord)
output_rows = rows_from 0x110014 (word_output ∷ unary_output ∷ binary_output ∷ [])

pub output-rule : (w : List ℕ) → Codes w → find output_rows (word_value w) ≡ meaning_of outputs w
unfolding find word_value keyword position meaning_of known member valued
output-rule = table_rule outputs output_rows refl refl refl refl

pub sees_output : Sees (is_choice 0x110014 0x110016) (word_in outputs)
sees_output = sees_choice outputs 0x110014 0x110016 output_rows output-rule (λ v. in_range 0x110014 (word_output ∷ unary_output ∷ binary_output ∷ []) v ∙ ap (λ (b : Bool). cond (leb 0x110014 v) b false) (below_next v 0x110016))

abbrev order_rows : List (Row BitOrder)
order_rows = rows_from 0x110017 (Lsb ∷ Msb ∷ [])

order_rule : (w : List ℕ) → Codes w → find order_rows (word_value w) ≡ meaning_of orders w
unfolding find word_value keyword position meaning_of known member valued
order_rule = table_rule orders order_rows refl refl refl refl

pub sees_order : Sees (is_choice 0x110017 0x110018) (word_in orders)
sees_order = sees_choice orders 0x110017 0x110018 order_rows order_rule (λ v. in_range 0x110017 (Lsb ∷ Msb ∷ []) v ∙ ap (λ (b : Bool). cond (leb 0x110017 v) b false) (below_next v 0x110018))

-- ---- the word that starts an item
abbrev pub kind_of : Name → ItemKind
kind_of machine_word = Machine
kind_of kind_word = KindOf
kind_of input_word = Input
kind_of output_word = Output
kind_of tapes_word = Tapes
kind_of states_word = States
kind_of sigma_word = InputAlphabet
kind_of gamma_word = TapeAlphabet
kind_of blank_word = Blank
kind_of start_word = StartOf
kind_of final_word = Final
kind_of delta_word = Transition

abbrev pub start_of : Option Name → Optional ItemKind
start_of None = None
start_of (Some k) = Some (kind_of k)

abbrev start_rows : List (Row Name)
start_rows =
    row 0x110001 machine_word ∷ row 0x110002 kind_word ∷ row 0x110003 input_word ∷ row 0x110004 output_word ∷ row 0x110005 tapes_word ∷ row 0x51 states_word ∷
    row 0x3A3 sigma_word ∷ row 0x110008 sigma_word ∷ row 0x393 gamma_word ∷ row 0x11000A gamma_word ∷ row 0x11000B blank_word ∷ row 0x11000C start_word ∷
    row 0x46 final_word ∷ row 0x3B4 delta_word ∷ row 0x11000F delta_word ∷ []

start-rule : (w : List ℕ) → Codes w → find start_rows (word_value w) ≡ meaning_of keywords w
unfolding find word_value keyword position meaning_of known member valued
start-rule = table_rule keywords start_rows refl refl refl refl

abbrev converted : List (Row Name) → List Start
converted [] = []
converted (row n k ∷ r) = start n (kind_of k) ∷ converted r

lookup-found : (r : List (Row Name)) (v : ℕ) → lookup (converted r) v ≡ start_of (find r v)
unfolding lookup find
lookup-found [] v = refl
lookup-found (row n k ∷ r) v =
    by_test (eqb v n)
    (λ y. rw y (ap (λ (b : Bool). start_of (elim b [ true ↦ Some k | false ↦ find r v ])) (sym y)))
    (λ y. rw y (lookup-found r v ∙ ap (λ (b : Bool). start_of (elim b [ true ↦ Some k | false ↦ find r v ])) (sym y)))

pub keyword_view : (k : TokenKind) (p q : Span) → SoundAs k p → keyword_of (token_of (tok k p q)) ≡ start_of (word_in keywords k)
unfolding keyword_of token_of kind_number token_value word_in
keyword_view (word w) p q s = lookup-found start_rows (word_value w) ∙ ap start_of (start-rule w (codes_of_lem w p s))
keyword_view (number w) p q s = refl
keyword_view (quoted c) p q s = refl
keyword_view (str t) p q s = refl
keyword_view (sign c) p q s =
    sign_rule (λ d. keyword_of (token_of (tok (sign d) p q))) (λ d. None) refl refl refl refl refl refl refl (λ d u. rw (unnamed_number d u)) c
keyword_view (comment t) p q s = refl
keyword_view newline p q s = refl
keyword_view unterminated_string p q s = refl
keyword_view unterminated_quote p q s = refl
