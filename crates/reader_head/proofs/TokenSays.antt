-- What the words of a token say of the head is what the token means, where the views of a line take it for what is due.
use Rattle.std.proofs.Common.{◌≡◌, ℕ, ◌+◌, ◌-◌, ◌%◌, ◌^◌, ◌<◌, ◌≤◌, min, Bool, true, false, cond, eqb, leb, List, [], ◌∷◌, length, sym, refl, ap, ◌∙◌, mod-eq_of_lt, arith, eqb-true, leb-false, leb-true}
use Rattle.std.specs.Prelude.{None, Some}
use native.Mathlib.Nat.{min-eq_left, min-eq_right}
use Rattle.diag.proofs.Cases.{by_test_lem}
use Rattle.diag.specs.declared.Span.{Span as Place}
use Rattle.lexer.specs.Tokens.{TokenKind, word, number, quoted, str, sign, comment, newline, unterminated_string, unterminated_quote}
use Rattle.lexer.specs.Words.{position, keyword, word_value, value, kind_number, token_value}
use Rattle.lexer.proofs.Placed.{Placed}
use Rattle.machine.specs.declared.Kind.{Kind}
use Rattle.machine.specs.declared.Kind.TheVariants.{Acceptor, Transducer, Enumerator, Beaver}
use Rattle.machine.specs.declared.BitOrder.{BitOrder}
use Rattle.machine.specs.declared.BitOrder.TheVariants.{Lsb, Msb}
use Rattle.machine.specs.declared.Decoder.{Decoder}
use Rattle.machine.specs.declared.Decoder.TheVariants.{Word, Unary, Binary}
use Rattle.parser.specs.Meaning.{token_of}
use Rattle.parser.proofs.Tables.{Codes, Row, row, find, known, member, valued, table_rule}
use Rattle.parser.proofs.Keywords.{output_rows, output-rule}
use Rattle.language.specs.Lines.{string_in, meaning_of, kinds, OutputWord, word_output, unary_output, binary_output, outputs, orders}
use Rattle.tokens.specs.declared.Token.{Token as Words}
use Rattle.sheet.specs.Rules.{resolve}
use Rattle.language.specs.Infer.{tapes_of}
use Rattle.reader_head.specs.Heads.{text_of, kind_of, order_of, decoder_of}

-- nothing is not something
none-some : {B : Type 0} {X : Type 0} (b : B) → None ≡ Some b → X
none-some b e = absurd (let z : ◌≡◌ {A = ℕ} 0 1 = cc in omega arith)

-- ---- strings
pub string_says : (t : List ℕ) (k : TokenKind) (p q : Place) → Placed t (record { kind = k; place = p; inner = q }) → length t < 2 ^ 32 → (s : List ℕ) → string_in k ≡ Some s
    → text_of (token_of (record { kind = k; place = p; inner = q })) ≡ q
unfolding token_of kind_number token_value string_in
string_says t (str v) p q h l s e =
    let a : p.start + (q.start - p.start) ≡ q.start = omega (arith, h.starts) in
    let b : q.start % 2 ^ 32 ≡ q.start = mod-eq_of_lt (omega (arith, h.order, h.ends, h.inside)) in
    let c : p.end - 1 ≡ q.end = omega (arith, h.shape.1) in
    rw (a, b, c)
string_says t (word w) p q h l s e = none-some s e
string_says t (number w) p q h l s e = none-some s e
string_says t (quoted c) p q h l s e = none-some s e
string_says t (sign c) p q h l s e = none-some s e
string_says t (comment c) p q h l s e = none-some s e
string_says t newline p q h l s e = none-some s e
string_says t unterminated_string p q h l s e = none-some s e
string_says t unterminated_quote p q h l s e = none-some s e

-- ---- words of a table: a value's row says the meaning
abbrev kind_rows : List (Row Kind)
kind_rows = row 0x110010 Acceptor ∷ row 0x110011 Transducer ∷ row 0x110012 Enumerator ∷ row 0x110013 Beaver ∷ []

kind-rule : (w : List ℕ) → Codes w → find kind_rows (word_value w) ≡ meaning_of kinds w
unfolding find word_value keyword position meaning_of known member valued
kind-rule = table_rule kinds kind_rows refl refl refl refl

-- F says of each value what G says of its meaning
abbrev pub RowsSay : {B C : Type 0} → (ℕ → C) → (B → C) → List (Row B) → Type 0
RowsSay F G [] = Unit {0}
RowsSay F G (row n a ∷ r) = (F n ≡ G a) × RowsSay F G r

pub found_row : {B C : Type 0} (F : ℕ → C) (G : B → C) (r : List (Row B)) (v : ℕ) (b : B) → RowsSay F G r → find r v ≡ Some b → F v ≡ G b
unfolding find
found_row F G [] v b s e = none-some b e
found_row {B} F G (row n a ∷ r) v b s e =
    by_test_lem (eqb v n)
    (λ y.
    let z : Some a ≡ Some b = sym (ap (λ (t : Bool). elim t [ true ↦ Some a | false ↦ find r v ]) y) ∙ e in
    let q : a ≡ b = cc in
    ap F (eqb-true v n y) ∙ s.0 ∙ ap G q)
    (λ x. found_row F G r v b s.1 (sym (ap (λ (t : Bool). elim t [ true ↦ Some a | false ↦ find r v ]) x) ∙ e))

pub kind_says : (w : List ℕ) (k : Kind) → Codes w → meaning_of kinds w ≡ Some k → kind_of (word_value w) ≡ k
unfolding kind_of
kind_says w k c e = found_row kind_of (λ k. k) kind_rows (word_value w) k (refl, (refl, (refl, (refl, tt)))) (kind-rule w c ∙ e)

abbrev order_rows : List (Row BitOrder)
order_rows = row 0x110017 Lsb ∷ row 0x110018 Msb ∷ []

order_rule : (w : List ℕ) → Codes w → find order_rows (word_value w) ≡ meaning_of orders w
unfolding find word_value keyword position meaning_of known member valued
order_rule = table_rule orders order_rows refl refl refl refl

pub order_says : (w : List ℕ) (o : BitOrder) → Codes w → meaning_of orders w ≡ Some o → order_of (word_value w) ≡ o
unfolding order_of
order_says w o c e = found_row order_of (λ o. o) order_rows (word_value w) o (refl, (refl, tt)) (order_rule w c ∙ e)

-- how the output is read, by the token u behind the word
abbrev pub output_of : ℕ → Words → OutputWord → Decoder
output_of b u word_output = Word
output_of b u unary_output = Unary (resolve b u)
output_of b u binary_output = Binary (order_of u.value)

pub output_says : (b : ℕ) (u : Words) (w : List ℕ) (o : OutputWord) → Codes w → meaning_of outputs w ≡ Some o → decoder_of b (word_value w) u ≡ output_of b u o
unfolding decoder_of
output_says b u w o c e = found_row (λ v. decoder_of b v u) (output_of b u) output_rows (word_value w) o (refl, (refl, (refl, tt))) (output-rule w c ∙ e)

-- ---- numbers: cut off above 255 and above 64 bits alike
pub number_says : (w : List ℕ) (p : Place) → cond (leb (min (value w) 256) 255) (min (value w) 256) 1 ≡ tapes_of (Some (record { value = min (value w) 18446744073709551615; place = p }))
unfolding tapes_of
number_says w p =
    by_test_lem (leb (value w) 255)
    (λ y.
    let h : value w ≤ 255 = leb-true (value w) 255 y in
    let a : min (value w) 256 ≡ value w = min-eq_left {n = value w} {m = 256} (omega arith) in
    let b : min (value w) 18446744073709551615 ≡ value w = min-eq_left {n = value w} {m = 18446744073709551615} (omega arith) in
    rw (a, b, tapes_of, y, b))
    (λ x.
    let h : 255 < value w = leb-false (value w) 255 x in
    let a : min (value w) 256 ≡ 256 = min-eq_right {n = 256} {m = value w} (omega arith) in
    let b : leb (min (value w) 18446744073709551615) 255 ≡ false =
    by_test_lem (leb (value w) 18446744073709551615)
    (λ z. ap (λ (n : ℕ). leb n 255) (min-eq_left {n = value w} {m = 18446744073709551615} (leb-true (value w) 18446744073709551615 z)) ∙ x)
    (λ z. let g : 18446744073709551615 < value w = leb-false (value w) 18446744073709551615 z in ap (λ (n : ℕ). leb n 255) (min-eq_right {n = 18446744073709551615} {m = value w} (omega arith))) in
    rw (a, tapes_of, b))
