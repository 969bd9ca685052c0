-- The output declaration over the row is the language's.
use mathlib.Core.Path.{◌≡◌, refl, sym, ap, subst, ◌∙◌}
use Prim.Native.Nat.{ℕ, ◌+◌}
use native.Mathlib.Omega.{arith}
use mathlib.Core.Bool.{Bool, true, false, cond}
use mathlib.Core.List.{List, [], ◌∷◌, ◌++◌}
use Rattle.std.specs.Prelude.{None, Some}
use lib.Dec.{eqb}
use lib.ListN.{length}
use borrow.Author.Tests.{eqb-true}
use Rattle.lexer.specs.Tokens.{TokenKind, word, number, quoted, str, sign, comment, newline, unterminated_string, unterminated_quote, Span, Token}
use Rattle.lexer.specs.Words.{word_value, token_value}
use Rattle.machine.specs.declared.BitOrder.{BitOrder}
use Rattle.machine.specs.declared.BitOrder.TheVariants.{Lsb}
use Rattle.language.specs.Machine.{Located}
use Rattle.language.specs.Parser.{◌>>=◌}
use Rattle.language.specs.Parser.{then as bind}
use Rattle.language.specs.Lines.{RawSymbol, raw_blank, RawDecoder, raw_word, raw_unary, raw_binary, symbol_in, word_in, outputs, orders, OutputWord, word_output, unary_output, binary_output, choice, symbol, output as decoder}
use Rattle.parser.specs.Row.{peek}
use Rattle.parser.specs.Views.{is_choice, is_symbol}
use Rattle.parser.specs.Lines.{Parsed, Done, one, output}
use Rattle.parser.specs.Meaning.{token_of, at, located, decoder_at, SoundAs}
use Rattle.tokens.specs.declared.Token.{Token as Words}
use Rattle.parser.proofs.Tables.{true_false, find}
use Rattle.parser.proofs.Views.{is_some}
use Rattle.parser.proofs.Keywords.{codes_of_lem, output_rows, output-rule}
use Rattle.parser.proofs.Simulates.{Stops, Fits, One, once, At, row, at_first, bind_fits, map_fits, weaken_fits}
use Rattle.parser.proofs.Values.{symbol_fits, output_fits, order_fits}
use Rattle.parser.proofs.Transitions.{located-at, length-one}

-- the value of an output's word
abbrev value_of : OutputWord → ℕ
value_of word_output = 0x110014
value_of unary_output = 0x110015
value_of binary_output = 0x110016

output-value : (v : ℕ) (o : OutputWord) → find output_rows v ≡ Some o → v ≡ value_of o
unfolding find
output-value v o e = go (eqb v 0x110014) (eqb v 0x110015) (eqb v 0x110016) refl refl refl e
  where
    go : (a b c : Bool) → eqb v 0x110014 ≡ a → eqb v 0x110015 ≡ b → eqb v 0x110016 ≡ c
        → elim a [ true ↦ Some word_output | false ↦ elim b [ true ↦ Some unary_output | false ↦ elim c [ true ↦ Some binary_output | false ↦ None ] ] ] ≡ Some o → v ≡ value_of o
    go true b c p q r h = let s : word_output ≡ o = cc in eqb-true v 0x110014 p ∙ ap value_of s
    go false true c p q r h = let s : unary_output ≡ o = cc in eqb-true v 0x110015 q ∙ ap value_of s
    go false false true p q r h = let s : binary_output ≡ o = cc in eqb-true v 0x110016 r ∙ ap value_of s
    go false false false p q r h = true_false (sym (ap is_some h))

-- a token that says an output's word has its value
taken-value : (k : TokenKind) (p q : Span) (o : OutputWord) → SoundAs k p → word_in outputs k ≡ Some o → token_value (record { kind = k; place = p; inner = q }) ≡ value_of o
unfolding word_in token_value
taken-value (word w) p q o s e = output-value (word_value w) o (output-rule w (codes_of_lem w p s) ∙ e)
taken-value (number w) p q o s e = true_false (sym (ap is_some e))
taken-value (quoted c) p q o s e = true_false (sym (ap is_some e))
taken-value (str t) p q o s e = true_false (sym (ap is_some e))
taken-value (sign c) p q o s e = true_false (sym (ap is_some e))
taken-value (comment t) p q o s e = true_false (sym (ap is_some e))
taken-value newline p q o s e = true_false (sym (ap is_some e))
taken-value unterminated_string p q o s e = true_false (sym (ap is_some e))
taken-value unterminated_quote p q o s e = true_false (sym (ap is_some e))

module _ (ts : List (Token Span)) (junk : List Words) (z : Token Span) (more : List (Token Span)) (ends : Stops z.kind) where
  abbrev ws : List Words
  ws = row ts junk z more

  abbrev Here : ℕ → List (Token Span) → Type 0
  Here = At ts junk z more

  -- what follows the word
  abbrev rest : ℕ → ℕ → Parsed ℕ
  rest v j = cond (eqb v 0x110015) (one is_symbol ws j) (cond (eqb v 0x110016) (one (is_choice 0x110017 0x110018) ws j) (Done j 1))

  -- what an output's word and the token behind it say
  abbrev decoded : OutputWord → ℕ → RawDecoder
  decoded word_output j = raw_word
  decoded unary_output j = raw_unary (located symbol_in raw_blank (at ts j)).value
  decoded binary_output j = raw_binary (located (word_in orders) Lsb (at ts j)).value

  rest_fits : (o : OutputWord) (j : ℕ) (l : List (Token Span)) → Here j l → Fits j l (λ f d. d ≡ decoded o j) once (rest (value_of o) j) (decoder z.place o l)
  unfolding decoder ◌>>=◌
  rest_fits word_output j l here = ([], refl, omega arith, refl, refl)
  rest_fits unary_output j l here =
      map_fits ts junk z more ends (One symbol_in) once (λ f d. d ≡ decoded unary_output j) once j l (λ s. raw_unary s.value)
      (λ f r s e o. ap (λ (x : Located Span RawSymbol). raw_unary x.value) (located-at ts junk z more ends symbol_in raw_blank j l f r s here e o)) (λ s. refl)
      (one is_symbol ws j) (symbol z.place l) (symbol_fits ts junk z more ends j l here)
  rest_fits binary_output j l here =
      map_fits ts junk z more ends (One (word_in orders)) once (λ f d. d ≡ decoded binary_output j) once j l (λ s. raw_binary s.value)
      (λ f r s e o. ap (λ (x : Located Span BitOrder). raw_binary x.value) (located-at ts junk z more ends (word_in orders) Lsb j l f r s here e o)) (λ s. refl)
      (one (is_choice 0x110017 0x110018) ws j) (choice z.place orders l) (order_fits ts junk z more ends j l here)

  pub decoder_fits : (i : ℕ) (l : List (Token Span)) → Here i l → Fits i l (λ f d. d ≡ decoder_at ts i) once (output ws i) (bind (choice z.place outputs l) λ w. decoder z.place w.value)
  unfolding output token_of decoder_at
  decoder_fits i l here =
      bind_fits ts junk z more ends (One (word_in outputs)) once (λ f d. d ≡ decoder_at ts i) once i l here (one (is_choice 0x110014 0x110016) ws i) (choice z.place outputs l)
      (output_fits ts junk z more ends i l here) (λ j _. rest (peek ws i).value j) (λ w. decoder z.place w.value)
      λ f r w e o at₁.
      let c : l ≡ o.taker ∷ r = e ∙ ap (λ (x : List (Token Span)). x ++ r) o.front in
      let here₁ : Here i (o.taker ∷ r) = subst (Here i) c here in
      let v : (peek ws i).value ≡ value_of w.value =
      ap (λ (x : Words). x.value) (at_first ts junk z more i o.taker r here₁).1 ∙ taken-value o.taker.kind o.taker.place o.taker.inner w.value here₁.sound.0 o.says in
      let n : i + length f ≡ i + 1 = ap (λ (x : ℕ). i + x) (length-one ts junk z more ends (word_in outputs) f w o) in
      let d : (located (word_in outputs) word_output (at ts i)).value ≡ w.value = ap (λ (x : Located Span OutputWord). x.value) (sym (located-at ts junk z more ends (word_in outputs) word_output i l f r w here e o)) in
      subst (λ (x : ℕ). Fits (i + length f) r (λ g b. b ≡ decoder_at ts i) once (rest x (i + length f)) (decoder z.place w.value r)) (sym v)
      (weaken_fits ts junk z more ends (λ g b. b ≡ decoded w.value (i + length f)) (λ g b. b ≡ decoder_at ts i) once (i + length f) r
      (λ g b q. q ∙ ap (decoded w.value) n ∙ same w.value (located (word_in outputs) word_output (at ts i)).value d)
      (rest (value_of w.value) (i + length f)) (decoder z.place w.value r) (rest_fits w.value (i + length f) r at₁))
    where
      same : (o x : OutputWord) → x ≡ o
          → decoded o (i + 1) ≡ elim x [ word_output ↦ raw_word | unary_output ↦ raw_unary (located symbol_in raw_blank (at ts (i + 1))).value | binary_output ↦ raw_binary (located (word_in orders) Lsb (at ts (i + 1))).value ]
      same o word_output e = ap (λ (x : OutputWord). decoded x (i + 1)) (sym e)
      same o unary_output e = ap (λ (x : OutputWord). decoded x (i + 1)) (sym e)
      same o binary_output e = ap (λ (x : OutputWord). decoded x (i + 1)) (sym e)
