-- The first equal words are numbers of names: two words have the same first equal word if their parts of the text are the same,
-- and these are the same if their characters are.
use Prim.Native.Nat.{ℕ, ◌+◌, ◌*◌, ◌≤◌, ◌<◌}
use native.Mathlib.Omega.{arith}
use mathlib.Core.Bool.{true, false≢true}
use mathlib.Core.List.{List, map}
use mathlib.Core.Path.{◌≡◌, sym, ap, subst, ◌∙◌}
use borrow.Author.Tests.{eq-eqb, ne_eqb}
use lib.Dec.{eqb}
use lib.ListN.{length, get_or, length-map}
use Rattle.std.proofs.lemmas.List.{get_or-map}
use Rattle.diag.proofs.Cases.{by_test_lem}
use Rattle.chars.specs.Utf8.{decode}
use Rattle.lexer.specs.Text.{same}
use Rattle.lexer.specs.Tokens.{TokenKind, Span, Token, tokens}
use Rattle.lexer.specs.Words.{kind_number}
use Rattle.lexer.specs.Places.{chars_at}
use Rattle.lexer.proofs.Keywords.{same_true, same_refl}
use Rattle.lexer.proofs.Placed.{Shape, Placed, all-at, placed, same_names}
use Rattle.lexer.proofs.Writes.{tokens_of_bytes}
use Rattle.tokens.specs.declared.Token.{Token as Words}
use Rattle.tokens.specs.Row.{ended, peek}
use Rattle.parser.specs.Meaning.{token_of, nothing, at}
use Rattle.language.specs.Agreement.{characters_at}
use Rattle.assembler_names.specs.Names.{is_word, first_equal}
use Rattle.assembler_names.proofs.NameLaws.{part_of, first_low, first_part, first-same}
use Rattle.runner_names_theorems.specs.Names.{WordPlace}
use Rattle.runner_names_theorems.proofs.Rising.{tokens_rise}
use Rattle.runner_names.specs.Numbers.{number_at, WordsNumbered}
use Rattle.runner_names.specs.Rows.{Rising}

-- ---- first equal words

-- two words have the same first equal word if their parts of the text are the same
module _ (text : List ℕ) (ws : List Words) (x y : ℕ) (low_x : x < length ws) (low_y : y < length ws) (word_x : is_word (peek ws x) ≡ true) (word_y : is_word (peek ws y) ≡ true) where
  abbrev first : ℕ → ℕ
  first x = first_equal text (peek ws x) 0 ws

  parts_equal : first x ≡ first y → part_of text (peek ws x) ≡ part_of text (peek ws y)
  parts_equal e = sym (first_part text ws x low_x word_x) ∙ ap (λ k. part_of text (peek ws k)) e ∙ first_part text ws y low_y word_y

  firsts_same : eqb (first x) (first y) ≡ same (part_of text (peek ws x)) (part_of text (peek ws y))
  firsts_same =
      let a = part_of text (peek ws x) in
      let b = part_of text (peek ws y) in
      by_test_lem (same a b)
      (λ e. eq-eqb (first x) (first y) (first-same text (peek ws x) (peek ws y) 0 ws (same_true a b e)) ∙ sym e)
      (λ e. ne_eqb (first x) (first y) (λ z. false≢true (sym e ∙ ap (same a) (sym (parts_equal z)) ∙ same_refl a)) ∙ sym e)

-- ---- the tokens of a text

module _ (text : List ℕ) where
  abbrev ts : List (Token Span)
  ts = tokens (decode text)

  -- and their words
  abbrev pub ws : List Words
  ws = map token_of ts

  count_is : length ws ≡ length ts
  count_is = length-map ts token_of

  -- there is at most one for each byte and the text's end
  pub few : length ws ≤ length text + 1
  few = omega (arith, count_is, tokens_of_bytes text)

  start_is : (x : ℕ) → x < length ts → (peek ws x).start ≡ (at ts x).place.start
  unfolding token_of
  start_is x low = ap (λ (t : Words). t.start) (get_or-map token_of ts x nothing ended low)

  token_placed : (x : ℕ) → x < length ts → Placed text (at ts x)
  token_placed x low = all-at (Placed text) ts x nothing (placed text) low

  -- tokens begin one behind the other
  pub rising : (size : ℕ) → length text + 1 ≤ size → Rising ws size
  rising size room = record {
    inside = λ x h.
        let low : x < length ts = omega (arith, count_is) in
        let p = token_placed x low in
        omega (arith, start_is x low, p.starts, p.order, p.ends, p.inside);
    rise = λ x y h l.
        let low : y < length ts = omega (arith, count_is) in
        omega (arith, start_is x (omega arith), start_is y low, tokens_rise (decode text) x y h low);
  }

  -- ---- a word

  module _ (p : Span) (w : WordPlace (decode text) p) where
    x : ℕ
    x = w.among.0

    word_low : x < length ws
    unfolding x
    word_low = omega (arith, count_is, w.among.1)

    is_placed : Placed text w.token
    is_placed = subst (Placed text) w.among.2 (all-at (Placed text) ts w.among.0 w.token (placed text) w.among.1)

    inner_is : w.token.inner ≡ p
    inner_is = subst (λ (k : TokenKind). Shape k w.token.place w.token.inner) w.is_word is_placed.shape ∙ w.placed

    token_is : peek ws x ≡ token_of w.token
    unfolding x
    token_is = get_or-map token_of ts w.among.0 w.token ended w.among.1 ∙ ap token_of w.among.2

    word_is : is_word (peek ws x) ≡ true
    unfolding token_of kind_number
    word_is = ap is_word token_is ∙ ap (λ (k : TokenKind). eqb (kind_number k) 0) w.is_word

    start_of : (peek ws x).start ≡ p.start
    unfolding token_of
    start_of = ap (λ (t : Words). t.start) token_is ∙ ap (λ (s : Span). s.start) w.placed

    part_is : part_of text (peek ws x) ≡ part_of text (record { kind = 0; start = w.token.inner.start; end = w.token.inner.end; value = 0 })
    unfolding token_of
    part_is = ap (part_of text) token_is ∙ ap (λ (s : Span). part_of text (record { kind = 0; start = s.start; end = s.end; value = 0 })) (w.placed ∙ sym inner_is)

    chars_are : chars_at text w.token.inner ≡ characters_at text p
    unfolding chars_at characters_at
    chars_are = ap (characters_at text) inner_is

    start_inside : p.start < length text + 1
    start_inside = let q = is_placed in omega (arith, q.order, q.ends, q.inside, ap (λ (s : Span). s.start) inner_is)

  -- the words of the row of numbers are first equal words
  module _ (work : List ℕ) (held : (x : ℕ) → x < length ws → is_word (peek ws x) ≡ true → get_or work (5 * (length text + 1) + (peek ws x).start) 0 ≡ first_equal text (peek ws x) 0 ws) where
    number_is : (p : Span) (w : WordPlace (decode text) p) → number_at text work p ≡ first_equal text (peek ws (x p w)) 0 ws
    number_is p w = ap (λ k. get_or work (5 * (length text + 1) + k) 0) (sym (start_of p w)) ∙ held (x p w) (word_low p w) (word_is p w)

    pub numbered : WordsNumbered text work
    numbered = record {
      inside = start_inside;
      low = λ p w. omega (arith, number_is p w, first_low text ws (x p w) (word_low p w) (word_is p w), few);
      same_number = λ p q w v.
          ap (λ k. eqb k (number_at text work q)) (number_is p w) ∙ ap (eqb (first_equal text (peek ws (x p w)) 0 ws)) (number_is q v)
          ∙ firsts_same text ws (x p w) (x q v) (word_low p w) (word_low q v) (word_is p w) (word_is q v)
          ∙ ap (λ a. same a (part_of text (peek ws (x q v)))) (part_is p w) ∙ ap (same _) (part_is q v)
          ∙ same_names text w.token v.token (is_placed p w) (is_placed q v)
          ∙ ap (λ a. same a (chars_at text v.token.inner)) (chars_are p w) ∙ ap (same (characters_at text p)) (chars_are q v);
    }
