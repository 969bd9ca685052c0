-- Laws of the parts into which the words are cut: the tokens, the row of first equal words behind them, and the marks.
use mathlib.Core.Path.{◌≡◌, sym, ap, subst, ◌∙◌}
use mathlib.Core.List.{List, ◌++◌}
use Prim.Native.Nat.{ℕ, ◌+◌, ◌*◌, ◌<◌}
use native.Mathlib.Omega.{arith}
use lib.ListN.{length, get_or, take, drop, length-append, length-drop}
use lib.Seq.{take-take, take-append_seam, get_or-append-add, get_or-take, get_or-drop, length-take-le}
use Rattle.tokens.specs.declared.Token.{Token}
use Rattle.tokens.specs.Row.{tokens_in}
use Rattle.assembler.specs.Rows.{rows}
use Rattle.assembler_names.specs.Names.{FirstsOf}
use Rattle.assembler_names.proofs.NameLaws.{tokens-take}
use Rattle.assembler.specs.Finals.{Marks, MarkedIn, Interned, Laid, Kept}
use Rattle.assembler.proofs.Rows.{length-rows}

module _ (count a b : ℕ) (w : List ℕ) (laid : Laid count a b w) (front words firsts marks : List ℕ) (f : front ≡ take b w) (m : marks ≡ drop b w) (t : words ≡ take a front) (g : firsts ≡ drop a front) where
  front_size : length front ≡ b
  front_size = ap length f ∙ length-take-le b w (omega (arith, laid.marks))

  words_are : words ≡ take a w
  words_are = t ∙ ap (take a) f ∙ take-take a b w (omega (arith, laid.words))

  pub part-rows : rows count words ≡ rows count w
  part-rows = sym (tokens-take count words) ∙ ap (λ (l : List ℕ). tokens_in (take (4 * count) l)) words_are ∙ ap tokens_in (take-take (4 * count) a w laid.tokens) ∙ tokens-take count w

  -- a word of the row of first equal words
  first-word : (x : ℕ) → x < count → get_or firsts x 0 ≡ get_or w (a + x) 0
  first-word x h =
      ap (λ (l : List ℕ). get_or l x 0) g ∙ get_or-drop a front x 0 ∙ ap (λ (l : List ℕ). get_or l (a + x) 0) f ∙ get_or-take b w (a + x) 0 (omega (arith, laid.words))

  row-size : length (rows count w) ≡ count
  row-size = length-rows count w (omega (arith, laid.tokens, laid.words, laid.marks))

  pub part-names : (text : List ℕ) → Interned text (rows count w) a w → FirstsOf text (rows count words) count firsts
  part-names text n =
      subst (λ (ts : List Token). FirstsOf text ts count firsts) (sym part-rows) (record { first = λ x h e. first-word x h ∙ n.interned x (omega (arith, row-size)) e })

  pub marks-in : (text qs before : List ℕ) → Marks text (rows count w) a b w qs before → MarkedIn text (rows count words) firsts marks qs before
  marks-in text qs before p =
      subst (λ (ts : List Token). MarkedIn text ts firsts marks qs before) (sym part-rows)
      (record {
        marks-at = λ x h e.
            ap (λ (k : ℕ). get_or marks k 0) (first-word x (omega (arith, row-size))) ∙ ap (λ (l : List ℕ). get_or l (get_or w (a + x) 0) 0) m ∙ get_or-drop b w (get_or w (a + x) 0) 0 ∙ p.marks x h e;
      })

  module _ (v : List ℕ) (size : length v ≡ length marks) where
    pub part-kept : Kept b w (front ++ v)
    part-kept = record {
      front = ap (λ (n : ℕ). take n (front ++ v)) (sym front_size) ∙ take-append_seam front v ∙ f;
      size = length-append front v ∙ omega (arith, front_size, size, ap length m, length-drop b w, laid.marks);
    }

    pub marks-out : (text qs before : List ℕ) → MarkedIn text (rows count words) firsts v qs before → Marks text (rows count w) a b (front ++ v) qs before
    marks-out text qs before p =
        let q : MarkedIn text (rows count w) firsts v qs before = subst (λ (ts : List Token). MarkedIn text ts firsts v qs before) part-rows p in
        record {
          marks = λ x h e.
              let k : get_or (front ++ v) (a + x) 0 ≡ get_or firsts x 0 =
              sym (get_or-take b (front ++ v) (a + x) 0 (omega (arith, laid.words, row-size))) ∙ ap (λ (l : List ℕ). get_or l (a + x) 0) (part-kept.front)
              ∙ get_or-take b w (a + x) 0 (omega (arith, laid.words, row-size)) ∙ sym (first-word x (omega (arith, row-size))) in
              ap (λ (k : ℕ). get_or (front ++ v) (b + k) 0) k ∙ ap (λ (n : ℕ). get_or (front ++ v) (n + get_or firsts x 0) 0) (sym front_size)
              ∙ get_or-append-add front v (get_or firsts x 0) 0 ∙ q.marks-at x h e;
        }
