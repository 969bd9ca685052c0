-- The rows of work while the words of a text get their numbers: tokens, then first equal words, then these where tokens begin.
use Prim.Native.Nat.{ℕ, ◌+◌, ◌*◌, ◌≤◌, ◌<◌, ◌^◌}
use native.Mathlib.Omega.{arith}
use mathlib.Core.Bool.{true}
use mathlib.Core.List.{List, ◌++◌}
use mathlib.Core.Path.{◌≡◌, sym, ap, subst, ◌∙◌}
use lib.ListN.{length, get_or, take, drop, length-append, length-drop, length-take, length-map}
use lib.Seq.{take_at, take-take, get_or-take, get_or-drop, get_or-append-add}
use Rattle.chars.specs.Utf8.{decode}
use Rattle.lexer.specs.Tokens.{tokens}
use Rattle.lexer.specs.Words.{max_bytes, work_needed, flat, onto}
use Rattle.lexer.proofs.Writes.{length-flat}
use Rattle.tokens.specs.Row.{tokens_in, rows, peek}
use Rattle.parser.specs.Meaning.{token_of}
use Rattle.parser.proofs.Lines.{tokens-flat}
use Rattle.assembler_names.specs.Rows.{Kept}
use Rattle.assembler_names.specs.Names.{is_word, first_equal, Interned}
use Rattle.assembler_names.proofs.NameLaws.{kept-rows, tokens-take}
use Rattle.runner_names.specs.Numbers.{WordsNumbered}
use Rattle.runner_names.specs.Rows.{Rising, AtStarts}
use Rattle.runner_names.proofs.WordLaws.{ws, few, rising, numbered}

module _ (text w₀ : List ℕ) (short : length text ≤ max_bytes) (room : work_needed (length text) ≤ length w₀) where
  abbrev base : ℕ
  base = length text + 1

  -- ---- the tokens are in work
  module _ (count : ℕ) (w₁ : List ℕ) (n : count ≡ length (tokens (decode text))) (e : w₁ ≡ onto (flat (tokens (decode text))) w₀) where
    count_is : length (ws text) ≡ count
    count_is = length-map (tokens (decode text)) token_of ∙ sym n

    size : length w₁ ≡ length w₀
    unfolding onto
    size =
        let fs = flat (tokens (decode text)) in
        omega (arith, ap length e, length-append fs (drop (length fs) w₀), length-drop (length fs) w₀, length-flat (tokens (decode text)), few text, count_is, n, room)

    row : rows count w₁ ≡ ws text
    unfolding onto
    row =
        let fs = flat (tokens (decode text)) in
        let rest = drop (length fs) w₀ in
        ap (rows count) e ∙ ap (take count) (tokens-flat (tokens (decode text)) rest) ∙ take_at (ws text) (tokens_in rest) count count_is

    -- what `intern` asks
    pub intern_room : (4 * count ≤ 4 * base) × (4 * base + count ≤ 5 * base) × (5 * base + base ≤ length w₁) × (count ≤ base) × (count < 2 ^ 31)
    intern_room = (omega (arith, few text, count_is), omega (arith, few text, count_is), omega (arith, size, room), omega (arith, few text, count_is), omega (arith, few text, count_is, short))

    -- ---- the first equal words behind them, and work in parts
    module _ (w₂ : List ℕ) (k : Kept (4 * base) w₁ w₂) (i : Interned text (rows count w₁) (4 * base) w₂)
        (front numbers words firsts : List ℕ) (a : front ≡ take (5 * base) w₂) (b : numbers ≡ drop (5 * base) w₂) (c : words ≡ take (4 * base) front) (d : firsts ≡ drop (4 * base) front) where
      long : 6 * base ≤ length w₂
      long = omega (arith, k.size, size, room)

      front_size : length front ≡ 5 * base
      front_size = omega (arith, ap length a, length-take (5 * base) w₂, long)

      words_are : words ≡ take (4 * base) w₂
      words_are = c ∙ ap (take (4 * base)) a ∙ take-take (4 * base) (5 * base) w₂ (omega arith)

      pub words_room : 4 * count ≤ length words
      words_room = omega (arith, ap length words_are, length-take (4 * base) w₂, long, intern_room.0)

      tokens_are : rows count words ≡ ws text
      tokens_are =
          sym (tokens-take count words) ∙ ap (λ l. tokens_in (take (4 * count) l)) words_are ∙ ap tokens_in (take-take (4 * count) (4 * base) w₂ intern_room.0)
          ∙ tokens-take count w₂ ∙ kept-rows count (4 * base) w₁ w₂ k intern_room.0 ∙ row

      -- what `put_at_starts` asks
      pub starts_rising : Rising (rows count words) (length numbers)
      starts_rising = subst (λ ts. Rising ts (length numbers)) (sym tokens_are) (rising text (length numbers) (omega (arith, ap length b, length-drop (5 * base) w₂, long)))

      pub firsts_room : length (rows count words) ≤ length firsts
      firsts_room = omega (arith, ap length tokens_are, few text, ap length d, length-drop (4 * base) front, front_size)

      -- ---- and these where the tokens begin
      module _ (row₃ : List ℕ) (s : AtStarts (rows count words) firsts row₃ (length (rows count words))) where
        first_at : (x : ℕ) → x < base → get_or firsts x 0 ≡ get_or w₂ (4 * base + x) 0
        first_at x low =
            ap (λ l. get_or l x 0) d ∙ get_or-drop (4 * base) front x 0 ∙ ap (λ l. get_or l (4 * base + x) 0) a
            ∙ get_or-take (5 * base) w₂ (4 * base + x) 0 (omega arith)

        held : (x : ℕ) → x < length (ws text) → is_word (peek (ws text) x) ≡ true
            → get_or (front ++ row₃) (5 * base + (peek (ws text) x).start) 0 ≡ first_equal text (peek (ws text) x) 0 (ws text)
        held x low word =
            let all : AtStarts (ws text) firsts row₃ (length (ws text)) = subst (λ ts. AtStarts ts firsts row₃ (length ts)) tokens_are s in
            let named : Interned text (ws text) (4 * base) w₂ = subst (λ ts. Interned text ts (4 * base) w₂) row i in
            ap (λ m. get_or (front ++ row₃) (m + (peek (ws text) x).start) 0) (sym front_size)
            ∙ get_or-append-add front row₃ (peek (ws text) x).start 0 ∙ all.held x low
            ∙ first_at x (omega (arith, few text)) ∙ named.interned x low word

        pub words_numbered : WordsNumbered text (front ++ row₃)
        words_numbered = numbered text (front ++ row₃) held
