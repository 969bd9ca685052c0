-- What the rows mean of the machine that was read: names are words, and the states of the sheet are the states of the text.
use Prim.Native.Nat.{ℕ, ◌+◌, ◌-◌, ◌*◌, ◌≤◌, ◌<◌}
use native.Mathlib.Omega.{arith}
use mathlib.Core.Bool.{Bool, false, not, ◌&&◌}
use mathlib.Core.List.{List, ◌++◌}
use mathlib.Core.Path.{◌≡◌, refl, sym, ap, ◌∙◌}
use borrow.Author.Tests.{ne_eqb}
use lib.Dec.{eqb}
use lib.ListN.{length, get_or, take, drop, length-drop, length-take, length-append, get_or-append}
use lib.Seq.{get_or-drop, get_or-append-add}
use Rattle.std.specs.Prelude.{position, Option, Some, None, unwrap_or}
use Rattle.std.proofs.lemmas.List.Quantifiers.{position-Some}
use Rattle.chars.specs.Utf8.{decode}
use Rattle.lexer.specs.Text.{same}
use Rattle.lexer.specs.Tokens.{Span}
use Rattle.lexer.specs.Words.{work_needed}
use Rattle.machine.specs.declared.Head.{Head}
use Rattle.language.specs.Content.{StateContent}
use Rattle.language.specs.Agreement.{at, place_at, characters_at}
use Rattle.form_theorems.specs.Read.{ReadAs}
use Rattle.running.specs.Batch.{content_of_text}
use Rattle.running.specs.Step.{is_final}
use Rattle.runner_names_theorems.specs.Names.{WordPlace}
use Rattle.runner_names_theorems.proofs.Words.{name_word}
use Rattle.runner_names_theorems.proofs.SheetNames.{state_named, states_count, state_at}
use Rattle.runner_names.specs.Numbers.{number_at, WordsNumbered, final_at, first_state, NamesNumbered}
use Rattle.runner_names.specs.Rows.{state_number, HaveNumbers, first_with, FirstStates}
use Rattle.runner_names.proofs.Positions.{first_position, marked, final_marked}

-- a text was read
module _ (t : List ℕ) (head : Head) (sheet : List ℕ) (read : ReadAs t head sheet) where
  abbrev base : ℕ
  base = length t + 1

  abbrev states : List StateContent
  states = (content_of_text t).states

  -- ---- whether a name is final

  final_of_position : (o : Option ℕ) → ((i : ℕ) → o ≡ Some i → i < 4294967295) → final_at sheet (unwrap_or o 4294967295) ≡ marked (λ i. eqb (at sheet (3 * i + 2)) 1) o
  final_of_position None h = refl
  final_of_position (Some i) h =
      let low : i < 4294967295 = h i refl in
      ap (λ b. not b && eqb (at sheet (3 * i + 2)) 1) (ne_eqb i 4294967295 (λ z. omega (arith, z, low)))

  -- the sheet's mark at the first state of a name says whether the name is final
  pub final_of_name : (q : List ℕ) → head.counts.states ≤ 4294967295 → final_at sheet (first_state states q) ≡ is_final states q
  final_of_name q few =
      let p : StateContent → Bool = λ s. same q s.name in
      let none : StateContent = record { name = q; final = false } in
      let count : length states ≡ head.counts.states = states_count t head sheet read in
      final_of_position (position p states) (λ i e. omega (arith, (position-Some p states i none e).0, count, few))
      ∙ final_marked q states (λ i. eqb (at sheet (3 * i + 2)) 1) (λ i d low. ap (λ s. s.final) (state_at t head sheet read i d (omega (arith, count))))

  -- ---- the words have numbers, in the last row of work

  module _ (w : List ℕ) (n : WordsNumbered t w) (room : work_needed (length t) ≤ length w) (front numbers : List ℕ) (a : front ≡ take (5 * base) w) (e : numbers ≡ drop (5 * base) w) where
    first_row : length (take base front) ≡ base
    first_row = omega (arith, length-take base front, ap length a, length-take (5 * base) w, room)

    number_is : (i : ℕ) → state_number sheet numbers i ≡ number_at t w (place_at sheet (3 * i))
    number_is i = ap (λ l. get_or l (at sheet (3 * i)) 0) e ∙ get_or-drop (5 * base) w (at sheet (3 * i)) 0

    word_of : (i : ℕ) → i < head.counts.states → WordPlace (decode t) (place_at sheet (3 * i))
    word_of i low = name_word (decode t) (place_at sheet (3 * i)) (state_named t head sheet read i low)

    -- what `put_states` asks
    pub have_numbers : HaveNumbers sheet numbers head.counts.states (length (take base front))
    have_numbers = record {
      inside = λ i low. omega (arith, n.inside (place_at sheet (3 * i)) (word_of i low), ap length e, length-drop (5 * base) w, room);
      low = λ i low. omega (arith, number_is i, n.low (place_at sheet (3 * i)) (word_of i low), first_row);
    }

    -- what it leaves in the first row, the others as they were
    module _ (row : List ℕ) (size : length row ≡ length (take base front)) (f : FirstStates sheet numbers 0 head.counts.states row) where
      abbrev work : List ℕ
      work = row ++ drop base front ++ numbers

      wide : length (row ++ drop base front) ≡ 5 * base
      wide =
          omega (arith, length-append row (drop base front), length-drop base front, ap length a, length-take (5 * base) w, size, first_row, room)

      kept : (p : Span) → number_at t work p ≡ number_at t w p
      kept p =
          ap (λ k. get_or work (k + p.start) 0) (sym wide) ∙ get_or-append-add (row ++ drop base front) numbers p.start 0
          ∙ ap (λ l. get_or l p.start 0) e ∙ get_or-drop (5 * base) w p.start 0

      first_is : (k : ℕ) → k < base → get_or work k 0 ≡ first_with (state_number sheet numbers) k 0 (length states)
      first_is k low =
          let count : head.counts.states - 0 ≡ length states = omega (arith, states_count t head sheet read) in
          get_or-append (row ++ drop base front) numbers 0 k (omega (arith, wide)) ∙ get_or-append row (drop base front) 0 k (omega (arith, size, first_row))
          ∙ f.first k (omega (arith, size, first_row)) ∙ ap (first_with (state_number sheet numbers) k 0) count

      same_name : (p : Span) → WordPlace (decode t) p → (j : ℕ) (d : StateContent) → j < length states
          → eqb (number_at t w p) (state_number sheet numbers j) ≡ same (characters_at t p) (get_or states j d).name
      same_name p h j d low =
          let inside : j < head.counts.states = omega (arith, states_count t head sheet read) in
          ap (eqb (number_at t w p)) (number_is j) ∙ n.same_number p (place_at sheet (3 * j)) h (word_of j inside)
          ∙ ap (λ (s : StateContent). same (characters_at t p) s.name) (sym (state_at t head sheet read j d inside))

      -- what `number` promises
      pub names_numbered : NamesNumbered t work
      names_numbered = record {
        numbers = record {
          inside = λ p h. n.inside p (name_word (decode t) p h);
          low = λ p h. omega (arith, kept p, n.low p (name_word (decode t) p h));
          same_number = λ p q h k.
              ap (λ a. eqb a (number_at t work q)) (kept p) ∙ ap (eqb (number_at t w p)) (kept q)
              ∙ n.same_number p q (name_word (decode t) p h) (name_word (decode t) q k);
        };
        states = λ p h.
            let word = name_word (decode t) p h in
            ap (λ k. get_or work k 0) (kept p) ∙ first_is (number_at t w p) (n.low p word)
            ∙ first_position (state_number sheet numbers) (number_at t w p) (λ s. same (characters_at t p) s.name) states (same_name p word);
      }
