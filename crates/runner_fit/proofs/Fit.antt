-- The tests over the words of an answer are the tests of the machine that it stands for.
use Prim.Native.Nat.{ℕ, ◌+◌, ◌-◌, ◌≤◌, ◌<◌}
use mathlib.Core.Bool.{Bool, true, false, ◌&&◌}
use mathlib.Core.List.{List, [], ◌∷◌, map}
use mathlib.Core.Path.{◌≡◌, refl, sym, ap, ap₂, ◌∙◌}
use borrow.Author.Tests.{eq-eqb, ne_eqb}
use lib.Dec.{eqb}
use lib.ListN.{length, take, drop}
use Rattle.std.specs.Prelude.{leb}
use Rattle.std.specs.List.{list_all}
use Rattle.machine.specs.declared.Head.{Head}
use Rattle.language.specs.Content.{Content}
use Rattle.language.specs.Agreement.{at, records, rule_in, string_at, content_of_answer}
use Rattle.sheet_view.specs.Rules.{arity_of}
use Rattle.sheet_view.specs.Sections.{rules_from}
use Rattle.sheet_view.proofs.Records.{records-start, records-next, records-end}
use Rattle.sheet_view.proofs.Views.{arity_is}
use Rattle.running.specs.Tape.{half}
use Rattle.running.specs.Refusals.{has_arity, has_room, unfit_for}
use Rattle.runner_fit.specs.Tests.{same_arity, by_tests}

-- the arity of the rules that records stand for is what the records say
rules_alike : (text : List ℕ) (tapes : ℕ) (rs : List (List ℕ))
    → list_all (λ r. eqb (length r.actions) tapes) (map (rule_in text) rs) ≡ same_arity tapes rs
rules_alike text tapes [] = refl
rules_alike text tapes (ws ∷ rs) =
    ap (λ n. eqb n tapes && list_all (λ r. eqb (length r.actions) tapes) (map (rule_in text) rs)) (arity_is text ws)
    ∙ ap (λ b. eqb (arity_of ws) tapes && b) (rules_alike text tapes rs)

module _ (h : Head) (sheet text : List ℕ) (cells : ℕ) where
  abbrev m : Content
  m = content_of_answer (record { head = h; sheet = sheet; text = text })

  -- the tests over the words
  abbrev tapes : Bool
  tapes = leb 1 h.tapes && leb h.tapes 3

  abbrev arity : Bool
  arity = same_arity h.tapes (records h.counts.rules (rules_from h.counts sheet))

  abbrev room : Bool
  room = leb 1 (half cells h.tapes) && leb (length (string_at text h.input)) (half cells h.tapes)

  arity_means : has_arity m ≡ arity
  unfolding content_of_answer
  arity_means = rules_alike text h.tapes (records h.counts.rules (rules_from h.counts sheet))

  -- they are those of the machine
  unfit_is : unfit_for m cells ≡ by_tests tapes arity room
  unfolding unfit_for has_room content_of_answer
  unfit_is = ap (λ b. by_tests tapes b room) arity_means

  pub tests_mean : (t a r : Bool) → t ≡ tapes → a ≡ arity → r ≡ room → by_tests t a r ≡ unfit_for m cells
  tests_mean t a r p q s = ap₂ (λ x y. by_tests x y r) p q ∙ ap (by_tests tapes arity) s ∙ sym unfit_is

-- ---- the walk over the rules

module _ (tapes n : ℕ) (ws : List ℕ) where
  -- all of them at first
  pub arity_start : same_arity tapes (records (n - 0) ws) ≡ same_arity tapes (records n ws)
  arity_start = ap (same_arity tapes) (records-start n ws)

  -- and none in the end
  pub arity_end : (i : ℕ) (rest : List ℕ) → n ≤ i → same_arity tapes (records (n - i) rest) ≡ same_arity tapes (records n ws)
      → true ≡ same_arity tapes (records n ws)
  arity_end i rest h e = sym (ap (same_arity tapes) (records-end n i rest h)) ∙ e

  -- a rule that stands before the others, whose record says a
  module _ (i : ℕ) (rest : List ℕ) (h : i < n) (e : same_arity tapes (records (n - i) rest) ≡ same_arity tapes (records n ws))
      (rule : List ℕ) (here : rule ≡ take (at rest 0) (drop 0 rest)) (a : ℕ) (told : a ≡ arity_of rule) where
    first : (eqb a tapes && same_arity tapes (records (n - (i + 1)) (drop (at rest 0) rest))) ≡ same_arity tapes (records n ws)
    first =
        ap (λ x. eqb x tapes && same_arity tapes (records (n - (i + 1)) (drop (at rest 0) rest))) (told ∙ ap arity_of here)
        ∙ sym (ap (same_arity tapes) (records-next n i rest h)) ∙ e

    -- another arity answers for all
    pub arity_other : (a ≡ tapes → ⊥) → false ≡ same_arity tapes (records n ws)
    arity_other d = sym (ap (λ b. b && same_arity tapes (records (n - (i + 1)) (drop (at rest 0) rest))) (ne_eqb a tapes d)) ∙ first

    -- the same one leaves the answer to the others
    pub arity_next : a ≡ tapes → (k : ℕ) (rest' : List ℕ) → k ≡ at rest 0 → rest' ≡ drop k rest
        → same_arity tapes (records (n - (i + 1)) rest') ≡ same_arity tapes (records n ws)
    arity_next s k rest' q r =
        ap (λ l. same_arity tapes (records (n - (i + 1)) l)) (r ∙ ap (λ m. drop m rest) q)
        ∙ sym (ap (λ b. b && same_arity tapes (records (n - (i + 1)) (drop (at rest 0) rest))) (eq-eqb a tapes s)) ∙ first
