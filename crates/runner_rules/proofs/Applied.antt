-- What a rule does, by the words from its record on.
use Rattle.std.proofs.Common.{◌≡◌, ℕ, zero, suc, ◌≤◌, List, [], ◌∷◌, map, length, take, drop, refl, sym, ap, ap₂, ◌∙◌, subst, arith, length-take, length-drop}
use Rattle.language.specs.Agreement.{at, dir_of, characters_at}
use Rattle.sheet_view.specs.Rules.{to_of, write_of, move_of}
use Rattle.sheet_view.proofs.Views.{to_is}
use Rattle.runner_tapes.specs.declared.Symbols.{Symbols}
use Rattle.runner_tapes.specs.declared.Moves.{Moves}
use Rattle.runner_tapes.specs.Shown.{symbols_of, dirs_of}
use Rattle.runner_rules.specs.declared.search.Rules.{Rules}
use Rattle.runner_rules.specs.Due.{record_at, rule_here}
use Rattle.runner_rules.specs.Rules.{RulesOf, RecordOf, Named}
use Rattle.runner_rules.specs.Search.{HasActions}
use Rattle.runner_rules.proofs.Shown.{to_shown, writes_shown, dirs_shown}

-- the first n of three, where the later ones count only if there are so many
first_of_three : {A : Type 0} (n : ℕ) (a b c x y z : A) → a ≡ x → (2 ≤ n → b ≡ y) → (3 ≤ n → c ≡ z) → take n (a ∷ b ∷ c ∷ []) ≡ take n (x ∷ y ∷ z ∷ [])
first_of_three zero a b c x y z e f g = refl
first_of_three (suc zero) a b c x y z e f g = ap (λ u. u ∷ []) e
first_of_three (suc (suc zero)) a b c x y z e f g = ap₂ (λ u v. u ∷ v ∷ []) e (f (omega arith))
first_of_three (suc (suc (suc n))) a b c x y z e f g =
    ap₂ (λ u v. u ∷ v) e (ap₂ (λ u v. u ∷ v ∷ take n []) (f (omega arith)) (g (omega arith)))

module _ (r : Rules) (j : ℕ) (record_of : RecordOf r (record_at r j)) where
  abbrev rest : List ℕ
  rest = drop j r.words.now

  abbrev width : ℕ
  width = at r.words.now j

  pub has_actions : HasActions r rest
  has_actions = omega (arith, record_of.long, length-take width rest)

  pub inside : j ≤ length r.words.now
  inside = omega (arith, has_actions, length-drop j r.words.now)

  module _ (ws : List ℕ) (is : ws ≡ rest) where
    place_to : to_of ws ≡ to_of (record_at r j)
    place_to = ap to_of is ∙ sym (to_shown r.text.now rest width r.tapes record_of.long)

    pub name_to : characters_at r.text.now (to_of ws) ≡ (rule_here r j).to
    name_to = ap (characters_at r.text.now) place_to ∙ sym (to_is r.text.now (record_at r j))

    pub named_to : Named r (to_of ws)
    named_to = subst (Named r) (sym place_to) record_of.to_named

    module _ (holds : RulesOf r) where
      pub symbols_written : (s : Symbols) → s.first ≡ write_of ws 0 → (2 ≤ r.tapes → s.second ≡ write_of ws 1) → (3 ≤ r.tapes → s.third ≡ write_of ws 2)
          → symbols_of r.tapes s ≡ map (λ a. a.write) (rule_here r j).actions
      unfolding symbols_of
      symbols_written s a b c =
          first_of_three r.tapes s.first s.second s.third (write_of ws 0) (write_of ws 1) (write_of ws 2) a b c
          ∙ ap (λ l. take r.tapes (write_of l 0 ∷ write_of l 1 ∷ write_of l 2 ∷ [])) is
          ∙ sym (writes_shown r.text.now rest width r.tapes record_of.long holds.least holds.most record_of.arity)

      pub dirs_moved : (m : Moves) → m.first ≡ move_of ws 0 → (2 ≤ r.tapes → m.second ≡ move_of ws 1) → (3 ≤ r.tapes → m.third ≡ move_of ws 2)
          → dirs_of r.tapes m ≡ map (λ a. a.dir) (rule_here r j).actions
      unfolding dirs_of
      dirs_moved m a b c =
          let dir = λ (l : List ℕ) (k : ℕ). dir_of (move_of l k) in
          first_of_three r.tapes (dir_of m.first) (dir_of m.second) (dir_of m.third) (dir ws 0) (dir ws 1) (dir ws 2)
          (ap dir_of a) (λ h. ap dir_of (b h)) (λ h. ap dir_of (c h))
          ∙ ap (λ l. take r.tapes (dir l 0 ∷ dir l 1 ∷ dir l 2 ∷ [])) is
          ∙ sym (dirs_shown r.text.now rest width r.tapes record_of.long holds.least holds.most record_of.arity)

      -- of one tape the first words of each kind are all that the rule does
      module _ (one : r.tapes ≡ 1) where
        pub symbol_written : write_of ws 0 ∷ [] ≡ map (λ a. a.write) (rule_here r j).actions
        symbol_written =
            ap (λ l. write_of l 0 ∷ []) is
            ∙ sym (ap (λ n. take n (write_of rest 0 ∷ write_of rest 1 ∷ write_of rest 2 ∷ [])) one)
            ∙ sym (writes_shown r.text.now rest width r.tapes record_of.long holds.least holds.most record_of.arity)

        pub dir_moved : dir_of (move_of ws 0) ∷ [] ≡ map (λ a. a.dir) (rule_here r j).actions
        dir_moved =
            ap (λ l. dir_of (move_of l 0) ∷ []) is
            ∙ sym (ap (λ n. take n (dir_of (move_of rest 0) ∷ dir_of (move_of rest 1) ∷ dir_of (move_of rest 2) ∷ [])) one)
            ∙ sym (dirs_shown r.text.now rest width r.tapes record_of.long holds.least holds.most record_of.arity)
