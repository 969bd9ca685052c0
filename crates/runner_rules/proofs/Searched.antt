-- The first rule that matches is the one that the search finds: records for other names, and those that read other symbols, are
-- passed, and no rule stands before the first record for the name.
use Rattle.std.proofs.Common.{◌≡◌, ℕ, zero, suc, ◌+◌, ◌*◌, ◌<◌, ◌≤◌, Bool, true, false, ◌&&◌, List, [], ◌∷◌, Option, Some, None, map, length, get_or, drop, eqb, refl, sym, ap, ap₂, ◌∙◌, subst, arith, length-take}
use Rattle.std.specs.List.{AllByRecursion}
use Rattle.lexer.specs.Text.{same}
use Rattle.lexer.specs.Tokens.{Span}
use Rattle.language.specs.Content.{RuleContent}
use Rattle.language.specs.Agreement.{at, records, characters_at, rule_in}
use Rattle.language.proofs.Every.{by_test}
use Rattle.sheet_view.specs.Rules.{length_of, from_of}
use Rattle.sheet_view.proofs.Views.{from_is}
use Rattle.running.specs.Step.{is_final, matches}
use Rattle.running.specs.Run as Run
use Rattle.running.specs.Run.{due_in}
use Rattle.running.specs.Batch.{content_of_text}
use Rattle.runner_rules.specs.declared.firsts.First.{First}
use Rattle.runner_rules.specs.declared.firsts.First.TheVariants.{Final, NoRule, At}
use Rattle.runner_rules.specs.declared.search.Rules.{Rules}
use Rattle.runner_rules.specs.Firsts.{first_at, number_in, before_rules, first_record, or_record, end_of}
use Rattle.runner_rules.specs.Due.{record_at, rule_here}
use Rattle.runner_rules.specs.Rules.{RulesOf, RecordOf, Named, number_of}
use Rattle.runner_rules.specs.Search.{reads_of, is_match, match_in, first_match, due_by, Ahead}
use Rattle.runner_rules.proofs.Records.{first_word, records_split, record_length}
use Rattle.runner_rules.proofs.Shown.{from_shown, reads_shown}

-- records end no earlier than they begin
end_behind : (j : ℕ) (l : List (List ℕ)) → j ≤ end_of j l
unfolding end_of
end_behind j [] = omega arith
end_behind j (ws ∷ l) = omega (arith, end_behind (j + length_of ws) l)

and_swap : (a b : Bool) → (a && b) ≡ (b && a)
and_swap true true = refl
and_swap true false = refl
and_swap false true = refl
and_swap false false = refl

-- ---- the three that may be said are not the same

abbrev kind : First → ℕ
kind Final = 0
kind NoRule = 1
kind (At i) = 2

not_final : (j : ℕ) → At j ≡ Final → ⊥
not_final j e = let k : 2 ≡ 0 = ap kind e in omega (arith, k)

is_rule : (j : ℕ) → At j ≡ NoRule → ⊥
is_rule j e = let k : 2 ≡ 1 = ap kind e in omega (arith, k)

final_rule : Final ≡ NoRule → ⊥
final_rule e = let k : 0 ≡ 1 = ap kind e in omega (arith, k)

rule_final : NoRule ≡ Final → ⊥
rule_final e = let k : 1 ≡ 0 = ap kind e in omega (arith, k)

final_at_rule : (j : ℕ) → Final ≡ At j → ⊥
final_at_rule j e = let k : 0 ≡ 2 = ap kind e in omega (arith, k)

rule_at_rule : (j : ℕ) → NoRule ≡ At j → ⊥
rule_at_rule j e = let k : 1 ≡ 2 = ap kind e in omega (arith, k)

abbrev place_in : First → ℕ
place_in Final = 0
place_in NoRule = 0
place_in (At i) = i

same_place : (i j : ℕ) → At i ≡ At j → i ≡ j
same_place i j e = ap place_in e

module _ (r : Rules) (holds : RulesOf r) where
  abbrev words : List ℕ
  words = r.words.now

  abbrev t : List ℕ
  t = r.text.now

  -- the records from a word on
  abbrev from : ℕ → ℕ → List (List ℕ)
  from n j = records n (drop j words)

  -- a record is as long as its actions need
  long : (j : ℕ) → RecordOf r (record_at r j) → 11 + 7 * r.tapes ≤ at words j
  long j h = omega (arith, h.long, length-take (at words j) (drop j words))

  -- the place of a record's state, in the words from the record on
  from_on : (j : ℕ) → RecordOf r (record_at r j) → from_of (record_at r j) ≡ from_of (drop j words)
  from_on j h = from_shown t (drop j words) (at words j) r.tapes h.long

  -- ---- one rule

  module _ (place : Span) (named : Named r place) where
    abbrev name : List ℕ
    name = characters_at t place

    abbrev number : ℕ
    number = number_of r place

    -- a record is for the name if it is for the number
    same_name : (ws : List ℕ) → RecordOf r ws → same name (rule_in t ws).from ≡ eqb number (number_in r.numbers.now ws)
    same_name ws h = ap (same name) (from_is t ws) ∙ sym (holds.same_number place (from_of ws) named h.from_named)

    module _ (symbols : List ℕ) where
      abbrev passes : List ℕ → Bool
      passes ws = matches name symbols (rule_in t ws)

      abbrev match_of : List (List ℕ) → Option RuleContent
      match_of l = match_in r place symbols (map (rule_in t) l)

      -- the test of the code is whether the rule matches
      record_matches : (j : ℕ) → RecordOf r (record_at r j) → passes (record_at r j) ≡ is_match r number symbols (drop j words)
      unfolding matches
      record_matches j h =
          let a : same name (rule_here r j).from ≡ eqb number (number_in r.numbers.now (drop j words)) =
          same_name (record_at r j) h ∙ ap (λ p. eqb number (get_or r.numbers.now p.start 0)) (from_on j h) in
          let b : map (λ a. a.read) (rule_here r j).actions ≡ reads_of r.tapes (drop j words) =
          reads_shown t (drop j words) (at words j) r.tapes h.long holds.least holds.most h.arity in
          ap₂ (λ x l. x && same symbols l) a b ∙ and_swap (eqb number (number_in r.numbers.now (drop j words))) (same symbols (reads_of r.tapes (drop j words)))

      -- a rule for another number does not match
      other_name : (ws : List ℕ) → RecordOf r ws → eqb number (number_in r.numbers.now ws) ≡ false → passes ws ≡ false
      unfolding matches
      other_name ws h e = rw (matches, same_name ws h, e) refl

      match_next : (ws : List ℕ) (l : List (List ℕ)) → passes ws ≡ false → match_of (ws ∷ l) ≡ match_of l
      match_next ws l e = rw e refl

      -- ---- the first record for the number

      there : (ws : List ℕ) (l : List (List ℕ)) (j : ℕ) → eqb number (number_in r.numbers.now ws) ≡ true
          → first_record r.numbers.now number j (ws ∷ l) ≡ At j
      unfolding first_record
      there ws l j e = rw (first_record, e) refl

      beyond : (ws : List ℕ) (l : List (List ℕ)) (j : ℕ) → eqb number (number_in r.numbers.now ws) ≡ false
          → first_record r.numbers.now number j (ws ∷ l) ≡ first_record r.numbers.now number (j + length_of ws) l
      unfolding first_record
      beyond ws l j e = rw (first_record, e) refl

      never_final : (l : List (List ℕ)) (j : ℕ) → first_record r.numbers.now number j l ≡ Final → ⊥
      unfolding first_record
      never_final [] j e = rule_final e
      never_final (ws ∷ l) j e = by_test (eqb number (number_in r.numbers.now ws))
          (λ y. not_final j (sym (there ws l j y) ∙ e))
          (λ y. never_final l (j + length_of ws) (sym (beyond ws l j y) ∙ e))

      -- where there is none, no rule matches
      nothing : (l : List (List ℕ)) (j : ℕ) → AllByRecursion (RecordOf r) l → first_record r.numbers.now number j l ≡ NoRule → match_of l ≡ None
      nothing [] j h e = refl
      nothing (ws ∷ l) j h e = by_test (eqb number (number_in r.numbers.now ws))
          (λ y. absurd (is_rule j (sym (there ws l j y) ∙ e)))
          (λ y. match_next ws l (other_name ws h.0 y) ∙ nothing l (j + length_of ws) h.1 (sym (beyond ws l j y) ∙ e))

      -- where a record is left, it stands before the rules' end
      below_end : (n j : ℕ) → AllByRecursion (RecordOf r) (from (suc n) j) → r.end ≡ end_of j (from (suc n) j) → j < r.end
      unfolding records end_of
      below_end n j a e =
          let is : from (suc n) j ≡ record_at r j ∷ from n (j + at words j) = records_split n j words in
          let each : RecordOf r (record_at r j) × AllByRecursion (RecordOf r) (from n (j + at words j)) = subst (AllByRecursion (RecordOf r)) is a in
          omega (arith, long j each.0, record_length j words, e ∙ ap (end_of j) is, end_behind (j + length_of (record_at r j)) (from n (j + at words j)))

      -- where it begins, the search may begin
      begins : (n j f : ℕ) → AllByRecursion (RecordOf r) (from n j) → r.end ≡ end_of j (from n j)
          → match_of (from n j) ≡ first_match r place symbols → first_record r.numbers.now number j (from n j) ≡ At f
          → Ahead r place symbols f × (f < r.end)
      unfolding first_record end_of records
      begins zero j f h e m q = absurd (rule_at_rule f q)
      begins (suc n) j f h e m q =
          let ws = record_at r j in
          let l = from n (j + at words j) in
          let is : from (suc n) j ≡ ws ∷ l = records_split n j words in
          let each : RecordOf r ws × AllByRecursion (RecordOf r) l = subst (AllByRecursion (RecordOf r)) is h in
          let q2 : first_record r.numbers.now number j (ws ∷ l) ≡ At f = ap (first_record r.numbers.now number j) (sym is) ∙ q in
          by_test (eqb number (number_in r.numbers.now ws))
          (λ y.
          subst (λ k. Ahead r place symbols k × (k < r.end)) (same_place j f (sym (there ws l j y) ∙ q2))
          (record { left = suc n; each = h; end = e; matched = m }, below_end n j h e))
          (λ y.
          begins n (j + at words j) f each.1
          (e ∙ ap (end_of j) is ∙ ap (λ k. end_of (j + k) l) (record_length j words))
          (sym (match_next ws l (other_name ws each.0 y)) ∙ ap match_of (sym is) ∙ m)
          (ap (λ k. first_record r.numbers.now number (j + k) l) (sym (record_length j words)) ∙ sym (beyond ws l j y) ∙ q2))

      -- ---- the search

      module _ (j : ℕ) (low : j < r.end) where
        -- a record begins where the search stands
        record Step : Type 0 where
          rest : List (List ℕ)
          is : RecordOf r (record_at r j)
          each : AllByRecursion (RecordOf r) rest
          count : ℕ
          rest_is : rest ≡ from count (j + at words j)
          end : r.end ≡ end_of (j + at words j) rest
          matched : match_of (record_at r j ∷ rest) ≡ first_match r place symbols

        step_of : (n : ℕ) → AllByRecursion (RecordOf r) (from n j) → r.end ≡ end_of j (from n j)
            → match_of (from n j) ≡ first_match r place symbols → Step
        unfolding records end_of
        step_of zero h e m = absurd (omega (arith, e, low))
        step_of (suc n) h e m =
            let is : from (suc n) j ≡ record_at r j ∷ from n (j + at words j) = records_split n j words in
            let each : RecordOf r (record_at r j) × AllByRecursion (RecordOf r) (from n (j + at words j)) = subst (AllByRecursion (RecordOf r)) is h in
            record {
              rest = from n (j + at words j);
              is = each.0;
              each = each.1;
              count = n;
              rest_is = refl;
              end = e ∙ ap (end_of j) is ∙ ap (λ k. end_of (j + k) (from n (j + at words j))) (record_length j words);
              matched = ap match_of (sym is) ∙ m;
            }

        module _ (ahead : Ahead r place symbols j) where
          step : Step
          step = step_of ahead.left ahead.each ahead.end ahead.matched

          pub ahead_record : RecordOf r (record_at r j)
          ahead_record = step.is

          -- with the words from the record on, and the number of the name
          module _ (ws : List ℕ) (ws_is : ws ≡ drop j words) where
            -- the number of the state that it is for can be looked up
            pub ahead_inside : (from_of ws).start < length r.numbers.now
            ahead_inside =
                let h : (from_of (record_at r j)).start < length r.numbers.now = holds.inside (from_of (record_at r j)) step.is.from_named in
                subst (λ (p : Span). p.start < length r.numbers.now) (from_on j step.is ∙ ap from_of (sym ws_is)) h

            module _ (k : ℕ) (k_is : k ≡ number) where
              tested : is_match r k symbols ws ≡ passes (record_at r j)
              tested = ap₂ (λ n l. is_match r n symbols l) k_is ws_is ∙ sym (record_matches j step.is)

              -- a record that matches is the first
              pub ahead_found : is_match r k symbols ws ≡ true → Run.applies (rule_here r j) ≡ due_by (first_match r place symbols)
              ahead_found e =
                  let y : passes (record_at r j) ≡ true = sym tested ∙ e in
                  let f : match_of (record_at r j ∷ step.rest) ≡ Some (rule_here r j) = rw y refl in
                  ap due_by (sym f ∙ step.matched)

              -- behind one that does not match, the search goes on
              pub ahead_next : is_match r k symbols ws ≡ false → (l : ℕ) → l ≡ length_of ws → Ahead r place symbols (j + l)
              ahead_next e l length_is =
                  let y : passes (record_at r j) ≡ false = sym tested ∙ e in
                  let width : l ≡ at words j = length_is ∙ ap length_of ws_is ∙ first_word j words in
                  let behind : Ahead r place symbols (j + at words j) = record {
                    left = step.count;
                    each = subst (AllByRecursion (RecordOf r)) step.rest_is step.each;
                    end = step.end ∙ ap (end_of (j + at words j)) step.rest_is;
                    matched = ap match_of (sym step.rest_is) ∙ sym (match_next (record_at r j) step.rest y) ∙ step.matched;
                  } in
                  subst (λ n. Ahead r place symbols (j + n)) (sym width) behind

            -- the record has words, all of them before the rules' end
            pub ahead_within : (l : ℕ) → l ≡ length_of ws → (0 < l) × (j + l ≤ r.end)
            ahead_within l length_is =
                let width : l ≡ at words j = length_is ∙ ap length_of ws_is ∙ first_word j words in
                let b = end_behind (j + at words j) step.rest in
                (omega (arith, width, long j step.is), omega (arith, width, b, step.end))

      -- at the rules' end no rule matches
      pub ahead_none : (j : ℕ) → Ahead r place symbols j → r.end ≤ j → Run.stops Run.stuck ≡ due_by (first_match r place symbols)
      unfolding records end_of
      ahead_none j ahead h = go ahead.left ahead.each ahead.end ahead.matched
        where
          go : (n : ℕ) → AllByRecursion (RecordOf r) (from n j) → r.end ≡ end_of j (from n j)
              → match_of (from n j) ≡ first_match r place symbols → Run.stops Run.stuck ≡ due_by (first_match r place symbols)
          go zero a e m = ap due_by m
          go (suc n) a e m =
              let s = below_end n j a e in
              absurd (omega (arith, s, h))

      -- ---- what is due

      abbrev final : Bool
      final = is_final (content_of_text t).states name

      abbrev due : Run.Due
      due = due_in (content_of_text t) name symbols

      said : first_at r.firsts.now number ≡ or_record (before_rules final) (first_record r.numbers.now number 0 (from holds.count 0))
      said = holds.first place named

      due_final : final ≡ true → Run.stops Run.halted ≡ due
      unfolding due_in
      due_final e = rw (due_in, e) refl

      pub due_other : final ≡ false → due_by (first_match r place symbols) ≡ due
      unfolding due_in
      due_other e = rw (due_in, e) (go (first_match r place symbols))
        where
          go : (o : Option RuleContent) → due_by o ≡ elim o [ None ↦ Run.stops Run.stuck | Some r ↦ Run.applies r ]
          go None = refl
          go (Some x) = refl

      module _ (f : First) (is : f ≡ first_at r.firsts.now number) where
        first : f ≡ or_record (before_rules final) (first_record r.numbers.now number 0 (from holds.count 0))
        first = is ∙ said

        -- where nothing is said of the state, the first record
        not_said : final ≡ false → f ≡ first_record r.numbers.now number 0 (from holds.count 0)
        not_said e = first ∙ ap (λ b. or_record (before_rules b) (first_record r.numbers.now number 0 (from holds.count 0))) e

        was_said : final ≡ true → f ≡ Final
        was_said e = first ∙ ap (λ b. or_record (before_rules b) (first_record r.numbers.now number 0 (from holds.count 0))) e

        pub due_halted : f ≡ Final → Run.stops Run.halted ≡ due
        due_halted e = by_test final due_final (λ n. absurd (never_final (from holds.count 0) 0 (sym (not_said n) ∙ e)))

        pub due_stuck : f ≡ NoRule → Run.stops Run.stuck ≡ due
        due_stuck e = by_test final
            (λ y. absurd (final_rule (sym (was_said y) ∙ e)))
            (λ n. ap due_by (sym (nothing (from holds.count 0) 0 holds.each (sym (not_said n) ∙ e)) ∙ ap (match_in r place symbols) (sym holds.rules)) ∙ due_other n)

        module _ (at : ℕ) (e : f ≡ At at) where
          unsaid : final ≡ false
          unsaid = by_test final (λ y. absurd (final_at_rule at (sym (was_said y) ∙ e))) (λ n. n)

          pub due_ahead : Ahead r place symbols at × (at < r.end)
          due_ahead = begins holds.count 0 at holds.each holds.end (ap (match_in r place symbols) (sym holds.rules)) (sym (not_said unsaid) ∙ e)

          pub due_found : due_by (first_match r place symbols) ≡ due
          due_found = due_other unsaid
