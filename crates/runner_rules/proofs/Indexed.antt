-- What `rules_of` makes holds the rules of the machine that was read: names by their numbers, the words of its records, and for
-- each name whether it is final or where its first record begins.
use Rattle.std.proofs.Common.{◌≡◌, ℕ, suc, ◌+◌, ◌*◌, ◌<◌, ◌≤◌, true, ◌&&◌, List, [], ◌∷◌, map, length, get_or, take, drop, eqb, leb, All, sym, ap, ap₂, ◌∙◌, subst, arith, get_or-drop, get_or-take, length-drop, eqb-true, leb-true}
use Rattle.std.specs.List.{list_all}
use Rattle.std.specs.List.{AllByRecursion}
use Rattle.lexer.specs.Text.{same}
use Rattle.lexer.specs.Tokens.{Span}
use Rattle.machine.specs.declared.Head.{Head}
use Rattle.language.specs.Machine.{Rule, Machine}
use Rattle.language.specs.Layout.{rule_words}
use Rattle.language.specs.Agreement.{records, characters_at, rule_in, content_of_answer}
use Rattle.language.proofs.Every.{and_left, and_right}
use Rattle.language.proofs.Counts.{rule_length_lem}
use Rattle.sheet_view.specs.Sections.{rules_from}
use Rattle.sheet_view.specs.Rules.{from_of, arity_of}
use Rattle.sheet_view.proofs.Views.{rules_are, arity_is}
use Rattle.form_theorems.specs.Read.{machine_in, ReadAs}
use Rattle.running.specs.Step.{is_final}
use Rattle.running.specs.Refusals.{has_tapes, has_arity}
use Rattle.running.specs.Batch.{content_of_text}
use Rattle.runner_names_theorems.specs.Names.{NamePlace}
use Rattle.runner_names_theorems.proofs.SheetNames.{RecordNamed, content_is, rule_records, records_named}
use Rattle.runner_names.specs.Numbers.{number_at, NamesNumbered, final_at, first_state}
use Rattle.runner_names.proofs.NameLaws.{final_of_name}
use Rattle.runner_rules.specs.declared.search.Rules.{Rules}
use Rattle.runner_rules.specs.Firsts.{first_at, before_rules, HasNumber, first_record, or_record, end_of, SaysStates, SaysRules}
use Rattle.runner_rules.specs.Rules.{RulesOf, RecordOf, number_of, records_of}

-- a record of a rule is as long as its actions need
abbrev Long : List ℕ → Type 0
Long ws = 11 + 7 * arity_of ws ≤ length ws

rules_long : (rs : List (Rule Span)) → AllByRecursion Long (map rule_words rs)
unfolding rule_words
rules_long [] = tt
rules_long (r ∷ rs) = (omega (arith, rule_length_lem r), rules_long rs)

module _ (t : List ℕ) (head : Head) (sheet : List ℕ) (read : ReadAs t head sheet) where
  abbrev base : ℕ
  base = length t + 1

  abbrev m : Machine Span
  m = machine_in t

  abbrev all : List (List ℕ)
  all = records head.counts.rules (rules_from head.counts sheet)

  rules_is : (content_of_text t).rules ≡ map (rule_in t) all
  rules_is =
      sym (ap (λ c. c.rules) (content_is t head sheet read)) ∙ rules_are (record { head = head; sheet = sheet; text = t })

  content_tapes : head.tapes ≡ (content_of_text t).tapes
  unfolding content_of_answer
  content_tapes = ap (λ c. c.tapes) (content_is t head sheet read)

  all_long : AllByRecursion Long all
  all_long = subst (AllByRecursion Long) (sym (rule_records t head sheet read)) (rules_long m.rules)

  -- ---- numbers, in a row that is the last of work

  module _ (work : List ℕ) (numbered : NamesNumbered t work) (numbers : List ℕ) (numbers_is : numbers ≡ drop (5 * base) work) (room : 6 * base ≤ length work) where
    number_is : (p : Span) → get_or numbers p.start 0 ≡ number_at t work p
    number_is p = ap (λ l. get_or l p.start 0) numbers_is ∙ get_or-drop (5 * base) work p.start 0

    start_inside : (p : Span) → NamePlace m p → p.start < length numbers
    start_inside p h = omega (arith, numbered.numbers.inside p h, ap length numbers_is, length-drop (5 * base) work, room)

    number_low : (p : Span) → NamePlace m p → get_or numbers p.start 0 < base
    number_low p h = omega (arith, number_is p, numbered.numbers.low p h)

    numbers_same : (p q : Span) → NamePlace m p → NamePlace m q
        → eqb (get_or numbers p.start 0) (get_or numbers q.start 0) ≡ same (characters_at t p) (characters_at t q)
    numbers_same p q h k = ap₂ eqb (number_is p) (number_is q) ∙ numbered.numbers.same_number p q h k

    have_numbers : (size : ℕ) → 2 * base ≤ size → (l : List (List ℕ)) → All (RecordNamed m) l → AllByRecursion (HasNumber numbers size) l
    have_numbers size fits [] h = tt
    have_numbers size fits (ws ∷ l) h =
        let named : NamePlace m (from_of ws) = (h 0 ws (omega arith)).0 in
        ((start_inside (from_of ws) named, omega (arith, number_low (from_of ws) named, fits)), have_numbers size fits l (λ k d i. h (suc k) d (omega (arith, i))))

    -- what is asked of the records when the first ones are looked for
    pub records_numbered : (size : ℕ) → 2 * base ≤ size → (words : List ℕ) → words ≡ rules_from head.counts sheet
        → AllByRecursion (HasNumber numbers size) (records head.counts.rules words)
    records_numbered size fits words e =
        subst (λ w. AllByRecursion (HasNumber numbers size) (records head.counts.rules w)) (sym e) (have_numbers size fits all (records_named t head sheet read))

    -- the row of first rules, of which the states were said before
    module _ (front positions row firsts : List ℕ) (front_is : front ≡ take (5 * base) work) (positions_is : positions ≡ take base front)
        (positions_size : length positions ≡ base) (row_size : length row ≡ 2 * base)
        (states : SaysStates sheet positions row (length positions)) (rules : SaysRules numbers all row firsts) (few : head.counts.states ≤ 4294967295) where
      position_is : (p : Span) → NamePlace m p
          → get_or positions (get_or numbers p.start 0) 0 ≡ first_state (content_of_text t).states (characters_at t p)
      position_is p h =
          let low : get_or numbers p.start 0 < base = number_low p h in
          ap (λ l. get_or l (get_or numbers p.start 0) 0) (positions_is ∙ ap (take base) front_is)
          ∙ get_or-take base (take (5 * base) work) (get_or numbers p.start 0) 0 low
          ∙ get_or-take (5 * base) work (get_or numbers p.start 0) 0 (omega (arith, low))
          ∙ ap (λ k. get_or work k 0) (number_is p) ∙ numbered.states p h

      pub first_is : (p : Span) → NamePlace m p → first_at firsts (get_or numbers p.start 0)
          ≡ or_record (before_rules (is_final (content_of_text t).states (characters_at t p))) (first_record numbers (get_or numbers p.start 0) 0 all)
      first_is p h =
          let k = get_or numbers p.start 0 in
          let low : k < base = number_low p h in
          let final : final_at sheet (get_or positions k 0) ≡ is_final (content_of_text t).states (characters_at t p) =
          ap (final_at sheet) (position_is p h) ∙ final_of_name t head sheet read (characters_at t p) few in
          rules k (omega (arith, low, row_size))
          ∙ ap (λ f. or_record f (first_record numbers k 0 all)) (states k (omega (arith, low, positions_size)) ∙ ap before_rules final)

-- ---- the table

module _ (r : Rules) (head : Head) (sheet : List ℕ) (read : ReadAs r.text.now head sheet)
    (tapes_is : r.tapes ≡ head.tapes) (words_is : r.words.now ≡ rules_from head.counts sheet)
    (has_t : has_tapes (content_of_text r.text.now) ≡ true) (has_a : has_arity (content_of_text r.text.now) ≡ true) where
  abbrev t : List ℕ
  t = r.text.now

  tapes : r.tapes ≡ (content_of_text t).tapes
  tapes = tapes_is ∙ content_tapes t head sheet read

  all_is : records_of r head.counts.rules ≡ all t head sheet read
  all_is = ap (records head.counts.rules) words_is

  record_each : (l : List (List ℕ)) → All (RecordNamed (machine_in t)) l
      → list_all (λ x. eqb (length x.actions) (content_of_text t).tapes) (map (rule_in t) l) ≡ true → AllByRecursion Long l → AllByRecursion (RecordOf r) l
  record_each [] h a long = tt
  record_each (ws ∷ l) h a long =
      let named = h 0 ws (omega arith) in
      let arity : arity_of ws ≡ r.tapes = sym (arity_is t ws) ∙ eqb-true (length (rule_in t ws).actions) (content_of_text t).tapes (and_left _ _ a) ∙ sym tapes in (
        record { from_named = named.0; to_named = named.1; arity = arity; long = omega (arith, long.0, arity) },
        record_each l (λ k d i. h (suc k) d (omega (arith, i))) (and_right _ _ a) long.1,
      )

  fits : leb 1 r.tapes && leb r.tapes 3 ≡ true
  fits = ap (λ n. leb 1 n && leb n 3) tapes ∙ has_t

  module _ (work : List ℕ) (numbered : NamesNumbered t work) (numbers_is : r.numbers.now ≡ drop (5 * (length t + 1)) work)
      (room : 6 * (length t + 1) ≤ length work) (front positions row : List ℕ) (front_is : front ≡ take (5 * (length t + 1)) work)
      (positions_is : positions ≡ take (length t + 1) front) (positions_size : length positions ≡ length t + 1)
      (row_size : length row ≡ 2 * (length t + 1)) (firsts_size : length r.firsts.now ≡ length row)
      (states : SaysStates sheet positions row (length positions)) (rules : SaysRules r.numbers.now (records_of r head.counts.rules) row r.firsts.now)
      (end_is : r.end ≡ end_of 0 (records_of r head.counts.rules)) (few : head.counts.states ≤ 4294967295) where
    all_rules : SaysRules r.numbers.now (all t head sheet read) row r.firsts.now
    all_rules = subst (λ l. SaysRules r.numbers.now l row r.firsts.now) all_is rules

    pub rules_of : RulesOf r
    rules_of = record {
      tapes = tapes;
      least = leb-true 1 r.tapes (and_left _ _ fits);
      most = leb-true r.tapes 3 (and_right _ _ fits);
      count = head.counts.rules;
      rules = rules_is t head sheet read ∙ ap (map (rule_in t)) (sym all_is);
      each = subst (AllByRecursion (RecordOf r)) (sym all_is)
          (record_each (all t head sheet read) (records_named t head sheet read)
          (ap (list_all (λ x. eqb (length x.actions) (content_of_text t).tapes)) (sym (rules_is t head sheet read)) ∙ has_a)
          (all_long t head sheet read));
      end = end_is;
      inside = start_inside t head sheet read work numbered r.numbers.now numbers_is room;
      low = λ p h. omega (arith, number_low t head sheet read work numbered r.numbers.now numbers_is room p h, firsts_size, row_size);
      same_number = numbers_same t head sheet read work numbered r.numbers.now numbers_is room;
      first = λ p h.
          first_is t head sheet read work numbered r.numbers.now numbers_is room front positions row r.firsts.now front_is positions_is positions_size row_size states all_rules few p h
          ∙ ap (λ l. or_record (before_rules (is_final (content_of_text t).states (characters_at t p))) (first_record r.numbers.now (number_of r p) 0 l)) (sym all_is);
    }
