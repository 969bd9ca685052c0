-- The words of a head and a sheet that are places of names: the words 1 and 3 of each rule's record, the first two of each state,
-- and the head's start. With them, what the content of a text has of its states.
use mathlib.Core.Path.{◌≡◌, refl, sym, ap, ap₂, subst, ◌∙◌}
use Prim.Native.Nat.{ℕ, zero, suc, ◌+◌, ◌-◌, ◌*◌, ◌<◌}
use native.Mathlib.Omega.{arith}
use mathlib.Core.Bool.{false}
use mathlib.Core.List.{List, [], ◌∷◌, ◌++◌, map}
use mathlib.Core.Logic.{◌⊎◌, inl, inr}
use lib.Dec.{eqb}
use lib.ListN.{length, get_or, length-map}
use Rattle.std.specs.Prelude.{All, Contains, Option, None, Some}
use Rattle.std.proofs.lemmas.List.Elements.{All-map, All-weaker, All-contains_itself, Contains-get_or}
use Rattle.chars.specs.Utf8.{sizes, decode}
use Rattle.chars.proofs.Theorems.{decode-scalars, length-encode, valid_whole}
use Rattle.lexer.specs.Tokens.{Span}
use Rattle.machine.specs.declared.Head.{Head}
use Rattle.language.specs.Machine.{Located, State, Rule, Machine}
use Rattle.language.specs.Content.{StateContent, content_of}
use Rattle.language.specs.Layout.{no_place, place_or_none, flat, head_of, state_words, rule_words, sheet_words}
use Rattle.language.specs.Agreement.{records, at, place_at, characters_at, content_of_answer}
use Rattle.language.specs.Outcome.{zeros}
use Rattle.language.proofs.AnswerBack.{records_back, sections, rules-at, sigma_on, rule_words_on, machine_placed, answer_of_text}
use Rattle.language.proofs.Claim.{is_short, is_valid}
use Rattle.sheet_view.specs.Sections.{rules_from}
use Rattle.sheet_view.specs.Rules.{from_of, to_of}
use Rattle.sheet_view.proofs.Views.{states_are, state_is}
use Rattle.form_theorems.specs.Read.{machine_in, ReadAs}
use Rattle.running.specs.Batch.{content_of_text}
use Rattle.runner_names_theorems.specs.Names.{NamePlace, of_state, of_from, of_to, of_start}

-- the place of the i-th state's name, in the words of states and what follows
state_place : (l : List (State Span)) (r : List ℕ) (i : ℕ) (d : State Span) → i < length l → place_at (flat state_words l ++ r) (3 * i) ≡ (get_or l i d).name.place
unfolding flat state_words
state_place [] r i d h = absurd (omega arith)
state_place (s ∷ l) r zero d h = refl
state_place (s ∷ l) r (suc i) d h =
    let e : 3 * suc i ≡ suc (suc (suc (3 * i))) = omega arith in
    ap (place_at (flat state_words (s ∷ l) ++ r)) e ∙ state_place l r i d (omega arith)

-- the names of a rule in its record
abbrev pub RecordNamed : Machine Span → List ℕ → Type 0
RecordNamed m ws = NamePlace m (from_of ws) × NamePlace m (to_of ws)

rule_named : (m : Machine Span) (r : Rule Span) → Contains m.rules r → RecordNamed m (rule_words r)
unfolding rule_words
rule_named m r c = (of_from r c, of_to r c)

-- a text was read
module _ (t : List ℕ) (head : Head) (sheet : List ℕ) (read : ReadAs t head sheet) where
  abbrev m : Machine Span
  m = machine_in t

  -- the words behind those of the machine
  abbrev rest : List ℕ
  rest = zeros (length sheet - length (sheet_words m))

  short : sizes (decode t) < 4294967295
  short = omega (arith, is_short t read.is_admitted, sym (length-encode (decode t)), ap length (valid_whole t (is_valid t read.is_admitted)))

  -- ---- what was read is the content of the text

  pub content_is : content_of_answer (record { head = head; sheet = sheet; text = t }) ≡ content_of_text t
  unfolding content_of_text
  content_is =
      ap₂ (λ (h : Head) (s : List ℕ). content_of_answer (record { head = h; sheet = s; text = t })) read.head_is read.sheet_is
      ∙ answer_of_text t rest (is_valid t read.is_admitted) (omega (arith, is_short t read.is_admitted))

  -- ---- rules

  pub rule_records : records head.counts.rules (rules_from head.counts sheet) ≡ map rule_words m.rules
  unfolding head_of rule_words_on
  rule_records =
      ap₂ (λ (h : Head) (s : List ℕ). records h.counts.rules (rules_from h.counts s)) read.head_is read.sheet_is
      ∙ ap (records (length m.rules)) (rules-at (decode t) (decode-scalars t) short m (machine_placed (decode t)) rest)
      ∙ records_back m.rules rest

  -- in each rule's record the words 1 and 3 begin places of names
  pub records_named : All (RecordNamed m) (records head.counts.rules (rules_from head.counts sheet))
  records_named =
      subst (All (RecordNamed m)) (sym rule_records)
      (All-map (RecordNamed m) rule_words m.rules (All-weaker (Contains m.rules) (λ r. RecordNamed m (rule_words r)) (rule_named m) m.rules (All-contains_itself m.rules)))

  -- ---- states

  count_is : head.counts.states ≡ length m.states
  unfolding head_of
  count_is = ap (λ (h : Head). h.counts.states) read.head_is

  -- in the words of each state there is the place of its name
  pub state_named : (i : ℕ) → i < head.counts.states → NamePlace m (place_at sheet (3 * i))
  state_named i low =
      let s : sheet ≡ flat state_words m.states ++ sigma_on (decode t) (decode-scalars t) short m (machine_placed (decode t)) rest =
      read.sheet_is ∙ sections (decode t) (decode-scalars t) short m (machine_placed (decode t)) rest in
      let d : State Span = record { name = record { value = []; place = no_place }; final = false } in
      let inside : i < length m.states = omega (arith, count_is) in
      subst (NamePlace m) (sym (ap (λ ws. place_at ws (3 * i)) s ∙ state_place m.states _ i d inside))
      (of_state (get_or m.states i d) (Contains-get_or m.states i d inside))

  pub states_count : length (content_of_text t).states ≡ head.counts.states
  unfolding content_of_text content_of
  states_count = length-map m.states _ ∙ sym count_is

  -- each state of the text has the characters at its place, and is final by its mark
  pub state_at : (i : ℕ) (d : StateContent) → i < head.counts.states
      → get_or (content_of_text t).states i d ≡ record { name = characters_at t (place_at sheet (3 * i)); final = eqb (at sheet (3 * i + 2)) 1 }
  state_at i d low =
      ap (λ c. get_or c.states i d) (sym content_is) ∙ ap (λ l. get_or l i d) (states_are (record { head = head; sheet = sheet; text = t }))
      ∙ state_is t head.counts.states sheet i d low

  -- ---- the start

  start_of : (o : Option (Located Span (List ℕ))) → m.start ≡ o → (m.start ≡ None) × (place_or_none o ≡ no_place) ⊎ NamePlace m (place_or_none o)
  unfolding place_or_none
  start_of None e = inl (e, refl)
  start_of (Some l) e = inr (of_start l e)

  -- the head's start is the place of a name, or says that the machine has no start
  pub start_named : (m.start ≡ None) × (head.start ≡ no_place) ⊎ NamePlace m head.start
  unfolding head_of
  start_named =
      let e : head.start ≡ place_or_none m.start = ap (λ (h : Head). h.start) read.head_is in
      subst (λ p. (m.start ≡ None) × (p ≡ no_place) ⊎ NamePlace m p) (sym e) (start_of m.start refl)
