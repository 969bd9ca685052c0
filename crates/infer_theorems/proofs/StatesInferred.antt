-- The sections of states and finals, and the first state's place, are the language's.
use mathlib.Core.Path.{◌≡◌, refl, sym, ap, ap₂, subst, ◌∙◌, fun_ext}
use mathlib.Core.Bool.{Bool, true, false, ◌||◌, false≢true}
use mathlib.Core.List.{List, [], ◌∷◌, ◌++◌, map, append_assoc}
use Rattle.std.specs.Prelude.{Option, None, Some, unwrap_or, option_to_list}
use Prim.Native.Nat.{ℕ, suc, ◌+◌, ◌*◌, ◌≤◌, ◌<◌}
use native.Mathlib.Omega.{arith}
use borrow.Author.Tests.{ltb-false}
use lib.Dec.{eqb, ltb}
use lib.ListN.{length, get_or, take, drop, drop_of_length-le, length-append, length-take, length-drop, get_or-append}
use lib.Seq.{sets, sets-eq, get_or-append-add, get_or-take, get_or-drop, length-take-le}
use Rattle.diag.proofs.Cases.{by_test_lem}
use Rattle.diag.specs.declared.Span.{Span}
use Rattle.lexer.specs.Text.{same}
use Rattle.tokens.specs.declared.Token.{Token}
use Rattle.parser.specs.Row.{tokens_in, peek}
use Rattle.parser.specs.Views.{is_state}
use Rattle.language.specs.Machine.{Located, Rule, State}
use Rattle.language.specs.Lines.{Item, Line}
use Rattle.language.specs.Assembly as A
use Rattle.language.proofs.Columns
use Rattle.language.specs.Infer as I
use Rattle.language.specs.Layout as L
use Rattle.language.proofs.Every.{Every, Filled}
use Rattle.language.proofs.Counts.{choices-length, expand-length, choices-filled, Fits, Chosen, kept_fits}
use Rattle.language.proofs.LineUses.{line_mentions, states_from_lines}
use Rattle.assembler.specs.Rows.{rows, place_of}
use Rattle.assembler.specs.Entries.{Entry, entries}
use Rattle.assembler_names.specs.Names.{Interned, FirstsOf}
use Rattle.assembler.specs.Finals.{names_from, names_of}
use Rattle.assembler.specs.Assembled.{has_states}
use Rattle.assembler.proofs.Means.{AllMean}
use Rattle.assembler.proofs.FinalsMean.{NameIs, name-place, AllNames, no_names, one_name}
use Rattle.infer.specs.Page.{indices_from, indices_in}
use Rattle.infer.specs.States.{mention, mentions, start_name, inferred, names_add, finals, states_add, section, firsts_in, marks_in, state_section, place_at, final_section, first_state}
use Rattle.infer.proofs.SectionLaws.{first_there, first-none}
use Rattle.sheet_theorems.proofs.Shows.{StateShows, Mentions}
use Rattle.sheet_theorems.proofs.BodyShown.{kept-all}
use Rattle.infer_theorems.proofs.NameMarks.{states_of, AllStates, no_states, one_state, states-append, states_yes, states_no, states-all, all_append, all-states, line-names, adds_states, Marked, once_mean, each_mean, finals-marked}
use Rattle.infer_theorems.proofs.Firsts.{At, nowhere, there, firsts, states-at, start_at_lem, finals_at_lem}
use Rattle.infer_theorems.proofs.RuleLines.{RulesAt, no_rules_lem, no_rule, one-rule, rules-at}

abbrev Names : Type 0
Names = List (Located Span (List ℕ))

-- ---- no diagnostics
front-nil : {X : Type 0} (l m : List X) → l ++ m ≡ [] → l ≡ []
front-nil [] m e = refl
front-nil (x ∷ l) m e = absurd (omega (arith, ap length e))

back_nil : {X : Type 0} (l m : List X) → l ++ m ≡ [] → m ≡ []
back_nil [] m e = e
back_nil (x ∷ l) m e = absurd (omega (arith, ap length e))

module _ (ls : List (Line Span)) (fine : A.diagnostics_of ls ≡ []) where
  pub no_final_errors : A.final_errors (A.states_in (A.items ls)) [] (A.finals_in (A.items ls)) ≡ []
  unfolding A.diagnostics_of
  no_final_errors = front-nil _ _ (back_nil (A.declaration_errors [] (A.items ls)) _ (back_nil (A.line_errors ls) _ fine))

  pub all-kept : A.kept 0 (A.body_of ls).rules ≡ (A.body_of ls).rules
  unfolding A.diagnostics_of
  all-kept = kept-all 0 (A.body_of ls).rules (back_nil (A.final_errors (A.states_in (A.items ls)) [] (A.finals_in (A.items ls))) _ (back_nil (A.declaration_errors [] (A.items ls)) _ (back_nil (A.line_errors ls) _ fine)))

-- what F lists without a repeat is fresh
module _ (q : Option Names) where
  listed-none : (w : List ℕ) (ls : Names) → A.listed_at w ls ≡ None → (f : Located Span (List ℕ)) → f.value ≡ w → I.member I.same_name ls f ≡ false
  unfolding A.listed_at I.member
  listed-none w [] e f h = refl
  listed-none w (l ∷ ls) e f h = by_test_lem (same l.value w)
      (λ y. let z : Some l.place ≡ None = rw (y, A.listed_at) at e in absurd (let o : ◌≡◌ {A = ℕ} 0 1 = cc in omega arith))
      (λ n. let z : A.listed_at w ls ≡ None = rw (n, A.listed_at) at e in ap₂ (λ (a b : Bool). a || b) (ap (same l.value) h ∙ n) (listed-none w ls z f h))

  error-none : (before : Names) (f : Located Span (List ℕ)) → A.final_error q before f ≡ [] → A.listed_at f.value before ≡ None
  unfolding A.final_error
  error-none before f e = go (A.listed_at f.value before) e
    where
      go : (o : Option Span) → ◌≡◌ {A = List (A.Diagnostic Span)} (elim o [ Some p ↦ A.diagnostic 11 f.place (Some p) ∷ [] | None ↦ A.unknown_error q f ]) [] → o ≡ None
      go None h = refl
      go (Some p) h = absurd (omega (arith, ap length h))

  member_last : (S : Names) (l y : Located Span (List ℕ)) → I.member I.same_name (S ++ l ∷ []) y ≡ (I.same_name l y || I.member I.same_name S y)
  unfolding I.member
  member_last [] l y = refl
  member_last (k ∷ S) l y = ap (λ (b : Bool). I.same_name k y || b) (member_last S l y) ∙ turn (I.same_name k y) (I.same_name l y) (I.member I.same_name S y)
    where
      turn : (a b c : Bool) → (a || (b || c)) ≡ (b || (a || c))
      turn true true c = refl
      turn true false c = refl
      turn false true c = refl
      turn false false c = refl

  fresh-all : (before fs : Names) → A.final_errors q before fs ≡ [] → I.fresh I.same_name (I.member I.same_name before) fs ≡ fs
  unfolding A.final_errors I.fresh
  fresh-all before [] e = refl
  fresh-all before (f ∷ fs) e =
      let new : I.member I.same_name before f ≡ false = listed-none f.value before (error-none before f (front-nil (A.final_error q before f) (A.final_errors q (before ++ f ∷ []) fs) e)) f refl in
      rw (new, I.fresh) (ap (λ (l : Names). f ∷ l) (ap (λ (k : Located Span (List ℕ) → Bool). I.fresh I.same_name k fs) (sym (fun_ext (member_last before f))) ∙ fresh-all (before ++ f ∷ []) fs (back_nil (A.final_error q before f) (A.final_errors q (before ++ f ∷ []) fs) e)))

nothing_is : I.member {A = Located Span (List ℕ)} I.same_name [] ≡ I.nothing
unfolding I.member
nothing_is = fun_ext (λ y. refl)

pub finals-fresh : (q : Option Names) (fs : Names) → A.final_errors q [] fs ≡ [] → I.fresh I.same_name I.nothing fs ≡ fs
finals-fresh q fs e = ap (λ (k : Located Span (List ℕ) → Bool). I.fresh I.same_name k fs) (sym nothing_is) ∙ fresh-all q [] fs e

-- ---- the names that rules mention
module _ (text : List ℕ) (ts : List Token) where
  names-append : {js : List ℕ} {ls : Names} {ks : List ℕ} {ms : Names} → AllNames text ts js ls → AllNames text ts ks ms → AllNames text ts (js ++ ks) (ls ++ ms)
  names-append no_names q = q
  names-append (one_name n r) q = one_name n (names-append r q)

  mention_no : (e : Entry) → eqb e.first.kind 27 ≡ false → mention ts e ≡ []
  unfolding mention
  mention_no e h = rw h

  mention_yes : (e : Entry) → eqb e.first.kind 27 ≡ true → mention ts e ≡ (e.at + 2) ∷ (peek ts (e.at + 3)).start ∷ []
  unfolding mention
  mention_yes e h = rw h

  mentions-named : (es : List Entry) (rs : List (A.RuleLine Span)) → RulesAt text ts es rs → AllNames text ts (mentions ts es) (line_mentions rs)
  unfolding mentions
  mentions-named [] [] no_rules_lem = no_names
  mentions-named [] (x ∷ rs) m = elim m [ ]
  mentions-named (e ∷ es) rs (no_rule h r) = subst (λ (l : List ℕ). AllNames text ts (l ++ mentions ts es) (line_mentions rs)) (sym (mention_no e h)) (mentions-named es rs r)
  mentions-named (e ∷ es) (x ∷ rs) (one-rule h m r) = subst (λ (l : List ℕ). AllNames text ts (l ++ mentions ts es) (line_mentions (x ∷ rs))) (sym (mention_yes e h)) (one_name m.from.name (one_name m.to.name (mentions-named es rs r)))

  mentions-states : (es : List Entry) (rs : List (A.RuleLine Span)) → RulesAt text ts es rs → AllStates ts (mentions ts es)
  unfolding mentions
  mentions-states [] [] no_rules_lem = no_states
  mentions-states [] (x ∷ rs) m = elim m [ ]
  mentions-states (e ∷ es) rs (no_rule h r) = subst (λ (l : List ℕ). AllStates ts (l ++ mentions ts es)) (sym (mention_no e h)) (mentions-states es rs r)
  mentions-states (e ∷ es) (x ∷ rs) (one-rule h m r) = subst (λ (l : List ℕ). AllStates ts (l ++ mentions ts es)) (sym (mention_yes e h)) (one_state m.from.state (one_state m.to.state (mentions-states es rs r)))

  -- a declared start
  start-named : (f : ℕ) (o : Option (Located Span (Located Span (List ℕ)))) → At ts f (StateShows text (peek ts (f + 2))) o → AllNames text ts (start_name ts f) (option_to_list (A.found o))
  unfolding start_name A.found
  start-named f None (nowhere h) = rw h no_names
  start-named f (Some l) (there h s) = rw h (one_name s.name no_names)

  start-states : (f : ℕ) (o : Option (Located Span (Located Span (List ℕ)))) → At ts f (StateShows text (peek ts (f + 2))) o → AllStates ts (start_name ts f)
  unfolding start_name
  start-states f None (nowhere h) = rw h no_states
  start-states f (Some l) (there h s) = rw h (one_state s.state no_states)

  -- F
  names-none : (f : ℕ) → ltb f (length ts) ≡ false → names_of ts f ≡ []
  unfolding names_of names_from
  names-none f h = ap (names_from (suc f)) (drop_of_length-le ts {i = suc f} (omega (arith, ltb-false f (length ts) h)))

  indices_none : (f : ℕ) → ltb f (length ts) ≡ false → indices_in ts f ≡ []
  unfolding indices_in indices_from
  indices_none f h = ap (indices_from (suc f)) (drop_of_length-le ts {i = suc f} (omega (arith, ltb-false f (length ts) h)))

  pub finals-named : (f : ℕ) (o : Option (Located Span Names)) → At ts f (AllNames text ts (names_of ts f)) o → AllNames text ts (names_of ts f) (unwrap_or (A.found o) [])
  unfolding A.found
  finals-named f None (nowhere h) = subst (λ (l : List ℕ). AllNames text ts l []) (sym (names-none f h)) no_names
  finals-named f (Some l) (there h s) = s

-- ---- no states
-- what a row without them lacks
pub record Stateless (count : ℕ) (first : List ℕ) (rules : ℕ) : Type 0 where
  pub no_q : ltb (get_or first 5 0) count ≡ false
  pub no_start : ltb (get_or first 9 0) count ≡ false
  pub no_finals : ltb (get_or first 10 0) count ≡ false
  pub no_rules_lem : rules ≡ 0

pub stateless : (count : ℕ) (first : List ℕ) (rules : ℕ) → has_states count first rules ≡ false → Stateless count first rules
unfolding has_states
stateless count first rules e =
    by_test_lem (ltb (get_or first 5 0) count) (λ y. absurd (false≢true (sym (rw (y, has_states) at e))))
    (λ q. by_test_lem (ltb (get_or first 9 0) count) (λ y. absurd (false≢true (sym (rw (q, y, has_states) at e))))
    (λ s. by_test_lem (ltb (get_or first 10 0) count) (λ y. absurd (false≢true (sym (rw (q, s, y, has_states) at e))))
    (λ f. let z : ltb 0 rules ≡ false = rw (q, s, f, has_states) at e in record { no_q = q; no_start = s; no_finals = f; no_rules_lem = omega (arith, ltb-false 0 rules z) })))

-- each line of rules stands for one at least
some-rules : {X : Type 0} (l : List X) → Filled l → 0 < length l
some-rules (x ∷ l) h = omega arith
some-rules [] h = absurd h

no_lines : (b : ℕ) (rs : List (A.RuleLine Span)) → Every Chosen rs → length (A.expand_all b rs) ≡ 0 → rs ≡ []
unfolding A.expand_all
no_lines b [] c e = refl
no_lines b (r ∷ rs) c e =
    let more : 0 < length (A.choices r.raw.read) = some-rules (A.choices r.raw.read) (choices-filled r.raw.read c.0) in
    absurd (omega (arith, length-append (A.expand b r) (A.expand_all b rs), expand-length b r, choices-length r.raw.read))

no_members : {X : Type 0} (l : List X) → length l ≡ 0 → l ≡ []
no_members [] e = refl
no_members (x ∷ l) e = absurd (omega arith)

at_none : {B : Type 0} (ts : List Token) (f : ℕ) (P : B → Type 0) (o : Option (Located Span B)) → At ts f P o → ltb f (length ts) ≡ false → o ≡ None
at_none ts f P None (nowhere h) e = refl
at_none ts f P (Some l) (there h p) e = absurd (false≢true (sym e ∙ h))

names-nil : (text : List ℕ) (ts : List Token) (js : List ℕ) → AllNames text ts js [] → js ≡ []
names-nil text ts [] no_names = refl
names-nil text ts (j ∷ js) m = elim m [ ]

-- ---- the section of finals
module _ (text : List ℕ) (ts : List Token) where
  no_place : (x : ℕ) → is_state (peek ts x) ≡ false → place_at ts x ≡ []
  unfolding place_at
  no_place x e = rw e

  places : (xs : List ℕ) → L.flat (place_at ts) xs ≡ L.flat (place_at ts) (states_of ts xs)
  unfolding L.flat states_of
  places [] = refl
  places (x ∷ xs) = by_test_lem (is_state (peek ts x)) (λ y. ap (λ (l : List ℕ). place_at ts x ++ l) (places xs) ∙ ap (L.flat (place_at ts)) (sym (states_yes ts x xs y)))
      (λ n. ap (λ (l : List ℕ). l ++ L.flat (place_at ts) xs) (no_place x n) ∙ places xs ∙ ap (L.flat (place_at ts)) (sym (states_no ts x xs n)))

  place_words_lem : (t : Token) (l : Located Span (List ℕ)) → NameIs text t l → L.place_words (place_of t) ≡ L.place_words l.place
  place_words_lem t l n = ap₂ (λ (a b : ℕ). a ∷ b ∷ []) (ap (λ (p : Span). p.start) (name-place text t l n)) (ap (λ (p : Span). p.end) (name-place text t l n))

  places_mean : (xs : List ℕ) (ls : Names) → AllStates ts xs → AllNames text ts xs ls → L.flat (place_at ts) xs ≡ L.flat L.place_words (map (λ f. f.place) ls)
  unfolding L.flat place_at
  places_mean [] [] no_states no_names = refl
  places_mean [] (l ∷ ls) a m = elim m [ ]
  places_mean (x ∷ xs) [] a m = elim m [ ]
  places_mean (x ∷ xs) (l ∷ ls) (one_state s a) (one_name n r) = rw s (ap₂ (λ (p q : List ℕ). p ++ q) (place_words_lem (peek ts x) l n) (places_mean xs ls a r))

-- ---- the sections
module _ (text : List ℕ) (X : Entry → Item Span → Type 0) (ts : List Token) (says : (e : Entry) (i : Item Span) → X e i → Mentions text ts e.at i) (few : length ts ≤ 0xffffffff) (ls : List (Line Span))
    (all : AllMean X ts (entries ts) ls) (fine : A.diagnostics_of ls ≡ []) (chosen : Every Chosen (A.body_of ls).rules) where
  abbrev first : List ℕ
  first = firsts text X ts says few ls all

  abbrev is : List (Located Span (Item Span))
  is = A.items ls

  abbrev F : Names
  F = A.finals_in is

  finals_are : AllNames text ts (names_of ts (get_or first 10 0)) F
  unfolding A.finals_in
  finals_are = finals-named text ts (get_or first 10 0) (A.first (Columns.select λ p. p.finals) is) (finals_at_lem text X ts says few ls all)

  line-states : (f : ℕ) → AllStates ts (names_of ts f)
  line-states f = subst (AllStates ts) (line-names ts f) (all-states ts (indices_in ts f))

  same-finals : I.fresh I.same_name I.nothing F ≡ F
  same-finals = finals-fresh (A.states_in is) F (no_final_errors ls fine)

  -- the section of finals
  pub finals-inferred : final_section ts (get_or first 10 0) ≡ L.flat L.place_words (I.machine_of ls).finals
  unfolding final_section I.machine_of
  finals-inferred =
      places text ts (indices_in ts (get_or first 10 0)) ∙ ap (L.flat (place_at ts)) (line-names ts (get_or first 10 0)) ∙ places_mean text ts (names_of ts (get_or first 10 0)) F (line-states (get_or first 10 0)) finals_are
      ∙ ap (λ (l : Names). L.flat L.place_words (map (λ f. f.place) l)) (sym same-finals)

  -- ---- the section of states
  abbrev rules : List (A.RuleLine Span)
  rules = (A.body_of ls).rules

  abbrev start : Option (Located Span (List ℕ))
  start = A.found (A.first (Columns.select λ p. p.start) is)

  abbrev inferred_names : Names
  inferred_names = I.infer_states start (I.machine_of ls).rules F

  rules_are : RulesAt text ts (entries ts) rules
  rules_are = rules-at text X ts says (entries ts) ls all

  names_are : inferred_names ≡ I.fresh I.same_name I.nothing (option_to_list start ++ (line_mentions rules ++ F))
  unfolding I.machine_of
  names_are =
      let b : ℕ = A.blank_of is in
      let fits : Every Fits rules = subst (Every Fits) (all-kept ls fine) (kept_fits 0 rules) in
      ap (λ (l : List (A.RuleLine Span)). I.infer_states start (A.expand_all b l) F) (all-kept ls fine)
      ∙ states_from_lines b rules fits chosen start F
      ∙ ap (I.fresh I.same_name I.nothing) (append_assoc (option_to_list start) (line_mentions rules) F)

  module _ (row ms : List ℕ) (names : FirstsOf text ts (length ts) row) (room : length ts ≤ length ms) where
    abbrev v : List ℕ
    v = finals row ts first ms

    marked : Marked text ts row v (names_of ts (get_or first 10 0)) []
    marked = finals-marked text ts row ms names room first

    abbrev states : Names → List (State Span)
    states l = I.marked (I.member I.same_name F) I.nothing l

    known : (l : Names) → L.flat L.state_words (I.marked (I.member I.same_name F) (I.member I.same_name []) l) ≡ L.flat L.state_words (states l)
    known l = ap (λ (k : Located Span (List ℕ) → Bool). L.flat L.state_words (I.marked (I.member I.same_name F) k l)) nothing_is

    declared : ltb (get_or first 5 0) (length ts) ≡ true → (q : Names) → AllNames text ts (names_of ts (get_or first 5 0)) q → states_add row ts first v ≡ L.flat L.state_words (states q)
    unfolding states_add
    declared h q n = rw h
        (adds_states row ts true v (indices_in ts (get_or first 5 0)) ∙ ap (names_add row ts true v) (line-names ts (get_or first 5 0))
        ∙ each_mean text ts row (names_of ts (get_or first 10 0)) F finals_are (names_of ts (get_or first 5 0)) [] q [] v (line-states (get_or first 5 0)) n no_names marked ∙ known q)

    undeclared : ltb (get_or first 5 0) (length ts) ≡ false → states_add row ts first v ≡ L.flat L.state_words (states inferred_names)
    unfolding states_add inferred
    undeclared h =
        let a : List ℕ = start_name ts (get_or first 9 0) in
        let b : List ℕ = mentions ts (entries ts) in
        let c : List ℕ = indices_in ts (get_or first 10 0) in
        let d : List ℕ = names_of ts (get_or first 10 0) in
        let aa : AllStates ts a = start-states text ts (get_or first 9 0) (A.first (Columns.select λ p. p.start) is) (start_at_lem text X ts says few ls all) in
        let bs : AllStates ts b = mentions-states text ts (entries ts) rules rules_are in
        let an : AllNames text ts a (option_to_list start) = start-named text ts (get_or first 9 0) (A.first (Columns.select λ p. p.start) is) (start_at_lem text X ts says few ls all) in
        let bn : AllNames text ts b (line_mentions rules) = mentions-named text ts (entries ts) rules rules_are in
        let xs : states_of ts (a ++ (b ++ c)) ≡ a ++ (b ++ d) =
        states-append ts a (b ++ c) ∙ ap₂ (λ (p q : List ℕ). p ++ q) (states-all ts a aa) (states-append ts b c ∙ ap₂ (λ (p q : List ℕ). p ++ q) (states-all ts b bs) (line-names ts (get_or first 10 0))) in
        let ls : Names = option_to_list start ++ (line_mentions rules ++ F) in
        let fresh : L.flat L.state_words (I.marked (I.member I.same_name F) (I.member I.same_name []) (I.fresh I.same_name (I.member I.same_name []) ls)) ≡ L.flat L.state_words (states (I.fresh I.same_name I.nothing ls)) =
        ap (λ (k : Located Span (List ℕ) → Bool). L.flat L.state_words (I.marked (I.member I.same_name F) k (I.fresh I.same_name k ls))) nothing_is in
        rw h
        (adds_states row ts false v (a ++ (b ++ c)) ∙ ap (names_add row ts false v) xs
        ∙ once_mean text ts row d F finals_are (a ++ (b ++ d)) [] ls [] v (all_append ts a (b ++ d) aa (all_append ts b d bs (line-states (get_or first 10 0)))) (names-append text ts an (names-append text ts bn finals_are)) no_names marked
        ∙ fresh ∙ ap (λ (l : Names). L.flat L.state_words (states l)) (sym names_are))

    by_first : (o : Option (Located Span Names)) → At ts (get_or first 5 0) (AllNames text ts (names_of ts (get_or first 5 0))) o → states_add row ts first v ≡ L.flat L.state_words (states (unwrap_or (A.found o) inferred_names))
    unfolding A.found
    by_first None (nowhere h) = undeclared h
    by_first (Some l) (there {a = q} h n) = declared h q n

    pub states-inferred : section row ts first ms ≡ L.flat L.state_words (I.machine_of ls).states
    unfolding section I.machine_of A.states_in
    states-inferred =
        by_first (A.first (Columns.select λ p. p.states) is) (states-at text X ts says few ls all)
        ∙ ap (λ (f : Names). L.flat L.state_words (I.marked (I.member I.same_name f) I.nothing (unwrap_or (A.found (A.first (Columns.select λ p. p.states) is)) (I.infer_states start (I.machine_of ls).rules f)))) (sym same-finals)

  -- with the two rows in w
  module _ (size count : ℕ) (w : List ℕ) (row : rows count w ≡ ts) (names : Interned text ts (4 * size) w) (narrow : count ≤ size) (room : 6 * size ≤ length w) where
    many : length ts ≤ count
    many = omega (arith, ap length (sym row), length-take count (tokens_in w))

    pub section-inferred : state_section size ts first w ≡ L.flat L.state_words (I.machine_of ls).states
    unfolding state_section
    section-inferred = states-inferred (firsts_in size w) (marks_in size w)
        (record { first = λ x h e. get_or-drop (4 * size) (take (5 * size) w) x 0 ∙ get_or-take (5 * size) w (4 * size + x) 0 (omega (arith, many)) ∙ names.interned x h e })
        (omega (arith, many, length-drop (5 * size) w))

  -- where there can be none, nothing is stored, whatever stands in work, and the machine has none
  module _ (none-there : Stateless (length ts) first (length (I.machine_of ls).rules)) where
    no_rule_lines : rules ≡ []
    unfolding I.machine_of
    no_rule_lines = no_lines (A.blank_of is) rules chosen (ap (λ (l : List (A.RuleLine Span)). length (A.expand_all (A.blank_of is) l)) (sym (all-kept ls fine)) ∙ none-there.no_rules_lem)

    no_mentions : mentions ts (entries ts) ≡ []
    no_mentions = names-nil text ts (mentions ts (entries ts)) (subst (λ (rs : List (A.RuleLine Span)). AllNames text ts (mentions ts (entries ts)) (line_mentions rs)) no_rule_lines (mentions-named text ts (entries ts) rules rules_are))

    pub none_stored : (size : ℕ) (w : List ℕ) → state_section size ts first w ≡ []
    unfolding state_section section states_add inferred start_name names_add
    none_stored size w =
        let row : List ℕ = firsts_in size w in
        let v : List ℕ = finals row ts first (marks_in size w) in
        rw (none-there.no_q, none-there.no_start)
        (ap (λ (l : List ℕ). names_add row ts false v (l ++ indices_in ts (get_or first 10 0))) no_mentions ∙ ap (names_add row ts false v) (indices_none text ts (get_or first 10 0) none-there.no_finals))

    pub none-listed : L.flat L.state_words (I.machine_of ls).states ≡ []
    unfolding I.machine_of A.states_in A.finals_in A.found I.fresh I.infer_states I.mentions I.marked L.flat
    none-listed =
        let listed : Option (Located Span Names) → Names = λ f. I.fresh I.same_name I.nothing (unwrap_or (A.found f) []) in
        let words : Option (Located Span Names) → Option (Located Span (Located Span (List ℕ))) → Option (Located Span Names) → List (Rule Span) → List ℕ =
        λ q s f rs. L.flat L.state_words (I.marked (I.member I.same_name (listed f)) I.nothing (unwrap_or (A.found q) (I.infer_states (A.found s) rs (listed f)))) in
        let q : A.first (Columns.select λ p. p.states) is ≡ None = at_none ts _ _ _ (states-at text X ts says few ls all) none-there.no_q in
        let s : A.first (Columns.select λ p. p.start) is ≡ None = at_none ts _ _ _ (start_at_lem text X ts says few ls all) none-there.no_start in
        let f : A.first (Columns.select λ p. p.finals) is ≡ None = at_none ts _ _ _ (finals_at_lem text X ts says few ls all) none-there.no_finals in
        let rs : (I.machine_of ls).rules ≡ [] = no_members (I.machine_of ls).rules none-there.no_rules_lem in
        λ i. words (q i) (s i) (f i) (rs i)

-- ---- the first state
-- a word that was stored
word_stored : (o : List ℕ) (i : ℕ) (vs : List ℕ) (k : ℕ) → i + length vs ≤ length o → k < length vs → get_or (sets o i vs) (i + k) 0 ≡ get_or vs k 0
word_stored o i vs k h g =
    let n : length (take i o) ≡ i = length-take-le i o (omega arith) in
    ap (λ (l : List ℕ). get_or l (i + k) 0) (sets-eq vs o i h)
    ∙ get_or-append (take i o ++ vs) (drop (i + length vs) o) 0 (i + k) (omega (arith, length-append (take i o) vs))
    ∙ ap (λ (j : ℕ). get_or (take i o ++ vs) (j + k) 0) (sym n) ∙ get_or-append-add (take i o) vs k 0

first-place : (final known : Located Span (List ℕ) → Bool) (names : Names) (o more : List ℕ) (i : ℕ) → let ws = L.flat L.state_words (I.marked final known names) in
    i + length (ws ++ more) ≤ length o → first_state (sets o i (ws ++ more)) i (i + length ws) ≡ L.place_or_none (I.head names)
unfolding I.marked L.flat L.state_words I.head L.place_or_none
first-place final known [] o more i h = sym (first-none (sets o i more) i (i + 0) (omega arith))
first-place final known (q ∷ qs) o more i h =
    let ws : List ℕ = L.flat L.state_words (I.marked final known (q ∷ qs)) in
    let z : i + 0 ≡ i = omega arith in
    let a : q.place.start ≡ get_or (sets o i (ws ++ more)) i 0 = sym (ap (λ (j : ℕ). get_or (sets o i (ws ++ more)) j 0) (sym z) ∙ word_stored o i (ws ++ more) 0 h (omega arith)) in
    let b : q.place.end ≡ get_or (sets o i (ws ++ more)) (i + 1) 0 = sym (word_stored o i (ws ++ more) 1 h (omega arith)) in
    sym (first_there (sets o i (ws ++ more)) i (i + length ws) q.place.start q.place.end (omega arith) a b)

-- where no start is declared, the machine starts in the first state
pub first_state_lem : (ls : List (Line Span)) (o more : List ℕ) (i : ℕ) → A.first (Columns.select λ p. p.start) (A.items ls) ≡ None → let ws = L.flat L.state_words (I.machine_of ls).states in
    i + length (ws ++ more) ≤ length o → first_state (sets o i (ws ++ more)) i (i + length ws) ≡ L.place_or_none (I.machine_of ls).start
unfolding I.machine_of A.found
first_state_lem ls o more i e h =
    let is : List (Located Span (Item Span)) = A.items ls in
    let finals : Names = I.fresh I.same_name I.nothing (A.finals_in is) in
    let names : Names = unwrap_or (A.states_in is) (I.infer_states (A.found (A.first (Columns.select λ p. p.start) is)) (I.machine_of ls).rules finals) in
    first-place (I.member I.same_name finals) I.nothing names o more i h ∙ sym (ap (λ (x : Option (Located Span (Located Span (List ℕ)))). L.place_or_none (I.head (option_to_list (A.found x) ++ names))) e)
