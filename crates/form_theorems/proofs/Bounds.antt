-- A plain form's length can be told in 64 bits: a text has few characters and few lines, a machine few rules, and its sheet was
-- lent.
use Prim.Native.Nat.{ℕ, suc, ◌+◌, ◌*◌, ◌≤◌, ◌<◌}
use native.Mathlib.Omega.{arith}
use mathlib.Core.Bool.{Bool, true, false}
use mathlib.Core.List.{List, [], ◌∷◌, ◌++◌, map}
use Rattle.std.specs.Prelude.{Option, None, Some}
use mathlib.Core.Path.{◌≡◌, refl, ap}
use lib.Dec.{eqb}
use lib.ListN.{length, length-append, length-map}
use Rattle.chars.specs.Utf8.{size, sizes, decode, valid_up_to}
use Rattle.chars.proofs.Theorems.{sizes-append, length-encode}
use Rattle.lexer.specs.Tokens.{Span, escape, Inner, ends, breaks, escapes, stands, inner_of, Inside, closed, unclosed, put, pass, inside}
use Rattle.machine.specs.declared.Head.{Head}
use Rattle.language.specs.Machine.{Located, Rule, Machine}
use Rattle.language.specs.Content.{StateContent, ActionContent, value_or, optional, values, rule_content, content_of}
use Rattle.language.specs.Lines.{read_lines}
use Rattle.language.specs.Layout.{head_of, place_words, located_words, flat, state_words, symbol_words, rule_words, sheet_words}
use Rattle.language.specs.Outcome.{form_of}
use Rattle.language.specs.Plain.{verbatim, symbol, direction, each, comment_line, name_set, symbol_set, final_names, rule, rule_lines, pieces, plain}
use Rattle.language.proofs.Every.{by_test, Every, Maybe, every_any, every_impl, every_map}
use Rattle.language.proofs.Counts.{rule_length_lem}
use Rattle.language.proofs.ReadCounts.{rules-within}
use Rattle.language.proofs.TokenPlaces.{Stands, Encloses}
use Rattle.language.proofs.AssemblyHolds.{GoodRuleOf, GoodMachine}
use Rattle.language.proofs.AnswerBack.{placed_in, machine_placed}
use Rattle.language.proofs.Claim.{is_short, is_valid}
use Rattle.form_theorems.specs.Read.{machine_in, ReadAs}
use Rattle.form_theorems.proofs.Leading.{leading_few}
use Rattle.form_theorems.proofs.Costs.{Costs, length-sizes, ◌▸◌, at_most, say_costs, end_costs, verbatim_costs, only_costs, each_costs, commas_costs, symbol_costs, direction_costs, string_costs, decimal_costs, comment_costs, own_costs, kind_costs, decoder_costs}

-- ---- strings

-- how many characters a string has
value_length : Inside → ℕ
value_length (closed v n) = length v
value_length unclosed = 0

put_few : (c : ℕ) (i : Inside) → value_length (put c i) ≤ value_length i + 1
unfolding value_length put
put_few c (closed v n) = omega arith
put_few c unclosed = omega arith

pass_few : (i : Inside) → value_length (pass i) ≡ value_length i
unfolding value_length pass
pass_few (closed v n) = refl
pass_few unclosed = refl

-- a character inside a string, and what follows it
bare_few : (c n : ℕ) (i j : Inside) → value_length i ≤ n → value_length j ≤ n + 1 → (k : Inner)
    → value_length (elim k [ ends ↦ closed [] 1 | breaks ↦ unclosed | escapes ↦ pass j | stands ↦ put c (pass i) ]) ≤ suc n
unfolding value_length
bare_few c n i j h k ends = omega arith
bare_few c n i j h k breaks = omega arith
bare_few c n i j h k escapes = omega (arith, pass_few j)
bare_few c n i j h k stands = omega (arith, put_few c (pass i), pass_few i)

-- one behind a backslash
behind_few : (c n : ℕ) (i : Inside) → value_length i ≤ n → (o : Option ℕ) (b : Bool)
    → value_length (elim o [ Some v ↦ put v (pass i) | None ↦ elim b [ true ↦ unclosed | false ↦ put 0x5C (put c (pass i)) ] ]) ≤ suc n + 1
unfolding value_length
behind_few c n i h (Some v) b = omega (arith, put_few v (pass i), pass_few i)
behind_few c n i h None true = omega arith
behind_few c n i h None false = omega (arith, put_few 0x5C (put c (pass i)), put_few c (pass i), pass_few i)

-- no more than stand between its quotes, and a backslash before them
inside_few : (cs : List ℕ) → (value_length (inside false cs) ≤ length cs) × (value_length (inside true cs) ≤ length cs + 1)
unfolding inside value_length
inside_few [] = (omega arith, omega arith)
inside_few (c ∷ r) =
    let h = inside_few r in
    (bare_few c (length r) (inside false r) (inside true r) h.0 h.1 (inner_of c), behind_few c (length r) (inside false r) h.0 (escape c) (eqb c 10))

value_few : (raw v : List ℕ) → Encloses raw v → length v ≤ length raw + 1
unfolding value_length
value_few raw v e = omega (arith, ap value_length e, (inside_few (raw ++ 0x22 ∷ [])).0, length-append raw (0x22 ∷ []))

-- ---- the parts of a machine

-- a text of at most 4,194,304 bytes
module _ (cs : List ℕ) (small : sizes cs ≤ 4194304) where
  stand_small : (p : Span) (w : List ℕ) → Stands cs p w → sizes w ≤ 4194304
  stand_small p w h = omega (arith, ap sizes h.parts, sizes-append h.before (w ++ h.behind), sizes-append w h.behind)

  text_small : (o : Option (Located Span (List ℕ))) → Maybe (placed_in cs).text o → length (value_or o) ≤ 4194305
  unfolding value_or
  text_small None h = omega arith
  text_small (Some l) h = omega (arith, value_few h.0 l.value h.1, length-sizes h.0, stand_small l.place h.0 h.2)

  name_small : (o : Option (Located Span (List ℕ))) → Maybe (placed_in cs).name o → sizes (value_or o) ≤ 4194304
  unfolding value_or sizes
  name_small None h = omega arith
  name_small (Some l) h = stand_small l.place l.value h

  own_small : (o : Option (Located Span (List ℕ))) → Maybe (placed_in cs).note o → Maybe (λ s. sizes s ≤ 4194304) (optional o)
  unfolding optional
  own_small None h = tt
  own_small (Some l) h = stand_small l.place l.value h

  notes_costs : (l : List (Located Span (List ℕ))) → Every (placed_in cs).note l → Costs (each comment_line (values l)) (length l * 4194308)
  unfolding values
  notes_costs l h = at_most (length l * 4194308) (omega (arith, length-map l (λ n. n.value)))
      (each_costs comment_line 4194308 (values l) (every_map (placed_in cs).note (λ s. Costs (comment_line s) 4194308) (λ n. n.value) (λ n k. comment_costs n.value 4194304 (stand_small n.place n.value k) ▸ end_costs) l h))

  -- a rule that at most one comment more than bytes leads
  rule_costs : (r : Rule Span) → GoodRuleOf (placed_in cs) r → length r.leading ≤ 4194305 → Costs (rule_lines (rule_content r)) (17592220000000 + 19 * length r.actions)
  unfolding rule_lines rule rule_content sizes size
  rule_costs r h few =
      let acts : List ActionContent = (rule_content r).actions in
      let many : length acts ≡ length r.actions = length-map r.actions _ in
      at_most (17592220000000 + 19 * length r.actions) (omega (arith, few, many)) (notes_costs r.leading h.leading_good
      ▸ (say_costs "δ(" 3 refl
      ▸ verbatim_costs r.from.value 4194304 (stand_small _ _ h.from_good)
      ▸ say_costs ", (" 3 refl
      ▸ commas_costs (λ a. symbol a.read) 6 acts (every_any _ (λ a. symbol_costs a.read) acts)
      ▸ say_costs ")) = (" 6 refl
      ▸ verbatim_costs r.to.value 4194304 (stand_small _ _ h.to_good)
      ▸ say_costs ", (" 3 refl
      ▸ commas_costs (λ a. symbol a.write) 6 acts (every_any _ (λ a. symbol_costs a.write) acts)
      ▸ say_costs "), (" 4 refl
      ▸ commas_costs (λ a. direction a.dir) 1 acts (every_any _ (λ a. direction_costs a.dir) acts)
      ▸ say_costs "))" 2 refl)
      ▸ own_costs (optional r.comment) 4194304 (own_small r.comment h.comment_good)
      ▸ end_costs)

-- rules one after the other: their actions are no more than a seventh of their words
rules_costs : (rs : List (Rule Span)) → Every (λ r. Costs (rule_lines (rule_content r)) (17592220000000 + 19 * length r.actions)) rs
    → Costs (each rule_lines (map rule_content rs)) (length rs * 17592220000000 + 3 * length (flat rule_words rs))
unfolding each flat
rules_costs [] h = record { costs = λ rest. omega arith }
rules_costs (r ∷ rs) h =
    at_most (suc (length rs) * 17592220000000 + 3 * length (flat rule_words (r ∷ rs))) (omega (arith, length-append (rule_words r) (flat rule_words rs), rule_length_lem r)) (h.0 ▸ rules_costs rs h.1)

-- ---- states

finals_few : (ss : List StateContent) → length (final_names ss) ≤ length ss
unfolding final_names
finals_few [] = omega arith
finals_few (s ∷ ss) = by_test s.final (λ e. rw (e, final_names) (omega (arith, finals_few ss))) (λ e. rw (e, final_names) (omega (arith, finals_few ss)))

finals_every : (p : List ℕ → Type 0) (ss : List StateContent) → Every (λ s. p s.name) ss → Every p (final_names ss)
unfolding final_names
finals_every p [] h = tt
finals_every p (s ∷ ss) h = by_test s.final (λ e. rw (e, final_names) (h.0, finals_every p ss h.1)) (λ e. rw (e, final_names) (finals_every p ss h.1))

names_costs : (ns : List (List ℕ)) → Every (λ n. sizes n ≤ 4194304) ns → Costs (name_set ns) (length ns * 4194306 + 2)
unfolding name_set sizes size
names_costs ns h =
    at_most (length ns * 4194306 + 2) (omega arith) (say_costs "{" 1 refl
    ▸ commas_costs verbatim 4194304 ns (every_impl (λ n. sizes n ≤ 4194304) (λ n. Costs (verbatim n) 4194304) (λ n k. verbatim_costs n 4194304 k) ns h)
    ▸ say_costs "}" 1 refl)

symbols_costs : (l : List ℕ) → Costs (symbol_set l) (length l * 8 + 2)
unfolding symbol_set sizes size
symbols_costs l = at_most (length l * 8 + 2) (omega arith) (say_costs "{" 1 refl ▸ commas_costs symbol 6 l (every_any _ symbol_costs l) ▸ say_costs "}" 1 refl)

-- ---- the whole form

module _ (cs : List ℕ) (small : sizes cs ≤ 4194304) (m : Machine Span) (good : GoodMachine (placed_in cs) m) (few : Every (λ (r : Rule Span). length r.leading ≤ 4194305) m.rules) where
  -- the states of the machine
  states : List StateContent
  states = (content_of m).states

  -- the names of these states
  names : List (List ℕ)
  names = map (λ s. s.name) states

  states_small : Every (λ s. sizes s.name ≤ 4194304) states
  unfolding states content_of
  states_small = every_map _ (λ s. sizes s.name ≤ 4194304) _ (λ s h. stand_small cs small s.name.place s.name.value h) m.states good.states_good

  lines_costs : Every (λ r. Costs (rule_lines (rule_content r)) (17592220000000 + 19 * length r.actions)) m.rules
  lines_costs = go m.rules good.rules_good few
    where
      go : (rs : List (Rule Span)) → Every (GoodRuleOf (placed_in cs)) rs → Every (λ (r : Rule Span). length r.leading ≤ 4194305) rs → Every (λ r. Costs (rule_lines (rule_content r)) (17592220000000 + 19 * length r.actions)) rs
      go [] h k = tt
      go (r ∷ rs) h k = (rule_costs cs small r h.0 k.0, go rs h.1 k.1)

  form_costs : Costs (pieces (content_of m)) (length m.header * 4194308 + length m.trailing * 4194308 + length m.states * 8388612 + length m.sigma * 8 + length m.gamma * 8 + length m.rules * 17592220000000 + 3 * length (flat rule_words m.rules) + 100000000)
  unfolding pieces content_of states names sizes size
  form_costs =
      let many : length states ≡ length m.states = length-map m.states _ in
      let named : length names ≡ length states = length-map states (λ s. s.name) in
      let sigmas : length (content_of m).sigma ≡ length m.sigma = length-map m.sigma _ in
      let gammas : length (content_of m).gamma ≡ length m.gamma = length-map m.gamma _ in
      let finals : length (final_names states) ≤ length states = finals_few states in
      at_most _ (omega (arith, many, named, sigmas, gammas, finals)) (notes_costs cs small m.header good.header_good
      ▸ say_costs "machine " 8 refl ▸ string_costs (value_or m.name) 4194305 (text_small cs small m.name good.name_good) ▸ end_costs
      ▸ say_costs "kind " 5 refl ▸ kind_costs m.kind ▸ end_costs
      ▸ say_costs "input " 6 refl ▸ string_costs (value_or m.input) 4194305 (text_small cs small m.input good.input_good) ▸ end_costs
      ▸ say_costs "output " 7 refl ▸ decoder_costs m.output ▸ end_costs
      ▸ say_costs "tapes = " 8 refl ▸ decimal_costs m.tapes ▸ end_costs
      ▸ only_costs m.declared.states (say_costs "Q = " 4 refl ▸ names_costs names (every_map (λ s. sizes s.name ≤ 4194304) (λ n. sizes n ≤ 4194304) (λ s. s.name) (λ s h. h) states states_small) ▸ end_costs)
      ▸ only_costs m.declared.input_alphabet (say_costs "Σ = " 5 refl ▸ symbols_costs (content_of m).sigma ▸ end_costs)
      ▸ only_costs m.declared.tape_alphabet (say_costs "Γ = " 5 refl ▸ symbols_costs (content_of m).gamma ▸ end_costs)
      ▸ only_costs m.declared.blank (say_costs "blank = " 8 refl ▸ symbol_costs m.blank ▸ end_costs)
      ▸ only_costs m.declared.start (say_costs "start = " 8 refl ▸ verbatim_costs (value_or m.start) 4194304 (name_small cs small m.start good.start_good) ▸ end_costs)
      ▸ say_costs "F = " 4 refl ▸ names_costs (final_names states) (finals_every (λ n. sizes n ≤ 4194304) states states_small) ▸ end_costs
      ▸ rules_costs m.rules lines_costs
      ▸ notes_costs cs small m.trailing good.trailing_good)

-- the rules are the last of the sheet's words
rules_last : (m : Machine Span) → length (flat rule_words m.rules) ≤ length (sheet_words m)
unfolding sheet_words
rules_last m =
    rw (
      length-append (flat state_words m.states) _,
      length-append (flat symbol_words m.sigma) _,
      length-append (flat symbol_words m.gamma) _,
      length-append (flat place_words m.finals) _,
      length-append (flat located_words m.header) _,
      length-append (flat located_words m.trailing) (flat rule_words m.rules),
    ) (omega arith)

-- the form of a text that was read, its counts in words of 32 bits and its sheet lent as such words
module _ (t : List ℕ) (h : Head) (sheet : List ℕ) (r : ReadAs t h sheet) where
  pub form_fits : h.counts.states < 4294967296 → h.counts.sigma < 4294967296 → h.counts.gamma < 4294967296 → h.counts.header < 4294967296 → h.counts.trailing < 4294967296
      → length sheet * 4 < 9223372036854775808 → length (form_of t) < 18446744073709551615
  unfolding form_of plain head_of valid_up_to sizes
  form_fits s₁ s₂ s₃ s₄ s₅ lent =
      let m : Machine Span = machine_in t in
      let whole : sizes (decode t) ≡ length t = is_valid t r.is_admitted in
      let short : length t ≤ 4194304 = is_short t r.is_admitted in
      let few : Every (λ (q : Rule Span). length q.leading ≤ 4194305) m.rules = every_impl (λ (q : Rule Span). length q.leading ≤ length t + 1) _ (λ q k. omega (arith, short, k)) m.rules (leading_few t) in
      let all = (form_costs (decode t) (omega arith) m (machine_placed (decode t)) few).costs [] in
      omega (
        arith,
        length-encode (plain (content_of m)),
        all,
        rules-within (read_lines (decode t)),
        rules_last m,
        r.sheet_fits,
        ap (λ (x : Head). x.counts.states) r.head_is,
        ap (λ (x : Head). x.counts.sigma) r.head_is,
        ap (λ (x : Head). x.counts.gamma) r.head_is,
        ap (λ (x : Head). x.counts.header) r.head_is,
        ap (λ (x : Head). x.counts.trailing) r.head_is,
      )
