-- How long the lines of a machine can be: a sheet's words bound all but the names.
use Prim.Native.Nat.{ℕ, suc, ◌+◌, ◌*◌, ◌≤◌, ◌<◌}
use native.Mathlib.Omega.{arith}
use mathlib.Core.Bool.{Bool, true, false, ◌||◌}
use mathlib.Core.List.{List, [], ◌∷◌, ◌++◌, map, append_assoc}
use mathlib.Core.Path.{◌≡◌, refl, ap, ◌∙◌}
use lib.Dec.{eqb}
use lib.ListN.{length, drop, length-append}
use lib.Seq.{drop-drop, drop_at}
use Rattle.lexer.specs.Tokens.{Span}
use Rattle.language.specs.Machine.{Rule, State, Machine}
use Rattle.language.specs.Layout.{place_words, place_or_none, flat, located_words, head_of, state_words, symbol_words, rule_words, sheet_words}
use Rattle.language.specs.Agreement.{at}
use Rattle.language.specs.Plain.{Piece, each}
use Rattle.list_lines.specs.Listing.{names, parted, transition, state_lines, symbol_lines, transition_lines, machine_lines}
use Rattle.language.proofs.Every.{by_test, Every, Filled, every_any}
use Rattle.language.proofs.Counts.{flat-length, rule_length_lem, symbol-length}
use Rattle.language.proofs.AnswerBack.{groups_back, records_back, drop-section, state-length}
use Rattle.list_room.proofs.NameTokens.{total}
use Rattle.list_room.proofs.Pieces.{Short, ◌▸◌, less, said, ended, number_short, span_bytes, named_short, Within, parted_short, codes_short, moves_short}

-- ---- states

within_less : (m n : ℕ) (ps : List Piece) → m ≤ n → Within m ps → Within n ps
within_less m n [] h k = tt
within_less m n (p ∷ ps) h k = (k.0, k.1, k.2, k.3, omega (arith, h, k.4))

-- the names of a rule have 2,048 bytes at most, and it has a tape
abbrev pub SmallRule : Rule Span → Type 0
SmallRule r = (span_bytes r.from.place + span_bytes r.to.place ≤ 2048) × Filled r.actions

filled_length : {A : Type 0} (l : List A) → Filled l → 0 < length l
filled_length (a ∷ l) h = omega arith
filled_length [] h = absurd h

-- the bytes of a state's name
abbrev pub state_bytes : State Span → ℕ
state_bytes s = span_bytes s.name.place

module _ (text : List ℕ) where
  names_within : (all : Bool) (l : List (State Span)) → Within (total state_bytes l + length l) (names text all (map state_words l))
  unfolding names total state_words
  names_within all [] = tt
  names_within all (s ∷ l) =
      let rest : Within (total state_bytes l + length l) (names text all (map state_words l)) = names_within all l in
      by_test (all || eqb (at (state_words s) 2) 1)
      (λ e. rw (e, names) (state_bytes s, total state_bytes l + length l, named_short text s.name.place, rest, omega arith))
      (λ e. rw (e, names) (within_less (total state_bytes l + length l) (state_bytes s + total state_bytes l + suc (length l)) (names text all (map state_words l)) (omega arith) rest))

  names_short : (all : Bool) (l : List (State Span)) → Short (total state_bytes l + length l) (parted 0x20 (names text all (map state_words l)))
  names_short all l = parted_short 0x20 (total state_bytes l + length l) (names text all (map state_words l)) (names_within all l)

  states_short : (l : List (State Span)) (start : Span) (rest : List ℕ)
      → Short (23 + 2 * total state_bytes l + 2 * length l + span_bytes start) (state_lines text (length l) start (flat state_words l ++ rest))
  unfolding state_lines
  states_short l start rest =
      rw (groups_back state_words 3 state-length l rest)
      (less (omega arith) (said "states=" ▸ names_short true l ▸ ended ▸ said "finals=" ▸ names_short false l ▸ ended ▸ said "start=" ▸ named_short text start ▸ ended))

  symbols_short : (n m : ℕ) (sigma gamma : List ℕ) → Short (14 + 21 * n + 21 * m) (symbol_lines n sigma m gamma)
  unfolding symbol_lines
  symbols_short n m sigma gamma = less (omega arith) (said "sigma=" ▸ codes_short 0x20 0 3 n sigma ▸ ended ▸ said "gamma=" ▸ codes_short 0x20 0 3 m gamma ▸ ended)

  -- ---- rules

  rule_short : (r : Rule Span) → SmallRule r → Short (118 * length (rule_words r)) (transition text (rule_words r))
  unfolding transition rule_words
  rule_short r h =
      let n : ℕ = length r.actions in
      let acts : List ℕ = drop 11 (rule_words r) in
      let k : length (rule_words r) ≡ 11 + 7 * n + 2 * length r.leading = rule_length_lem r in
      less (omega (arith, k, h.0, filled_length r.actions h.1))
      (said "transition=" ▸ named_short text r.from.place ▸ said " " ▸ codes_short 0x2C 0 7 n acts ▸ said " " ▸ named_short text r.to.place ▸ said " "
      ▸ codes_short 0x2C 3 7 n acts ▸ said " " ▸ moves_short 0x2C 7 n acts ▸ ended)

  each_short : (rs : List (Rule Span)) → Every SmallRule rs → Short (118 * length (flat rule_words rs)) (each (transition text) (map rule_words rs))
  unfolding each flat
  each_short [] h = record { short = λ rest. omega arith }
  each_short (r ∷ rs) h = less (omega (arith, length-append (rule_words r) (flat rule_words rs))) (rule_short r h.0 ▸ each_short rs h.1)

  rules_short : (rs : List (Rule Span)) (rest : List ℕ) → Every SmallRule rs → Short (33 + 118 * length (flat rule_words rs)) (transition_lines text (length rs) (flat rule_words rs ++ rest))
  unfolding transition_lines
  rules_short rs rest h =
      rw (records_back rs rest) (less (omega arith) (said "transitions=" ▸ number_short (length rs) ▸ ended ▸ each_short rs h))

  -- ---- a machine

  module _ (m : Machine Span) (rest : List ℕ) where
    abbrev rules_on : List ℕ
    rules_on = flat rule_words m.rules ++ rest

    abbrev gamma_on : List ℕ
    gamma_on = flat symbol_words m.gamma ++ (flat place_words m.finals ++ (flat located_words m.header ++ (flat located_words m.trailing ++ rules_on)))

    abbrev sigma_on : List ℕ
    sigma_on = flat symbol_words m.sigma ++ gamma_on

    sections : sheet_words m ++ rest ≡ flat state_words m.states ++ sigma_on
    unfolding sheet_words
    sections = simp append_assoc

    sigma_at : drop (3 * length m.states) (sheet_words m ++ rest) ≡ sigma_on
    sigma_at = ap (drop (3 * length m.states)) sections ∙ drop-section state_words 3 state-length m.states sigma_on (3 * length m.states) refl

    gamma_at : drop (3 * length m.sigma) sigma_on ≡ gamma_on
    gamma_at = drop-section symbol_words 3 symbol-length m.sigma gamma_on (3 * length m.sigma) refl

    rules_at : drop (2 * length m.trailing) (drop (2 * length m.header) (drop (3 * length m.gamma + 2 * length m.finals) gamma_on)) ≡ rules_on
    rules_at =
        let n : ℕ = 3 * length m.gamma + 2 * length m.finals + 2 * length m.header + 2 * length m.trailing in
        let before : List ℕ = flat symbol_words m.gamma ++ (flat place_words m.finals ++ (flat located_words m.header ++ flat located_words m.trailing)) in
        let parts : gamma_on ≡ before ++ rules_on = simp append_assoc in
        let long : length before ≡ n =
        omega (
          arith,
          length-append (flat symbol_words m.gamma) (flat place_words m.finals ++ (flat located_words m.header ++ flat located_words m.trailing)),
          length-append (flat place_words m.finals) (flat located_words m.header ++ flat located_words m.trailing),
          length-append (flat located_words m.header) (flat located_words m.trailing),
          flat-length symbol_words 3 m.gamma (every_any _ symbol-length m.gamma),
          flat-length place_words 2 m.finals (every_any _ (λ p. refl) m.finals),
          flat-length located_words 2 m.header (every_any _ (λ l. refl) m.header),
          flat-length located_words 2 m.trailing (every_any _ (λ l. refl) m.trailing),
        ) in
        ap (drop (2 * length m.trailing)) (drop-drop (2 * length m.header) (3 * length m.gamma + 2 * length m.finals) gamma_on)
        ∙ drop-drop (2 * length m.trailing) (3 * length m.gamma + 2 * length m.finals + 2 * length m.header) gamma_on
        ∙ ap (drop n) parts ∙ drop_at before rules_on n long

    -- what the sections that are listed take of the sheet
    words : 3 * length m.states + 3 * length m.sigma + 3 * length m.gamma + length (flat rule_words m.rules) ≤ length (sheet_words m)
    unfolding sheet_words
    words =
        let c : List ℕ = flat located_words m.header ++ (flat located_words m.trailing ++ flat rule_words m.rules) in
        let b : List ℕ = flat symbol_words m.gamma ++ (flat place_words m.finals ++ c) in
        omega (
          arith,
          length-append (flat state_words m.states) (flat symbol_words m.sigma ++ b),
          length-append (flat symbol_words m.sigma) b,
          length-append (flat symbol_words m.gamma) (flat place_words m.finals ++ c),
          length-append (flat place_words m.finals) c,
          length-append (flat located_words m.header) (flat located_words m.trailing ++ flat rule_words m.rules),
          length-append (flat located_words m.trailing) (flat rule_words m.rules),
          flat-length state_words 3 m.states (every_any _ state-length m.states),
          flat-length symbol_words 3 m.sigma (every_any _ symbol-length m.sigma),
          flat-length symbol_words 3 m.gamma (every_any _ symbol-length m.gamma),
        )

    -- a machine whose sheet has 16,384 words at most, and whose names are short
    pub machine_short : length (sheet_words m) ≤ 16384 → total state_bytes m.states ≤ 6144 → span_bytes (place_or_none m.start) ≤ 8192 → Every SmallRule m.rules
        → Short 2000000 (machine_lines text (head_of m).counts (head_of m).start (sheet_words m ++ rest))
    unfolding machine_lines head_of
    machine_short h k g f =
        rw (sigma_at, gamma_at, rules_at, sections)
        (less (omega (arith, h, k, g, words))
        (said "diagnostics=0" ▸ ended ▸ states_short m.states (place_or_none m.start) sigma_on ▸ symbols_short (length m.sigma) (length m.gamma) sigma_on gamma_on ▸ rules_short m.rules rest f))
