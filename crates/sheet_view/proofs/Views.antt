-- What the view says of a rule, a state and the sections is what the definition reads in their words.
use mathlib.Core.Path.{◌≡◌, refl, ap, ◌∙◌}
use Prim.Native.Nat.{ℕ, zero, suc, ◌+◌, ◌*◌, ◌<◌}
use native.Mathlib.Omega.{arith}
use mathlib.Core.List.{List, [], ◌∷◌, map}
use lib.Dec.{eqb}
use lib.ListN.{length, get_or, take, drop}
use lib.Seq.{get_or-take, get_or-drop, drop-drop}
use Rattle.lexer.specs.Tokens.{Span, span}
use Rattle.machine.specs.declared.Counts.{Counts}
use Rattle.language.specs.Content.{StateContent, ActionContent}
use Rattle.language.specs.Agreement.{Answer, groups, records, at, place_at, dir_of, action_in, characters_at, comment_at, text_in, state_in, rule_in, content_of_answer}
use Rattle.sheet_view.specs.Sections.{sigma_from, gamma_from, finals_from, header_from, trailing_from, rules_from}
use Rattle.sheet_view.specs.Rules.{from_of, to_of, comment_of, arity_of, leading_count_of, actions_from, leading_from, read_of, write_of, move_of}
use Rattle.sheet_view.proofs.Records.{word_in}

-- ---- records of one length

-- there are as many as are asked for
groups-length : (k n : ℕ) (ws : List ℕ) → length (groups k n ws) ≡ n
unfolding groups
groups-length k zero ws = refl
groups-length k (suc n) ws = ap suc (groups-length k n (drop k ws))

-- each stands where its number says
groups_at : {A : Type 0} (f : List ℕ → A) (k n i : ℕ) (ws : List ℕ) (d : A) → i < n → get_or (map f (groups k n ws)) i d ≡ f (take k (drop (k * i) ws))
unfolding groups
groups_at f k zero i ws d h = absurd (omega arith)
groups_at f k (suc n) zero ws d h = let e : k * 0 ≡ 0 = omega arith in rw e
groups_at f k (suc n) (suc i) ws d h =
    let e : k + k * i ≡ k * suc i = omega arith in
    groups_at f k n i (drop k ws) d (omega arith) ∙ ap (λ l. f (take k l)) (drop-drop (k * i) k ws ∙ ap (λ m. drop m ws) e)

map-length : {A B : Type 0} (f : A → B) (l : List A) → length (map f l) ≡ length l
map-length f [] = refl
map-length f (a ∷ l) = ap suc (map-length f l)

-- ---- a rule

-- an action from its three words that count
abbrev action : ℕ → ℕ → ℕ → ActionContent
action r w d = record { read = r; write = w; dir = dir_of d }

-- a word of the k-th action stands at m
action_word : (k o m : ℕ) (ws : List ℕ) → o < 7 → 11 + (7 * k + o) ≡ m → get_or (take 7 (drop (7 * k) (drop 11 ws))) o 0 ≡ get_or ws m 0
action_word k o m ws low e = word_in 7 (7 * k) o (drop 11 ws) low ∙ get_or-drop 11 ws (7 * k + o) 0 ∙ ap (λ i. get_or ws i 0) e

-- the first word of a rule's record is its length
pub length_is : (ws : List ℕ) → at (take (at ws 0) ws) 0 ≡ at ws 0
length_is ws = go (at ws 0) refl
  where
    go : (n : ℕ) → at ws 0 ≡ n → at (take n ws) 0 ≡ n
    go zero e = refl
    go (suc n) e = get_or-take (suc n) ws 0 0 (omega arith) ∙ e

module _ (text ws : List ℕ) where
  pub from_is : (rule_in text ws).from ≡ characters_at text (from_of ws)
  unfolding rule_in
  from_is = refl

  pub to_is : (rule_in text ws).to ≡ characters_at text (to_of ws)
  unfolding rule_in
  to_is = refl

  pub comment_is : (rule_in text ws).comment ≡ comment_at text (comment_of ws)
  unfolding rule_in
  comment_is = refl

  pub leading_are : (rule_in text ws).leading ≡ map (text_in text) (groups 2 (leading_count_of ws) (leading_from ws))
  unfolding rule_in
  leading_are = refl

  pub actions_are : (rule_in text ws).actions ≡ map action_in (groups 7 (arity_of ws) (actions_from ws))
  unfolding rule_in
  actions_are = refl

  -- the arity is how many actions there are
  pub arity_is : length ((rule_in text ws).actions) ≡ arity_of ws
  arity_is = ap length actions_are ∙ map-length action_in (groups 7 (at ws 9) (drop 11 ws)) ∙ groups-length 7 (at ws 9) (drop 11 ws)

  -- below it, what is read and written on a tape, and the direction, are its action
  pub action_is : (k : ℕ) (d : ActionContent) → k < arity_of ws
      → get_or (rule_in text ws).actions k d ≡ record { read = read_of ws k; write = write_of ws k; dir = dir_of (move_of ws k) }
  unfolding action_in
  action_is k d h =
      let row = take 7 (drop (7 * k) (drop 11 ws)) in
      let r : get_or row 0 0 ≡ at ws (11 + 7 * k) = action_word k 0 (11 + 7 * k) ws (omega arith) (omega arith) in
      let w : get_or row 3 0 ≡ at ws (11 + 7 * k + 3) = action_word k 3 (11 + 7 * k + 3) ws (omega arith) (omega arith) in
      let m : get_or row 6 0 ≡ at ws (11 + 7 * k + 6) = action_word k 6 (11 + 7 * k + 6) ws (omega arith) (omega arith) in
      ap (λ l. get_or l k d) actions_are ∙ groups_at action_in 7 (at ws 9) k (drop 11 ws) d h
      ∙ ap (λ x. action x (get_or row 3 0) (get_or row 6 0)) r ∙ ap (λ x. action (at ws (11 + 7 * k)) x (get_or row 6 0)) w
      ∙ ap (λ x. action (at ws (11 + 7 * k)) (at ws (11 + 7 * k + 3)) x) m

-- ---- a state

module _ (text : List ℕ) (n : ℕ) (ws : List ℕ) where
  -- a state from its place and its mark
  abbrev state : Span → ℕ → StateContent
  state p m = record { name = characters_at text p; final = eqb m 1 }

  -- the place of the name and the final mark of the i-th state
  pub state_is : (i : ℕ) (d : StateContent) → i < n
      → get_or (map (state_in text) (groups 3 n ws)) i d ≡ record { name = characters_at text (place_at ws (3 * i)); final = eqb (at ws (3 * i + 2)) 1 }
  unfolding state_in
  state_is i d h =
      let row = take 3 (drop (3 * i) ws) in
      let e : 3 * i + 0 ≡ 3 * i = omega arith in
      let f : 3 * i + 1 ≡ suc (3 * i) = omega arith in
      let a : get_or row 0 0 ≡ at ws (3 * i) = word_in 3 (3 * i) 0 ws (omega arith) ∙ ap (λ m. get_or ws m 0) e in
      let b : get_or row 1 0 ≡ at ws (suc (3 * i)) = word_in 3 (3 * i) 1 ws (omega arith) ∙ ap (λ m. get_or ws m 0) f in
      let c : get_or row 2 0 ≡ at ws (3 * i + 2) = word_in 3 (3 * i) 2 ws (omega arith) in
      groups_at (state_in text) 3 n i ws d h ∙ ap (λ p. state (span p (get_or row 1 0)) (get_or row 2 0)) a
      ∙ ap (λ p. state (span (at ws (3 * i)) p) (get_or row 2 0)) b ∙ ap (λ m. state (place_at ws (3 * i)) m) c

-- ---- the sections

-- the header's comments begin behind Γ and the final states as they are listed
pub header_words : (n : Counts) (sheet : List ℕ) → drop (2 * n.finals) (finals_from n sheet) ≡ header_from n sheet
header_words n sheet = drop-drop (2 * n.finals) (3 * n.gamma) (gamma_from n sheet)

module _ (a : Answer) where
  abbrev n : Counts
  n = a.head.counts

  pub states_are : (content_of_answer a).states ≡ map (state_in a.text) (groups 3 n.states a.sheet)
  unfolding content_of_answer
  states_are = refl

  pub sigma_is : (content_of_answer a).sigma ≡ map (λ ws. at ws 0) (groups 3 n.sigma (sigma_from n a.sheet))
  unfolding content_of_answer
  sigma_is = refl

  pub gamma_is : (content_of_answer a).gamma ≡ map (λ ws. at ws 0) (groups 3 n.gamma (gamma_from n a.sheet))
  unfolding content_of_answer
  gamma_is = refl

  -- the final states as they are listed say nothing that the states do not say, so no part of the machine stands for them
  pub header_is : (content_of_answer a).header ≡ map (text_in a.text) (groups 2 n.header (header_from n a.sheet))
  unfolding content_of_answer
  header_is = refl

  pub trailing_is : (content_of_answer a).trailing ≡ map (text_in a.text) (groups 2 n.trailing (trailing_from n a.sheet))
  unfolding content_of_answer
  trailing_is = refl

  pub rules_are : (content_of_answer a).rules ≡ map (rule_in a.text) (records n.rules (rules_from n a.sheet))
  unfolding content_of_answer
  rules_are = refl
