-- Laws of the wheels: what is stored in their slices, and that turning them gives every choice of the read sets in order.
use Rattle.std.proofs.Common.{◌≡◌, ℕ, zero, suc, ◌+◌, ◌-◌, ◌*◌, ◌^◌, ◌<◌, ◌≤◌, Bool, true, false, cond, eqb, List, [], ◌∷◌, ◌++◌, map, length, get_or, take, drop, set, sym, refl, ap, ◌∙◌, append_assoc, append-nil, add-one, arith, length-set, get_or-drop, drop-drop, take-suc-set, w32, Fits, le-ltb, lt-ltb, eq-eqb, ne_eqb, eqb-true}
use mathlib.Core.List.{map-append}
use mathlib.Core.Logic.{◌⊎◌, inl, inr}
use Rattle.std.specs.Prelude.{None, Some}
use Rattle.tokens.specs.declared.Token.{Token}
use Rattle.parser.specs.Row.{ended, peek}
use Rattle.parser.proofs.Laws.{inside}
use Rattle.sheet.specs.Turns.{turned}
use Rattle.sheet.specs.Wheels.{members, first_member, goes_on, next_entry, entries_of, wheel}

-- ---- one entry
-- a token that is no line feed stands in the row
kind-inside : (ts : List Token) (i k : ℕ) → (peek ts i).kind ≡ k → k < 13 → i < length ts
kind-inside ts i k e h = inside (λ t. eqb t.kind k) ts i (ne_eqb 13 k (λ (f : 13 ≡ k). omega arith)) (eq-eqb (peek ts i).kind k e)

goes_on-inside : (ts : List Token) (e c : ℕ) → goes_on ts e c ≡ true → c + 1 < length ts
unfolding goes_on
goes_on-inside ts e c h = go (eqb (peek ts e).kind 6) h
  where
    go : (b : Bool) → cond b (eqb (peek ts (c + 1)).kind 8) false ≡ true → c + 1 < length ts
    go true g = kind-inside ts (c + 1) 8 (eqb-true (peek ts (c + 1)).kind 8 g) (omega arith)
    go false g = let z : ◌≡◌ {A = ℕ} 0 1 = cc in absurd (omega (arith, z))

pub step_fits : (ts : List Token) (e c : ℕ) (r : Bool) → length ts < 2 ^ 32 → r ≡ goes_on ts e c → r ≡ true → Fits w32 (c + 2)
step_fits ts e c r small g h = record { fits = omega (arith, goes_on-inside ts e c (sym g ∙ h)) }

-- ---- the members of a set
members_from : (l : List Token) → members l ≡ peek l 0 ∷ cond (eqb (peek l 1).kind 8) (members (drop 2 l)) []
unfolding members
members_from [] = refl
members_from (t ∷ []) = refl
members_from (t ∷ s ∷ r) = go (eqb s.kind 8)
  where
    go : (b : Bool) → elim b [ true ↦ t ∷ members r | false ↦ t ∷ [] ] ≡ t ∷ cond b (members r) []
    go true = refl
    go false = refl

pub members_step : (ts : List Token) (c : ℕ) → members (drop c ts) ≡ peek ts c ∷ cond (eqb (peek ts (c + 1)).kind 8) (members (drop (c + 2) ts)) []
members_step ts c =
    let e : c + 0 ≡ c = omega arith in
    let z : peek (drop c ts) 0 ≡ peek ts c = get_or-drop c ts 0 ended ∙ ap (peek ts) e in
    members_from (drop c ts) ∙ rw (z, get_or-drop c ts 1 ended, drop-drop 2 c ts)

-- the walk to the end of a set has come to the member at the index i
pub record Ending (ts : List Token) (count e i : ℕ) : Type 0 where
  pub whole : i + 2 * length (members (drop i ts)) + 1 ≡ next_entry ts e
  pub low : i ≤ count + 1

module _ (ts : List Token) (e : ℕ) where
  pub next-symbol : (t : Token) → t ≡ peek ts e → (t.kind ≡ 6 → ⊥) → e + 2 ≡ next_entry ts e
  unfolding next_entry
  next-symbol t here h = rw (← here, ne_eqb t.kind 6 h)

  pub ending_start : (count : ℕ) (t : Token) → t ≡ peek ts e → t.kind ≡ 6 → e < count → Ending ts count e (e + 1)
  unfolding next_entry
  ending_start count t here h l = record { whole = rw (← here, eq-eqb t.kind 6 h); low = omega arith }

  module _ (count i : ℕ) (g : Ending ts count e i) where
    one_more : (s : Token) (k : Bool) → s ≡ peek ts (i + 1) → eqb s.kind 8 ≡ k → length (members (drop i ts)) ≡ suc (length (cond k (members (drop (i + 2) ts)) []))
    one_more s k f h =
        ap length (members_step ts i ∙ ap (λ (t : Token). peek ts i ∷ cond (eqb t.kind 8) (members (drop (i + 2) ts)) []) (sym f)
        ∙ ap (λ (b : Bool). peek ts i ∷ cond b (members (drop (i + 2) ts)) []) h)

    pub ending_on : (s : Token) → i < count → s ≡ peek ts (i + 1) → s.kind ≡ 8 → Ending ts count e (i + 2)
    ending_on s l f h = record { whole = omega (arith, g.whole, one_more s true f (eq-eqb s.kind 8 h)); low = omega arith }

    pub ending_stop : (s : Token) → s ≡ peek ts (i + 1) → (s.kind ≡ 8 → ⊥) → i + 3 ≡ next_entry ts e
    ending_stop s f h = omega (arith, g.whole, one_more s false f (ne_eqb s.kind 8 h))

    pub ending_past : length ts ≤ i → i + 3 ≡ next_entry ts e
    ending_past l = ending_stop ended (sym (past ts (i + 1) (omega arith))) (λ (f : 13 ≡ 8). omega arith)
      where
        past : (ts : List Token) (i : ℕ) → length ts ≤ i → peek ts i ≡ ended
        past [] i h = refl
        past (t ∷ ts) zero h = absurd (omega arith)
        past (t ∷ ts) (suc i) h = past ts i (omega arith)

-- ---- the wheels of a rule: t of n are stored, the entry at the index i comes next
pub record Filling (ts : List Token) (count at n : ℕ) (entries members : List ℕ) (i t : ℕ) : Type 0 where
  pub whole : entries_of ts n at ≡ take t entries ++ entries_of ts (n - t) i
  pub first : take t members ≡ map (first_member ts) (take t entries)
  pub low : t ≤ i
  pub few : t ≤ count

next-after : (ts : List Token) (e : ℕ) → e + 1 ≤ next_entry ts e
unfolding next_entry
next-after ts e = go (eqb (peek ts e).kind 6)
  where
    go : (b : Bool) → e + 1 ≤ cond b (e + 1 + 2 * length (members (drop (e + 1) ts)) + 1) (e + 2)
    go true = omega arith
    go false = omega arith

module _ (ts : List Token) (count at n : ℕ) (entries members : List ℕ) (i t : ℕ) (g : Filling ts count at n entries members i t) (many : length ts ≡ count) where
  pub filling_on : (c j : ℕ) → t < n → i < count → count ≤ length entries → count ≤ length members → c ≡ first_member ts i → j ≡ next_entry ts i
      → Filling ts count at n (set entries t i) (set members t c) j (t + 1)
  unfolding entries_of
  filling_on c j h l room room' ec f =
      let one : List ℕ = i ∷ [] in
      let shorter : n - t ≡ suc (n - (t + 1)) = omega arith in
      let goes : entries_of ts (n - t) i ≡ i ∷ entries_of ts (n - (t + 1)) j =
      ap (λ (k : ℕ). entries_of ts k i) shorter ∙ rw (lt-ltb i (length ts) (omega (arith, many)), entries_of, ← f) in
      let entries₂ : take (t + 1) (set entries t i) ≡ take t entries ++ one =
      ap (λ (k : ℕ). take k (set entries t i)) (add-one t) ∙ take-suc-set entries t i (omega (arith, g.low)) in
      let members₂ : take (t + 1) (set members t c) ≡ take t members ++ (c ∷ []) =
      ap (λ (k : ℕ). take k (set members t c)) (add-one t) ∙ take-suc-set members t c (omega (arith, g.low)) in
      record {
        whole = g.whole ∙ ap (λ (l : List ℕ). take t entries ++ l) goes ∙ sym (append_assoc (take t entries) one (entries_of ts (n - (t + 1)) j))
            ∙ ap (λ (l : List ℕ). l ++ entries_of ts (n - (t + 1)) j) (sym entries₂);
        first = members₂ ∙ ap (λ (l : List ℕ). l ++ (c ∷ [])) g.first ∙ ap (λ (x : ℕ). map (first_member ts) (take t entries) ++ (x ∷ [])) ec
            ∙ sym (ap (map (first_member ts)) entries₂ ∙ map-append (first_member ts) (take t entries) one);
        low = omega (arith, next-after ts i, f, g.low);
        few = omega (arith, g.low);
      }

  module _ (stop : (n ≤ t) ⊎ (count ≤ i)) where
    no_more : entries_of ts (n - t) i ≡ []
    unfolding entries_of
    no_more = go stop (n - t) refl
      where
        go : (n ≤ t) ⊎ (count ≤ i) → (k : ℕ) → k ≡ n - t → entries_of ts k i ≡ []
        go s zero e = refl
        go (inl h) (suc k) e = absurd (omega arith)
        go (inr h) (suc k) e = rw (le-ltb i (length ts) (omega (arith, many)), entries_of)

    pub filled : (take t entries ≡ entries_of ts n at) × (take t members ≡ map (first_member ts) (entries_of ts n at))
    filled =
        let e : take t entries ≡ entries_of ts n at = sym (g.whole ∙ ap (λ (l : List ℕ). take t entries ++ l) no_more ∙ append-nil (take t entries)) in
        (e, g.first ∙ ap (map (first_member ts)) e)

-- ---- the wheels turned from the last: those from the wheel t on have started again
pub record Turning (ts : List Token) (es cs₀ cs : List ℕ) (t : ℕ) : Type 0 where
  pub turns : turned (wheel ts) es cs t ≡ turned (wheel ts) es cs₀ (length es)
  pub low : t ≤ length es
  pub size : length cs ≡ length es

module _ (ts : List Token) (es cs₀ cs : List ℕ) (t : ℕ) (g : Turning ts es cs₀ cs t) where
  pub turning_none : t ≡ 0 → turned (wheel ts) es cs₀ (length es) ≡ None
  unfolding turned
  turning_none h = sym g.turns ∙ ap (turned (wheel ts) es cs) h

  module _ (h : t ≡ 0 → ⊥) (r : Bool) (cs' : List ℕ) (asked : r ≡ goes_on ts (get_or es (t - 1) 0) (get_or cs (t - 1) 0))
      (stored : cs' ≡ set cs (t - 1) (cond r (get_or cs (t - 1) 0 + 2) (first_member ts (get_or es (t - 1) 0)))) where
    one-turn : turned (wheel ts) es cs (suc (t - 1)) ≡ turned (wheel ts) es cs₀ (length es)
    one-turn = let e : suc (t - 1) ≡ t = omega arith in ap (turned (wheel ts) es cs) e ∙ g.turns

    stored_as : (k : Bool) → r ≡ k → cs' ≡ set cs (t - 1) (cond k (get_or cs (t - 1) 0 + 2) (first_member ts (get_or es (t - 1) 0)))
    stored_as k e = stored ∙ ap (λ (k : Bool). set cs (t - 1) (cond k (get_or cs (t - 1) 0 + 2) (first_member ts (get_or es (t - 1) 0)))) e

    pub turning_on : r ≡ true → turned (wheel ts) es cs₀ (length es) ≡ Some cs'
    unfolding turned
    turning_on e = sym one-turn ∙ rw (sym asked ∙ e, turned) (ap Some (sym (stored_as true e)))

    pub turning_back : r ≡ false → Turning ts es cs₀ cs' (t - 1)
    unfolding turned
    turning_back e =
        record {
          turns = ap (λ (l : List ℕ). turned (wheel ts) es l (t - 1)) (stored_as false e) ∙ sym (rw (sym asked ∙ e, turned)) ∙ one-turn;
          low = omega (arith, g.low);
          size = ap length (stored_as false e) ∙ length-set cs (t - 1) (first_member ts (get_or es (t - 1) 0)) ∙ g.size;
        }
