-- What is claimed of the answers follows from the definitions: a wait is a least number, and an addition goes by its tests.
use Rattle.std.proofs.Common.{ℕ, ◌+◌, ◌-◌, ◌%◌, ◌<◌, ◌≤◌, min, Bool, true, false, cond, ◌⊎◌, inl, inr, ◌≡◌, refl, sym, ap, ap₂, ◌∙◌, eqb, ltb, lt-ltb, le-ltb, ltb-true, ltb-false, eqb-true, List, length, drop, set, length-set, length-drop, get_or, arith}
use Rattle.std.proofs.lemmas.List.{length-take}
use Rattle.std.proofs.lemmas.Bool.{false≢true, eqb-false}
use Rattle.hours.specs.declared.Hours.{Hours}
use Rattle.std.specs.Prelude.{Option, None, Some, Result, Ok, Err}
use Rattle.hours.specs.declared.HoursRefusal.{HoursRefusal}
use Rattle.hours.specs.declared.HoursRefusal.TheVariants.{OutOfRange}
use Rattle.hours.specs.Hours.{is_window, is_open, openness, least, waiting, wait_answer, with}
use Rattle.hours.specs.Rows.{hours_of, added_given}
use Rattle.hours.specs.Claims.{Made, Reached, Adds, RowAdds, Claims}
use Rattle.hours.proofs.Least.{by_test, least-passes, least-first, least_none}
use Rattle.hours.proofs.OneWindow.{opening_inside, opening_fits}
use Rattle.hours.proofs.Waits.{open-found}
use Rattle.hours.proofs.Adding.{by_answer, added-refused, no_room, added-empty, added-taken, unchanged, Listed, listed_of, is_open_is, opens}
use Rattle.hours.proofs.RowWords.{hours_of-full, hours_of-words, drop-words, row_added-full}

-- ---- waits

abbrev Waits : Type 0
Waits = Result (Option ℕ) HoursRefusal

wait_by : (h : Hours) (m : ℕ) (x y : Bool) → ltb m 10080 ≡ x → ltb (waiting h m) 10080 ≡ y → wait_answer h m ≡ cond x (Ok (cond y (Some (waiting h m)) None)) (Err OutOfRange)
unfolding wait_answer
wait_by h m x y e f = ap₂ (λ (a b : Bool). cond a (Ok (cond b (Some (waiting h m)) None)) (Err OutOfRange)) e f

-- whether the minute after d more is open
abbrev after : Hours → ℕ → ℕ → Bool
after h m d = is_open h ((m + d) % 10080)

waiting_is : (h : Hours) (m : ℕ) → waiting h m ≡ least 10080 0 (after h m)
unfolding waiting
waiting_is h m = refl

reached_by : (h : Hours) (m w : ℕ) → waiting h m ≡ w → w < 10080 → Reached h m w
reached_by h m w e l =
    let f : least 10080 0 (after h m) ≡ w = sym (waiting_is h m) ∙ e in
    record {
      below_week = l;
      open_then = rw f at (least-passes 10080 0 (after h m) (omega arith));
      none_before = λ d k. least-first 10080 0 d (after h m) (omega arith) (omega arith);
    }

no_minutes : (w : ℕ) → ◌≡◌ {A = Waits} (Ok None) (Ok (Some w)) → ⊥
no_minutes w e = cc

no_answer : (w : ℕ) → ◌≡◌ {A = Waits} (Err OutOfRange) (Ok (Some w)) → ⊥
no_answer w e = cc

same_minutes : (v w : ℕ) → ◌≡◌ {A = Waits} (Ok (Some v)) (Ok (Some w)) → v ≡ w
same_minutes v w e = cc

reached : (h : Hours) (m w : ℕ) → wait_answer h m ≡ Ok (Some w) → Reached h m w
reached h m w e =
    by_test
    (ltb m 10080)
    (λ a.
    by_test
    (ltb (waiting h m) 10080)
    (λ b.
    let f : waiting h m ≡ w = same_minutes (waiting h m) w (sym (wait_by h m true true a b) ∙ e) in
    reached_by h m w f (rw f at (ltb-true (waiting h m) 10080 b)))
    (λ b. absurd (no_minutes w (sym (wait_by h m true false a b) ∙ e))))
    (λ a. absurd (no_answer w (sym (wait_by h m false (ltb (waiting h m) 10080) a refl) ∙ e)))

not_none : (w : ℕ) → ◌≡◌ {A = Waits} (Ok (Some w)) (Ok None) → ⊥
not_none w e = cc

module _ (h : Hours) (m : ℕ) (l : m < 10080) where
  no_wait : wait_answer h m ≡ Ok None → 10080 ≤ least 10080 0 (after h m)
  no_wait e =
      by_test
      (ltb (waiting h m) 10080)
      (λ b. absurd (not_none (waiting h m) (sym (wait_by h m true true (lt-ltb m 10080 l) b) ∙ e)))
      (λ b. rw (waiting_is h m) at (ltb-false (waiting h m) 10080 b))

  all_closed : wait_answer h m ≡ Ok None → (k : ℕ) → k < 10080 → is_open h k ≡ false
  all_closed e k d =
      let at : (m + (k + 10080 - m) % 10080) % 10080 ≡ k = omega arith in
      rw at at (least-first 10080 0 ((k + 10080 - m) % 10080) (after h m) (omega arith) (omega (arith, no_wait e)))

  then_never : ((k : ℕ) → k < 10080 → is_open h k ≡ false) → wait_answer h m ≡ Ok None
  then_never f =
      let e : waiting h m ≡ 10080 = waiting_is h m ∙ least_none 10080 0 (after h m) (λ d. f ((m + d) % 10080) (omega arith)) in
      wait_by h m true false (lt-ltb m 10080 l) (le-ltb (waiting h m) 10080 (omega arith))

  -- of a value that was made: the first window opens
  none_listed : Made h → wait_answer h m ≡ Ok None → h.count ≡ 0
  none_listed d e = go (listed_of h d) (listed_of h d).first
    where
      go : Listed h → (h.count ≡ 0) ⊎ (is_window (get_or h.opens 0 0) (get_or h.closes 0 0) ≡ true) → h.count ≡ 0
      go k (inl z) = z
      go k (inr w) =
          by_test
          (eqb h.count 0)
          (λ z. omega (arith, eqb-true h.count 0 z))
          (λ z.
          let o = get_or h.opens 0 0 in
          let c = get_or h.closes 0 0 in
          let p : (h.count ≡ 0) → ⊥ = eqb-false h.count 0 z in
          let n : 0 < min h.count 32 = omega arith in
          let t : is_open h o ≡ true = is_open_is h (min h.count 32) o refl ∙ open-found h.opens h.closes (min h.count 32) 0 o n (omega (arith, k.opens_long)) (omega (arith, k.closes_long)) (opening_inside o c w) in
          absurd (false≢true (sym (all_closed e o (opening_fits o c w)) ∙ t)))

  nothing_open : h.count ≡ 0 → wait_answer h m ≡ Ok None
  nothing_open z = then_never (λ k d. is_open_is h 0 k (omega arith))

minute_first : (h : Hours) (m : ℕ) → 10080 ≤ m → (openness h m ≡ Err OutOfRange) × (wait_answer h m ≡ Err OutOfRange)
unfolding openness
minute_first h m l = (
  ap (λ (b : Bool). cond b (Ok (is_open h m)) (Err OutOfRange)) (le-ltb m 10080 l),
  wait_by h m false (ltb (waiting h m) 10080) (le-ltb m 10080 l) refl,
)

-- ---- additions

adds : (h : Hours) (o c : ℕ) → Adds h o c
adds h o c = record {
  unchanged = unchanged h o c;
  refused_first = λ s. added-refused h o c (no_room h o c s);
  empty_then = added-empty h o c;
  taken = added-taken h o c;
  opens = λ d e m. opens h o c m d e;
}

module _ (row : List ℕ) (o c : ℕ) (l : 65 ≤ length row) where
  abbrev h : Hours
  h = hours_of row

  opens_long : length h.opens ≡ 32
  opens_long = ap (λ (g : Hours). length g.opens) (hours_of-full row l) ∙ omega (arith, length-take 32 (drop 1 row), length-drop 1 row)

  closes_long : length h.closes ≡ 32
  closes_long = ap (λ (g : Hours). length g.closes) (hours_of-full row l) ∙ omega (arith, length-take 32 (drop 33 row), length-drop 33 row)

  opens_with : length (set h.opens h.count o) ≡ 32
  opens_with = length-set h.opens h.count o ∙ opens_long

  closes_with : length (set h.closes h.count c) ≡ 32
  closes_with = length-set h.closes h.count c ∙ closes_long

  told_row : RowAdds row o c
  told_row = record {
    adds =
        ap (λ (g : ℕ × List ℕ). hours_of g.1) (row_added-full row o c l)
        ∙ by_answer (λ a. hours_of (added_given a row).1 ≡ a.hours) h o c refl refl (λ a b. hours_of-words (with h o c) (drop 65 row) opens_with closes_with);
    behind =
        ap (λ (g : ℕ × List ℕ). drop 65 g.1) (row_added-full row o c l)
        ∙ by_answer (λ a. drop 65 (added_given a row).1 ≡ drop 65 row) h o c refl refl (λ a b. drop-words (with h o c) (drop 65 row) opens_with closes_with);
    same = λ n.
        ap (λ (g : ℕ × List ℕ). g.1) (row_added-full row o c l)
        ∙ by_answer (λ a. ((added_given a row).0 ≡ 0 → ⊥) → (added_given a row).1 ≡ row) h o c (λ z. refl) (λ z. refl) (λ a b z. absurd (z refl)) (λ z. n (ap (λ (g : ℕ × List ℕ). g.0) (row_added-full row o c l) ∙ z));
  }

pub claims : Claims
claims = record {
  reached = reached;
  never = λ h m d l. (none_listed h m l d, nothing_open h m l);
  never_open = λ h m l. (all_closed h m l, then_never h m l);
  minute_first = minute_first;
  adds = adds;
  row_adds = told_row;
}
