-- Of several windows: one more of them opens the minutes that it has inside, and makes the wait the lesser of two.
use Rattle.std.proofs.Common.{ℕ, ◌+◌, ◌%◌, ◌<◌, min, Bool, true, false, ◌||◌, ◌≡◌, refl, sym, ap, ap₂, ◌∙◌, List, length, take, get_or, arith}
use mathlib.Core.Path.{fun_ext}
use Rattle.std.specs.List.{list_any, zip}
use Rattle.std.proofs.lemmas.List.{get_or-take, length-take}
use Rattle.std.proofs.lemmas.List.Folds.{list_any_more, list_any_at}
use Rattle.std.proofs.lemmas.Slice.Zip.{length-zip, get_or-zip}
use Rattle.hours.specs.Hours.{inside, least}
use Rattle.hours.specs.Code.{wait_of}
use Rattle.hours.proofs.Least.{least_or, least_none}
use Rattle.hours.proofs.OneWindow.{one_window}

-- whether a minute is inside one of the first i windows
abbrev pub open_at : List ℕ → List ℕ → ℕ → ℕ → Bool
open_at os cs i m = list_any (λ (w : ℕ × ℕ). inside w.0 w.1 m) (take i (zip os cs))

-- the least wait to such a minute
abbrev pub least_to : List ℕ → List ℕ → ℕ → ℕ → ℕ
least_to os cs i m = least 10080 0 (λ d. open_at os cs i ((m + d) % 10080))

module _ (os cs : List ℕ) where
  pub open_more : (i m : ℕ) → i < length os → i < length cs → open_at os cs (i + 1) m ≡ (open_at os cs i m || inside (get_or os i 0) (get_or cs i 0) m)
  open_more i m a b =
      list_any_more (λ (w : ℕ × ℕ). inside w.0 w.1 m) (zip os cs) i (0, 0) (omega (arith, length-zip os cs))
      ∙ ap (λ (w : ℕ × ℕ). open_at os cs i m || inside w.0 w.1 m) (get_or-zip os cs i (0, 0) a b)

  -- a window that is passed by has the minute outside
  pub open-passed : (i m : ℕ) → i < length os → i < length cs → open_at os cs i m ≡ false → inside (get_or os i 0) (get_or cs i 0) m ≡ false → open_at os cs (i + 1) m ≡ false
  open-passed i m a b e f = open_more i m a b ∙ rw (e, f)

  -- one that has it inside settles the answer
  pub open-found : (n i m : ℕ) → i < n → i < length os → i < length cs → inside (get_or os i 0) (get_or cs i 0) m ≡ true → open_at os cs n m ≡ true
  open-found n i m l a b e =
      list_any_at
      (λ (w : ℕ × ℕ). inside w.0 w.1 m)
      (take n (zip os cs))
      i
      (0, 0)
      (omega (arith, length-zip os cs, length-take n (zip os cs)))
      (ap (λ (w : ℕ × ℕ). inside w.0 w.1 m) (get_or-take n (zip os cs) i (0, 0) l ∙ get_or-zip os cs i (0, 0) a b) ∙ e)

  pub least_to-none : (m : ℕ) → 10080 ≡ least_to os cs 0 m
  least_to-none m = sym (least_none 10080 0 (λ d. open_at os cs 0 ((m + d) % 10080)) (λ e. refl))

  pub least_to-more : (i m best w : ℕ) → m < 10080 → i < length os → i < length cs → best ≡ least_to os cs i m → w ≡ wait_of (get_or os i 0) (get_or cs i 0) m → min best w ≡ least_to os cs (i + 1) m
  least_to-more i m best w h a b s e =
      ap₂ min s (e ∙ sym (one_window (get_or os i 0) (get_or cs i 0) m h))
      ∙ (sym (least_or 10080 0 (λ d. open_at os cs i ((m + d) % 10080)) (λ d. inside (get_or os i 0) (get_or cs i 0) ((m + d) % 10080)))
      ∙ ap (least 10080 0) (fun_ext (λ d. sym (open_more i ((m + d) % 10080) a b))))
