-- The lines of heads and tapes, a part at a time.
use Prim.Native.Nat.{ℕ, suc, ◌+◌, ◌-◌, ◌*◌, ◌<◌, ◌≤◌}
use native.Mathlib.Omega.{arith}
use mathlib.Core.List.{List, [], ◌∷◌}
use mathlib.Core.Path.{◌≡◌, refl, ap}
use lib.ListN.{length, get_or, take, drop}
use Rattle.std.proofs.lemmas.List.{drop_more, drop_all}
use Rattle.language.specs.Plain.{Piece, each}
use Rattle.emit.specs.declared.Output.{Output}
use Rattle.emit.proofs.Chain.{none, ◌▹◌, goes_on, goes_end}
use Rattle.list_lines.specs.Puts.{Puts}
use Rattle.list_lines.proofs.Chain.{Goes}
use Rattle.run_lines.specs.Lines.{code, position_of, codes_from, head_line, tape_line, tape_lines}

-- ---- codes

module _ (cs : List ℕ) (i : ℕ) {o o₀ : Output} {p₀ : Piece} (g : Goes (each code (drop i cs)) o p₀ o₀) where
  pub code_on : i < length cs → {r : Output} → Puts (code (get_or cs i 0)) o r → Goes (each code (drop (i + 1) cs)) r p₀ o₀
  unfolding each
  code_on h u = goes_on (λ rest. ap (λ l. each code l rest) (drop_more cs i 0 h)) g u

  pub code_end : length cs ≤ i → Puts p₀ o₀ o
  unfolding each
  code_end h = goes_end (λ rest. ap (λ l. each code l rest) (drop_all i cs h)) g

-- ---- a tape

pub shown_none : (h a : ℕ) (cs : List ℕ) {o : Output} → length cs ≡ 0 → Puts (codes_from h a cs) o o
unfolding codes_from
shown_none h a [] e = none
shown_none h a (c ∷ cs) e = absurd (omega arith)

pub shown_some : (h a : ℕ) (cs : List ℕ) {o x r : Output} → (length cs ≡ 0 → ⊥) → Puts (position_of h a) o x → Puts (each code cs) x r
    → Puts (codes_from h a cs) o r
unfolding codes_from
shown_some h a [] e u v = absurd (e refl)
shown_some h a (c ∷ cs) e u v = u ▹ v

-- ---- all tapes

pub all_fit : (h t n : ℕ) → 2 * h * t ≤ n → 2 * h * (t - 0) ≤ n
all_fit h t n r = let e : t - 0 ≡ t = omega arith in rw e r

-- the cells that are left are those of the tapes that are left
module _ (h t i n : ℕ) (room : 2 * h * (t - i) ≤ n) (low : i < t) where
  one_more : t - i ≡ suc (t - (i + 1))
  one_more = omega arith

  pub own_fits : 2 * h ≤ n
  own_fits = let r = rw one_more at room in omega arith

  pub behind_fits : 2 * h * (t - (i + 1)) ≤ n - 2 * h
  behind_fits = let r = rw one_more at room in omega arith

module _ (h blank : ℕ) (hs cs : List ℕ) (i : ℕ) {o o₀ : Output} {p₀ : Piece} (g : Goes (tape_lines h blank (drop i hs) cs) o p₀ o₀) where
  pub tape_on : i < length hs → {x r : Output} → Puts (head_line h (get_or hs i 0)) o x → Puts (tape_line h blank (take (2 * h) cs)) x r
      → Goes (tape_lines h blank (drop (i + 1) hs) (drop (2 * h) cs)) r p₀ o₀
  unfolding tape_lines
  tape_on l u v = goes_on (λ rest. ap (λ as'. tape_lines h blank as' cs rest) (drop_more hs i 0 l)) g (u ▹ v)

  pub tape_end : length hs ≤ i → Puts p₀ o₀ o
  unfolding tape_lines
  tape_end l = goes_end (λ rest. ap (λ as'. tape_lines h blank as' cs rest) (drop_all i hs l)) g
