-- The log while diagnostics are stored in it: those that are still to come, written behind those that are
-- there, are all of them written at the front.
use mathlib.Core.Path.{◌≡◌, refl, sym, ap, ◌∙◌}
use Prim.Native.Nat.{ℕ, suc, ◌+◌, ◌≤◌}
use native.Mathlib.Omega.{arith}
use native.Mathlib.Nat.{not-suc-le-zero}
use mathlib.Core.List.{List, [], ◌∷◌, ◌++◌}
use lib.ListN.{length, set, drop, length-set}
use lib.Seq.{sets, sets-eq}
use Rattle.diag.specs.declared.Diagnostic.{Diagnostic}
use Rattle.diag_search.specs.Pending.{pending}
use Rattle.diag_search.specs.Stands.{Stands}
use Rattle.diag_search.specs.declared.Search.{Search}

-- where the loop is: how many are stored, the words, the search, and the log
pub record Turn : Type 0 where
  pub i : ℕ
  pub words : List ℕ
  pub search : Search
  pub log : List Diagnostic

module _ (text work : List ℕ) (all : List Diagnostic) (log : List Diagnostic) (n : ℕ) where
  pub record Holds (t : Turn) : Type 0 where
    pub stands : Stands text t.words t.search
    pub left : t.i + length (pending text t.words t.search) ≡ n
    pub stored : sets t.log t.i (pending text t.words t.search) ≡ sets log 0 all
    pub wide : length t.words ≡ length work
    pub long : length t.log ≡ length log

  -- before the first
  pub begins : (s : Search) → Stands text work s → pending text work s ≡ all → n ≡ length all → Holds (record { i = 0; words = work; search = s; log = log })
  begins s st are count = record {
    stands = st;
    left = let same : length (pending text work s) ≡ length all = ap length are in omega (arith, same, count);
    stored = ap (sets log 0) are;
    wide = refl;
    long = refl;
  }

  -- one diagnostic more is stored behind those that were gathered
  pub goes_on : (t : Turn) → Holds t → (w : List ℕ) (s : Search) (d : Diagnostic) → pending text t.words t.search ≡ d ∷ pending text w s → Stands text w s → length w ≡ length t.words
      → Holds (record { i = suc t.i; words = w; search = s; log = set t.log t.i d })
  goes_on t h w s d e st same = record {
    stands = st;
    left = let long : length (pending text t.words t.search) ≡ suc (length (pending text w s)) = ap length e in omega (arith, h.left, long);
    stored = ap (sets t.log t.i) (sym e) ∙ h.stored;
    wide = same ∙ h.wide;
    long = length-set t.log t.i d ∙ h.long;
  }

  -- at the end all are stored
  pub at_last_all : (t : Turn) → Holds t → n ≤ t.i → n ≡ length all → n ≤ length log → t.log ≡ all ++ drop n log
  at_last_all t h past count room =
      let none : pending text t.words t.search ≡ [] = empty (pending text t.words t.search) (omega (arith, h.left, past)) in
      let same : 0 + length all ≡ n = omega (arith, count) in
      ap (sets t.log t.i) (sym none) ∙ h.stored ∙ sets-eq all log 0 (omega (arith, count, room)) ∙ ap (λ (k : ℕ). all ++ drop k log) same
    where
      empty : (l : List Diagnostic) → length l ≡ 0 → l ≡ []
      empty [] e = refl
      empty (x ∷ l) e = let z : suc (length l) ≤ 0 = omega (arith, e) in absurd (not-suc-le-zero z)
