-- Laws of appending: diagnostics appended one after another to a log that has a record for each stand at its front in their
-- order, and the words behind them are as they were.
use mathlib.Core.Path.{◌≡◌, refl, sym, ap, ◌∙◌}
use mathlib.Core.Bool.{Bool, true, false, cond}
use mathlib.Core.List.{List, [], ◌∷◌, ◌++◌, append-nil, append_assoc}
use Prim.Native.Nat.{ℕ, ◌+◌, ◌*◌, ◌≤◌}
use native.Mathlib.Omega.{arith}
use lib.ListN.{length, drop, length-append, length-drop}
use lib.Seq.{take_at, drop-append-add, drop-drop, sets, sets-eq, length-sets}
use lib.Dec.{leb}
use borrow.Author.Tests.{le-leb}
use Rattle.diag.specs.declared.Diagnostic.{Diagnostic}
use Rattle.diag.specs.Log.{words, flat, Log, logged, appended, append_all}
use Rattle.diag.proofs.Records.{length-flat, flat_append}

-- ---- appending two lists, and what it keeps
pub append_all-append : (l : Log) (xs ys : List Diagnostic) → append_all l (xs ++ ys) ≡ append_all (append_all l xs) ys
unfolding append_all
append_all-append l [] ys = refl
append_all-append l (x ∷ xs) ys = append_all-append (appended l x) xs ys

pub append_all-count : (l : Log) (ds : List Diagnostic) → (append_all l ds).count ≡ l.count + length ds
unfolding append_all appended
append_all-count l [] = omega arith
append_all-count l (d ∷ ds) = omega (arith, append_all-count (appended l d) ds)

appended-length : (l : Log) (d : Diagnostic) (b : Bool) → length (cond b (sets l.row (5 * l.count) (words d)) l.row) ≡ length l.row
appended-length l d true = length-sets l.row (5 * l.count) (words d)
appended-length l d false = refl

pub append_all-length : (l : Log) (ds : List Diagnostic) → length (append_all l ds).row ≡ length l.row
unfolding append_all appended
append_all-length l [] = refl
append_all-length l (d ∷ ds) = append_all-length (appended l d) ds ∙ appended-length l d (leb (5 * l.count + 5) (length l.row))

-- ---- what ds make of a log w that has a record for each
abbrev pub over : List ℕ → List Diagnostic → Log
over w ds = logged (flat ds ++ drop (5 * length ds) w) (length ds)

-- one diagnostic more is appended behind those of a list
over_more : (w : List ℕ) (ds : List Diagnostic) (d : Diagnostic) → 5 * length ds + 5 ≤ length w → appended (over w ds) d ≡ over w (ds ++ d ∷ [])
unfolding appended flat
over_more w ds d h =
    let n : ℕ = 5 * length ds in
    let row : List ℕ = flat ds ++ drop n w in
    let front : length (flat ds) ≡ n = length-flat ds in
    let size : length row ≡ length w = omega (arith, length-append (flat ds) (drop n w), front, length-drop n w) in
    let more : length (ds ++ d ∷ []) ≡ length ds + 1 = length-append ds (d ∷ []) in
    let next : n + 5 ≡ 5 * length (ds ++ d ∷ []) = omega (arith, more) in
    let behind : drop (n + 5) row ≡ drop (5 * length (ds ++ d ∷ [])) w =
    ap (λ (k : ℕ). drop (k + 5) row) (sym front) ∙ drop-append-add (flat ds) (drop n w) 5 ∙ drop-drop 5 n w ∙ ap (λ (k : ℕ). drop k w) next in
    let stored : sets row n (words d) ≡ flat (ds ++ d ∷ []) ++ drop (5 * length (ds ++ d ∷ [])) w =
    sets-eq (words d) row n (omega (arith, size))
    ∙ ap (λ (l : List ℕ). l ++ words d ++ drop (n + 5) row) (take_at (flat ds) (drop n w) n front)
    ∙ ap (λ (l : List ℕ). flat ds ++ words d ++ l) behind
    ∙ ap (λ (l : List ℕ). l ++ drop (5 * length (ds ++ d ∷ [])) w) (sym (flat_append ds (d ∷ []))) in
    rw (size, le-leb (n + 5) (length w) h, stored, more)

over_all : (w : List ℕ) (xs ys : List Diagnostic) → 5 * length (xs ++ ys) ≤ length w → append_all (over w xs) ys ≡ over w (xs ++ ys)
unfolding append_all
over_all w xs [] h = ap (over w) (sym (append-nil xs))
over_all w xs (y ∷ ys) h =
    ap (λ (l : Log). append_all l ys) (over_more w xs y (omega (arith, length-append xs (y ∷ ys))))
    ∙ over_all w (xs ++ y ∷ []) ys (omega (arith, ap length (append_assoc xs (y ∷ []) ys)))
    ∙ ap (over w) (append_assoc xs (y ∷ []) ys)

-- the law
pub append_all_lem : (w : List ℕ) (ds : List Diagnostic) → 5 * length ds ≤ length w → append_all (logged w 0) ds ≡ over w ds
unfolding flat
append_all_lem w ds h = over_all w [] ds h
