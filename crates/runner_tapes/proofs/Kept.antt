-- What a run relies on: heads at position 0 stand on their tapes, and so do heads that were moved.
use mathlib.Core.Path.{◌≡◌, sym, subst}
use Prim.Native.Nat.{ℕ, zero, suc, ◌*◌, ◌≤◌, ◌<◌}
use native.Mathlib.Omega.{arith}
use mathlib.Core.List.{List}
use lib.ListN.{replicate}
use Rattle.std.specs.Prelude.{Some, option_map}
use Rattle.language.specs.Machine.{Dir}
use Rattle.language.proofs.Every.{Every}
use Rattle.running.specs.Step.{moved}
use Rattle.running.proofs.Cells.{Near, moved_near}
use Rattle.running.proofs.Starts.{every_replicate}
use Rattle.runner_tapes.specs.declared.Heads.{Heads}
use Rattle.runner_tapes.specs.Shown.{heads_of, Stands}

-- heads that stand are near, if near is as far as a tape is long
near : (half a : ℕ) → a < 2 * half → Near half (2 * half) a
near half a i = record { on_tape = i; within = omega arith }

pub stands_near : (tapes half : ℕ) (h : Heads) → Stands tapes half h → Every (Near half (2 * half)) (heads_of tapes h)
unfolding heads_of
stands_near tapes half h w = go tapes w.least w.most w.second_in w.third_in
  where
    go : (t : ℕ) → 1 ≤ t → t ≤ 3 → (2 ≤ t → h.second < 2 * half) → (3 ≤ t → h.third < 2 * half)
        → Every (Near half (2 * half)) (heads_of t h)
    go zero l m s u = absurd (omega arith)
    go (suc zero) l m s u = unfold heads_of in (near half h.first w.first_in, tt)
    go (suc (suc zero)) l m s u =
        unfold heads_of in (near half h.first w.first_in, (near half h.second (s (omega arith)), tt))
    go (suc (suc (suc zero))) l m s u =
        let a = near half h.first w.first_in in
        let b = near half h.second (s (omega arith)) in
        let c = near half h.third (u (omega arith)) in
        unfold heads_of in (a, (b, (c, tt)))
    go (suc (suc (suc (suc t)))) l m s u = absurd (omega arith)

-- and near heads stand
pub near_stands : (tapes half d : ℕ) (h : Heads) → 1 ≤ tapes → tapes ≤ 3 → Every (Near half d) (heads_of tapes h)
    → Stands tapes half h
unfolding heads_of
near_stands zero half d h l m n = absurd (omega arith)
near_stands (suc zero) half d h l m n = record {
  least = l;
  most = m;
  first_in = n.0.on_tape;
  second_in = λ i. absurd (omega arith);
  third_in = λ i. absurd (omega arith);
}
near_stands (suc (suc zero)) half d h l m n = record {
  least = l;
  most = m;
  first_in = n.0.on_tape;
  second_in = λ i. n.1.0.on_tape;
  third_in = λ i. absurd (omega arith);
}
near_stands (suc (suc (suc zero))) half d h l m n = record {
  least = l;
  most = m;
  first_in = n.0.on_tape;
  second_in = λ i. n.1.0.on_tape;
  third_in = λ i. n.1.1.0.on_tape;
}
near_stands (suc (suc (suc (suc t)))) half d h l m n = absurd (omega arith)

-- heads at position 0 stand
pub start_stands : (tapes half : ℕ) (h : Heads) → 1 ≤ tapes → tapes ≤ 3 → 1 ≤ half → heads_of tapes h ≡ replicate tapes half
    → Stands tapes half h
start_stands tapes half h l m r e =
    let at : Near half (2 * half) half = near half half (omega arith) in
    near_stands tapes half (2 * half) h l m
    (subst (Every (Near half (2 * half))) (sym e) (every_replicate (Near half (2 * half)) tapes half at))

-- heads that were moved stand
pub moved_stands : (tapes half : ℕ) (ds : List Dir) (h to : Heads) → Stands tapes half h
    → option_map (heads_of tapes) (Some to) ≡ moved half ds (heads_of tapes h) → Stands tapes half to
moved_stands tapes half ds h to w e =
    let n = moved_near half (2 * half) ds (heads_of tapes h) (heads_of tapes to) (stands_near tapes half h w) (sym e) in
    near_stands tapes half (suc (2 * half)) to w.least w.most n
