-- How many tapes a line may have.
use Rattle.std.proofs.Common.{ℕ, ◌≤◌, Bool, true, false, cond, ltb, arith}
use Rattle.longest.specs.Line.{tapes_for}

pub record Few (k : ℕ) : Type 0 where
  pub one : 1 ≤ k
  pub five : k ≤ 5

few_by : (a b c d : Bool) → Few (cond a 1 (cond b 2 (cond c 3 (cond d 4 5))))
few_by true b c d = record { one = omega arith; five = omega arith }
few_by false true c d = record { one = omega arith; five = omega arith }
few_by false false true d = record { one = omega arith; five = omega arith }
few_by false false false true = record { one = omega arith; five = omega arith }
few_by false false false false = record { one = omega arith; five = omega arith }

pub few_tapes : (h : ℕ) → Few (tapes_for h)
few_tapes h = few_by (ltb h 14) (ltb h 21) (ltb h 28) (ltb h 37)
