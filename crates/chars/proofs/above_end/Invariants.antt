-- The loop's invariant: what the contract says from here on is what it says from the start.
use Rattle.std.proofs.Common.{◌≡◌, ◌+◌, ◌-◌, ◌≤◌, length, drop}
use Rattle.std.specs.Prelude.{take_while}
use Rattle.chars.specs.Utf8.{sizes, decode}
use Rattle.chars.specs.Short.{is_short}
use Rattle.chars.proofs.above_end.Given as goal

abbrev pub invariant-loop-next : goal.invariant-loop-next
invariant-loop-next l =
    (l.i ≤ length l.text) × (l.i + sizes (take_while is_short (decode (drop l.i l.text))) ≡ l.fn.at + sizes (take_while is_short (decode (drop l.fn.at l.text))))

abbrev pub decreases-loop-next : goal.decreases-loop-next
decreases-loop-next l = length l.text - l.i
