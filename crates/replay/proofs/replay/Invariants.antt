-- The lengths of the buffers stay.
use Rattle.std.proofs.Common.{◌≡◌, length}
use Rattle.replay.proofs.replay.Given as goal

abbrev pub invariant-loop-i : goal.invariant-loop-i
invariant-loop-i g l = record {
  case : length l.case ≡ length l.initial.case;
  work : length l.work ≡ length l.initial.work;
  log : length l.log ≡ length l.initial.log;
  sheet : length l.sheet ≡ length l.initial.sheet;
  output : length l.output ≡ length l.initial.output;
}
