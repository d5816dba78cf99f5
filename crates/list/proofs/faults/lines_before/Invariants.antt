-- No more lines end than bytes were passed.
use Rattle.std.proofs.Common.{◌≤◌}
use Rattle.list.proofs.faults.lines_before.Given as goal

abbrev pub invariant-loop-byte : goal.invariant-loop-byte
invariant-loop-byte l = l.count ≤ l.byte-index
