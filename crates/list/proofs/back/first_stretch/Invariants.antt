-- No more lines are counted than places were passed.
use Rattle.std.proofs.Common.{◌≤◌}
use Rattle.list.proofs.back.first_stretch.Given as goal

abbrev pub invariant-loop-at : goal.invariant-loop-at
invariant-loop-at l = l.further ≤ l.at
