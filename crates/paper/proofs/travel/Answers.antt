-- `paper::travel` meets its promise: the remainder tells whether the offset grows (advance_told). Assumes nothing.
use Rattle.std.proofs.Common.{arith}
use Rattle.paper.specs.DataWords.{travel}
use Rattle.paper.proofs.Lines.{owed_below, advance_told}
use Rattle.paper.proofs.travel.Goals as goal

pub overflow_add-reach : goal.overflow_add-reach
unfolding travel
overflow_add-reach c = let a = c.args in record { fits = rw c.owed.ensures (omega (arith, owed_below a.done a.magnitude a.moves)) }

pub returns : goal.returns
unfolding travel
returns c = let a = c.args in rw (c.pick.ensures, c.owed.ensures, advance_told a.done a.magnitude a.moves)
