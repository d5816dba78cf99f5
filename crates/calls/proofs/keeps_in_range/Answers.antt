-- `calls::keeps_in_range` meets its promise: the theorem is proved in Kept.antt. Assumes nothing.
use Rattle.calls.proofs.Kept.{keeps}
use Rattle.calls.proofs.keeps_in_range.Goals as goal

pub returns : goal.returns
returns c = keeps
