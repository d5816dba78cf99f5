-- `host::keeps_in_range` meets its promise: the theorem is proved in Kept.antt. Assumes nothing.
use Rattle.host.proofs.Kept.{keeps}
use Rattle.host.proofs.keeps_in_range.Goals as goal

pub returns : goal.returns
returns c = keeps
