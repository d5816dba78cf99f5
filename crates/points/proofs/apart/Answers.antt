-- `points::apart` meets its promise: the theorem is proved in TakenApart.antt. Assumes nothing.
use Rattle.points.proofs.TakenApart.{apart}
use Rattle.points.proofs.apart.Goals as goal

pub returns : goal.returns
returns c = apart
