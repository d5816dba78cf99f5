-- `numbers::faithful` meets its promise: the theorem is proved in Back.antt and Again.antt. Assumes nothing.
use Rattle.numbers.proofs.Again.{faithful}
use Rattle.numbers.proofs.faithful.Goals as goal

pub returns : goal.returns
returns c = faithful
