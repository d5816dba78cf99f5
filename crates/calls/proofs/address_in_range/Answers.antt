-- `calls::address_in_range` meets its promise: the theorem is proved in Told.antt. Assumes nothing.
use Rattle.calls.proofs.Told.{told}
use Rattle.calls.proofs.address_in_range.Goals as goal

pub returns : goal.returns
returns c = told
