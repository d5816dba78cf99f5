-- `calls::makes_entries` meets its promise: the theorem is proved in Entries.antt. Assumes nothing.
use Rattle.calls.proofs.Entries.{makes}
use Rattle.calls.proofs.makes_entries.Goals as goal

pub returns : goal.returns
returns c = makes
