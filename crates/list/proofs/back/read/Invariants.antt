-- Each turn passes one stretch, which ends inside the listing.
use Rattle.std.proofs.Common.{length, ◌-◌}
use Rattle.list.proofs.back.read.Given as goal

abbrev pub decreases-loop-at : goal.decreases-loop-at
decreases-loop-at g l = length l.input - l.at
