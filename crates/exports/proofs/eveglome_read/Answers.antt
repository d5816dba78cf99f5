-- `exports::eveglome_read` meets its promise: every part is a callee's, and what does not fit is refused alike (Narrow.antt). Assumes nothing.
use mathlib.Core.Path.{ap, ◌∙◌}
use Rattle.exports.specs.Exports.{read_as, reads}
use Rattle.exports.proofs.Counts.{reading_length}
use Rattle.exports.proofs.Narrow.{reading_alike}
use Rattle.exports.proofs.eveglome_read.Goals as goal

pub told_listing-requires : goal.told_listing-requires
unfolding reads
told_listing-requires c = rw c.numbered.ensures (reading_length c.read-reading.result)

pub returns : goal.returns
unfolding reads
returns c = rw (c.told_listing.ensures, c.numbered.ensures)
    (ap read_as
    (c.read-reading.ensures
    ∙ reading_alike _ _ _ _ c.narrow_end.ensures c.narrow_end-2.ensures c.narrow_start.ensures c.narrow_start-2.ensures _ _))
