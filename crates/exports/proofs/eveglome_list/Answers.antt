-- `exports::eveglome_list` meets its promise: every part is a callee's, and what does not fit is refused alike (Narrow.antt). Assumes nothing.
use mathlib.Core.Path.{ap, subst, sym, ◌∙◌}
use Rattle.listing.proofs.Longest.{Short, answer_length}
use Rattle.exports.specs.Exports.{listed_as, lists}
use Rattle.exports.proofs.Narrow.{listed_alike}
use Rattle.exports.proofs.eveglome_list.Goals as goal

pub told_listing-requires : goal.told_listing-requires
unfolding lists
told_listing-requires c = rw c.numbered.ensures (subst Short (sym c.list-listed.ensures) (answer_length _ _ _ _ _ _))

pub returns : goal.returns
unfolding lists
returns c = rw (c.told_listing.ensures, c.numbered.ensures)
    (ap listed_as
    (c.list-listed.ensures
    ∙ listed_alike _ _ _ _ c.narrow_end.ensures c.narrow_end-2.ensures c.narrow_start.ensures c.narrow_start-2.ensures _ _))
