-- `mnemonics::rest` meets its promise: one row less may cover bits, and at the end none is left (Going.antt). Assumes nothing.
use Rattle.std.proofs.Common.{◌∙◌}
use Rattle.mnemonics.specs.Mnemonics.{rows}
use Rattle.mnemonics.proofs.Table.{pattern_at}
use Rattle.mnemonics.proofs.Going.{rest_next, rest_last}
use Rattle.mnemonics.proofs.rest.Goals as goal

pub loop-row-preserved : goal.loop-row-preserved
unfolding rows
loop-row-preserved c = rw c.uncovered-left.ensures (rest_next rows _ _ _ _ _ c.loop-row-test.true (pattern_at _ _ c.loop-row-test.true)) ∙ c.loop-row.invariant

pub returns : goal.returns
unfolding rows
returns c = rest_last rows _ _ _ c.loop-row.auto.row-index-end c.loop-row-test.false ∙ c.loop-row.invariant
