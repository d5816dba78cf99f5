-- `numbers::row_of` meets its promise: the motion is laid into the row of the other registers. Assumes nothing.
use Rattle.numbers.proofs.Laid.{row_laid}
use Rattle.numbers.proofs.row_of.Goals as goal

pub returns : goal.returns
returns c = row_laid _ c.still_row-row.ensures c.lay.ensures
