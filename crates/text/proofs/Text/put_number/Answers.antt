-- `Text::put_number` meets its promise: the byte is put behind the number. Assumes nothing.
use Rattle.text.specs.Text.{number}
use Rattle.text.proofs.Puts.{adds_behind}
use Rattle.text.proofs.Text.put_number.Goals as goal

pub returns : goal.returns
unfolding number
returns c = adds_behind _ _ c.put_decimal.ensures c.put.ensures
