-- `printout::put_ending` meets its promise: its parts are put one behind the other. Assumes nothing.
use Rattle.text.specs.Text.{bytes}
use Rattle.text.proofs.Puts.{adds_behind}
use Rattle.printout.specs.Printout.{ending_line}
use Rattle.printout.proofs.put_ending.Goals as goal

pub returns : goal.returns
unfolding ending_line bytes
returns c = adds_behind _ _ (adds_behind _ _ (adds_behind _ _ c.put_all.ensures c.put_decimal.ensures) c.put_all-2.ensures) c.put_number.ensures
