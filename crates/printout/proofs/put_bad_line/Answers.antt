-- `printout::put_bad_line` meets its promise: its parts are put one behind the other. Assumes nothing.
use Rattle.text.specs.Text.{bytes}
use Rattle.text.proofs.Puts.{adds_behind}
use Rattle.printout.specs.Printout.{bad_line}
use Rattle.printout.proofs.put_bad_line.Goals as goal

pub returns : goal.returns
unfolding bad_line bytes
returns c = adds_behind _ _ c.put_all.ensures c.put_number.ensures
