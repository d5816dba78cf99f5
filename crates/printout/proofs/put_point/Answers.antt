-- `printout::put_point` meets its promise: its parts are put one behind the other. Assumes nothing.
use Rattle.text.proofs.Puts.{adds_behind}
use Rattle.printout.specs.Printout.{point_line}
use Rattle.printout.proofs.put_point.Goals as goal

pub returns : goal.returns
unfolding point_line
returns c =
    rw (← c.point_x.ensures, ← c.point_y.ensures, ← c.point_intensity.ensures, ← c.point_blink.ensures, ← c.point_word.ensures)
    (adds_behind _ _
    (adds_behind _ _ (adds_behind _ _ (adds_behind _ _ (adds_behind _ _ c.put_number.ensures c.put_number-2.ensures) c.put_number-3.ensures) c.put_number-4.ensures)
    c.put_address.ensures)
    c.put.ensures)
