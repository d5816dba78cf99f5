-- `Text::put_decimal` meets its promise: its five figures are put one behind the other. Assumes nothing.
use Rattle.text.specs.Text.{decimal}
use Rattle.text.proofs.Puts.{adds_behind}
use Rattle.text.proofs.Text.put_decimal.Goals as goal

pub returns : goal.returns
unfolding decimal
returns c =
    adds_behind _ _ (adds_behind _ _ (adds_behind _ _ (adds_behind _ _ c.put_figure.ensures c.put_figure-2.ensures) c.put_figure-3.ensures) c.put_figure-4.ensures)
    c.put.ensures
