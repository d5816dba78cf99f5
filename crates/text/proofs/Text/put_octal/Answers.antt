-- `Text::put_octal` meets its promise: its four figures are put one behind the other. Assumes nothing.
use Rattle.text.specs.Text.{octal}
use Rattle.text.proofs.Puts.{adds_behind}
use Rattle.text.proofs.Text.put_octal.Goals as goal

pub returns : goal.returns
unfolding octal
returns c =
    adds_behind _ _ (adds_behind _ _ (adds_behind _ _ c.put_figure.ensures c.put_figure-2.ensures) c.put_figure-3.ensures) c.put.ensures
