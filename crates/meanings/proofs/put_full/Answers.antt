-- `meanings::put_full` meets its promise: its parts are put one behind the other. Assumes nothing.
use Rattle.text.specs.Text.{bytes}
use Rattle.text.proofs.Puts.{adds_behind}
use Rattle.meanings.specs.Meanings.{failure}
use Rattle.meanings.proofs.put_full.Goals as goal

pub returns : goal.returns
unfolding failure bytes
returns c = adds_behind _ _ (adds_behind _ _ c.put_all.ensures c.put_decimal.ensures) c.put_all-2.ensures
