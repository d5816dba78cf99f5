-- `meanings::put_touch` meets its promise: its parts are put one behind the other. Assumes nothing.
use Rattle.text.proofs.Puts.{adds_behind}
use Rattle.meanings.proofs.put_touch.Goals as goal

pub returns : goal.returns
returns c = adds_behind _ _ (adds_behind _ _ c.put_all.ensures (rw c.number.ensures at c.put_address.ensures)) c.put_all-2.ensures
