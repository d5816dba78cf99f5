-- `meanings::put_ended` meets its promise: its parts are put one behind the other. Assumes nothing.
use Rattle.text.specs.Text.{bytes}
use Rattle.text.proofs.Puts.{adds_behind}
use Rattle.meanings.specs.Meanings.{ended_sentence}
use Rattle.meanings.proofs.put_ended.Goals as goal

pub returns : goal.returns
unfolding ended_sentence bytes
returns c = adds_behind _ _ (adds_behind _ _ (adds_behind _ _ (adds_behind _ _ (adds_behind _ _ (adds_behind _ _ c.put_all.ensures (rw c.ending_numbers-told.ensures at c.put_decimal.ensures)) (rw c.ending_numbers-told.ensures at c.put_stopped.ensures)) c.put_all-2.ensures) c.put_beats.ensures) c.put_meaning.ensures) c.put.ensures
