-- `meanings::put_sentence` meets its promise: each arm is a clause of the definition. Assumes nothing.
use Rattle.text.specs.Text.{bytes}
use Rattle.text.proofs.Puts.{adds_behind}
use Rattle.meanings.specs.Meanings.{sentence}
use Rattle.meanings.proofs.put_sentence.Goals as goal

pub returns-in-Refused : goal.returns-in-Refused
unfolding sentence bytes
returns-in-Refused c = rw c.in-Refused.is (adds_behind _ _ c.put_all.ensures c.put_number.ensures)
