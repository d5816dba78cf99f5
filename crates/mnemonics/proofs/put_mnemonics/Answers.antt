-- `mnemonics::put_mnemonics` meets its promise: the rest is put behind the names. Assumes nothing.
use Rattle.text.proofs.Puts.{adds_behind}
use Rattle.mnemonics.specs.Mnemonics.{mnemonics}
use Rattle.mnemonics.proofs.put_mnemonics.Goals as goal

pub returns : goal.returns
unfolding mnemonics
returns c = rw (← c.rest.ensures) (adds_behind _ _ c.put_names.ensures c.put_rest.ensures)
