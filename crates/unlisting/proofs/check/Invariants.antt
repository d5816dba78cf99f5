-- What `unlisting::check`'s loop keeps: what was found, followed by what is found from here, is what is found from the start (Passing.antt). Assumes nothing.
use Rattle.unlisting.proofs.Passing.{Far}
use Rattle.unlisting.proofs.check.Given as goal

abbrev pub invariant-loop-address : goal.invariant-loop-address
invariant-loop-address l = Far l.text l.low l.high l.fn.from l.standing l.length l.address
