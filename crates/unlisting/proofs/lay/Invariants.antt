-- What `unlisting::lay`'s loop keeps: the words from here, laid into the memory, make it what all words make it (Passing.antt). Assumes nothing.
use Rattle.unlisting.proofs.Passing.{Laid}
use Rattle.unlisting.proofs.lay.Given as goal

abbrev pub invariant-loop-address : goal.invariant-loop-address
invariant-loop-address l = Laid l.text l.fn.memory l.low l.high l.fn.from l.memory l.standing l.length l.address
