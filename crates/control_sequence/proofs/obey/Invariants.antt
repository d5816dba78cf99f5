-- The loop of `control_sequence::obey`: the sequence from its head is the sequence from the start (Obeying.antt). The measure is what is left of the limit.
use Rattle.control_sequence.specs.Sequence.{obey}
use Rattle.control_sequence.proofs.Obeying.{Far}
use Rattle.control_sequence.proofs.obey.Given as goal

abbrev pub invariant-loop-left : goal.invariant-loop-left
invariant-loop-left l = Far l.limit l.l l.fn.start l.fn.memory l.left l.base l.memory (obey l.left l.l l.base l.memory)

abbrev pub decreases-loop-left : goal.decreases-loop-left
decreases-loop-left l = l.left
