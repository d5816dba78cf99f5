-- What `lines::read`'s loop keeps: what is read so far, followed by the definition's reading from here, is its reading from the start (Reading.antt). Assumes nothing.
use Rattle.lines.proofs.Reading.{Far}
use Rattle.lines.proofs.read.Given as goal

abbrev pub invariant-loop-count : goal.invariant-loop-count
invariant-loop-count l = Far 4096 l.input l.fn.memory l.count l.memory
