-- What `source::read`'s loop keeps: the reading of what is left, from what was read, is the reading of all. Assumes nothing.
use Rattle.std.proofs.Common.{drop, ◌≡◌}
use Rattle.source.specs.Source.{unread, read}
use Rattle.source.proofs.read.Given as goal

abbrev pub invariant-loop-byte : goal.invariant-loop-byte
invariant-loop-byte l = read l.s l.memory (drop l.byte-index l.input) ≡ read unread l.fn.memory l.input
