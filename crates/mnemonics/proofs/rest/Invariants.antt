-- What `mnemonics::rest`'s loop keeps: what the rows from here leave of what is left is the rest. Assumes nothing.
use Rattle.std.proofs.Common.{drop, ◌≡◌}
use Rattle.mnemonics.specs.Mnemonics.{rows, rest, rest_in}
use Rattle.mnemonics.proofs.rest.Given as goal

abbrev pub invariant-loop-row : goal.invariant-loop-row
invariant-loop-row l = rest_in (drop l.row-index rows) l.word l.left ≡ rest l.word
