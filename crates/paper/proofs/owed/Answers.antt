-- `paper::owed` meets its promise: the remainder of the product, doubled, is brought below twice the moves (owed_halved). Assumes nothing.
use Rattle.std.proofs.Common.{sym, ◌∙◌, arith, le-ltb, lt-ltb}
use Rattle.words.specs.Words.{pick}
use Rattle.paper.specs.Arithmetic.{owed}
use Rattle.paper.proofs.Lines.{owed_halved}
use Rattle.paper.proofs.owed.Goals as goal

pub returns-then-over-whole : goal.returns-then-over-whole
unfolding owed pick
returns-then-over-whole c = let a = c.args in sym (owed_halved a.done a.magnitude a.moves (omega arith) ∙ rw (lt-ltb _ _ c.if-over-whole.true))

pub returns-else-over-whole : goal.returns-else-over-whole
unfolding owed pick
returns-else-over-whole c = let a = c.args in sym (owed_halved a.done a.magnitude a.moves (omega arith) ∙ rw (le-ltb _ _ c.if-over-whole.false))
