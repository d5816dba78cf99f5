-- `paper::line_rule` meets its promise: the theorem is proved in Lines.antt. Assumes nothing.
use Rattle.paper.proofs.Lines.{same_rule}
use Rattle.paper.proofs.line_rule.Goals as goal

pub returns : goal.returns
returns c = same_rule
