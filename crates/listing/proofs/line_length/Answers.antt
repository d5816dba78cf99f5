-- `listing::line_length` meets its promise: the line fits the list that it is put into. Assumes nothing.
use mathlib.Core.Path.{refl}
use Rattle.listed_lines.proofs.Line.{written}
use Rattle.listing.proofs.line_length.Goals as goal

pub returns : goal.returns
returns c = (written _ _ _ _ refl (rw c.new-text.ensures.empty at c.put_line.ensures.put)).place
