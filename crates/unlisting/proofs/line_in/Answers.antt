-- `unlisting::line_in` meets its promise: the line of the word stands in the list whole, and is held against the text. Assumes nothing.
use Rattle.std.proofs.Common.{refl}
use Rattle.listed_lines.proofs.Line.{written}
use Rattle.unlisting.proofs.Passing.{line_found, line_none}
use Rattle.unlisting.proofs.line_in.Goals as goal

pub returns-then-starts_with : goal.returns-then-starts_with
returns-then-starts_with c =
    line_found _ _ _ c.word_in-word.ensures (written _ _ _ _ refl (rw c.new-written.ensures.empty at c.put_line.ensures.put)) (rw c.as_bytes.ensures at c.starts_with.ensures.value) c.if-starts_with.true

pub returns-else-starts_with : goal.returns-else-starts_with
returns-else-starts_with c =
    line_none _ _ _ c.word_in-word.ensures (written _ _ _ _ refl (rw c.new-written.ensures.empty at c.put_line.ensures.put)) (rw c.as_bytes.ensures at c.starts_with.ensures.value) c.if-starts_with.false
