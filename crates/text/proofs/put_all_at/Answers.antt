-- `text::put_all_at` meets its promise: one byte more is put, and at the end none is left. Assumes nothing.
use Rattle.std.proofs.Common.{◌∙◌}
use Rattle.text.proofs.Puts.{puts_next, puts_last}
use Rattle.text.proofs.put_all_at.Goals as goal

pub loop-byte-preserved : goal.loop-byte-preserved
loop-byte-preserved c = puts_next _ _ _ c.loop-byte-test.true c.put_at-at.ensures ∙ c.loop-byte.invariant

pub returns : goal.returns
returns c = puts_last _ _ _ c.loop-byte.auto.byte-index-end c.loop-byte-test.false ∙ c.loop-byte.invariant
