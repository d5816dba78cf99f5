-- `calls::call` meets its promise: registers that the test lets through are good. Assumes nothing.
use Rattle.std.proofs.Common.{sym, ◌∙◌}
use Rattle.registers.proofs.InRange.{good}
use Rattle.calls.proofs.call.Goals as goal

pub enter-requires : goal.enter-requires
enter-requires c = good _ (sym c.in_range.ensures ∙ c.if-not-in_range.false)
