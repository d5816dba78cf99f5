-- `host::accepted` meets its promise: the tests stand in the definition's order, and an operand that is taken has 16 bits. Assumes nothing.
use mathlib.Core.Path.{sym, ◌∙◌}
use Rattle.words.specs.Words.{pick}
use Rattle.host.specs.HostOperations.{operate}
use Rattle.host.proofs.Operands.{taken_small}
use Rattle.host.proofs.accepted.Goals as goal

pub returns : goal.returns
unfolding operate pick
returns c =
    let named = c.in_ok-operation.ensures in
    let within = taken_small _ _ (sym c.takes.ensures ∙ c.if-not-takes.false) in
    (within, rw (sym c.in_range.ensures ∙ c.if-not-in_range.false, named.0, ← named.1, sym c.takes.ensures ∙ c.if-not-takes.false))
