-- What is read is read of the argument.
use Rattle.std.proofs.Common.{rules}
use Rattle.console.proofs.value_of.Goals as goal

pub returns : goal.returns
returns g c = (c.argument-argument.result.now, search rules)
