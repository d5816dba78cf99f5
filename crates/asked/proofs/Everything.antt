-- Who asks for all is lent all of the memory. Assumes nothing.
use Rattle.std.proofs.Common.{◌≡◌, refl}
use Rattle.loan.specs.Loan.{all}
use Rattle.arguments.specs.declared.Asked.{Asked}
use Rattle.arguments.specs.Arguments.{all_lent}
use Rattle.source.specs.declared.Span.{Span}
use Rattle.asked.specs.Asked.{lent}

pub lent-all_lent : (a : Asked) (s : Span) → lent (all_lent a) s ≡ all
unfolding lent
lent-all_lent a s = refl
