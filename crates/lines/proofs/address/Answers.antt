-- `lines::address` meets its promise: four digits and a fifth. Assumes nothing.
use native.Mathlib.Omega.{arith}
use Rattle.lines.specs.Lines.{address}
use Rattle.lines.proofs.Reading.{four_small}
use Rattle.lines.proofs.address.Goals as goal

pub overflow_mul-result : goal.overflow_mul-result
unfolding address
overflow_mul-result c = omega (arith, four_small _ _ c.four.ensures)

pub overflow_add-result : goal.overflow_add-result
unfolding address
overflow_add-result c = omega (arith, four_small _ _ c.four.ensures, c.digit.ensures)
