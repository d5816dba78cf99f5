-- `control_characters::starting_by` meets its promise: the bits are the callees', and both halves together fit eight bits (Halves.antt). Assumes nothing.
use native.Mathlib.Omega.{arith}
use Rattle.control_characters.specs.ControlCharacters.{starting_by}
use Rattle.control_characters.proofs.Halves.{high_small, low_small}
use Rattle.control_characters.proofs.starting_by.Goals as goal

pub overflow_mul-result : goal.overflow_mul-result
unfolding starting_by
overflow_mul-result c = let a = c.args in
    record { fits = rw (c.pick-high.ensures, c.bits.ensures) (omega (arith, high_small c.bit.result a.word a.old 31 (omega arith) (omega arith))) }

pub overflow_add-result : goal.overflow_add-result
unfolding starting_by
overflow_add-result c = let a = c.args in
    record {
      fits = rw (c.pick-low.ensures, c.bits-2.ensures, c.pick-high.ensures, c.bits.ensures)
          (omega (arith, high_small c.bit.result a.word a.old 31 (omega arith) (omega arith), low_small c.bit-2.result a.word a.old));
    }
