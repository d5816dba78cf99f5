-- `listing::measure` meets its promise: one word more is measured, or it is above 4,095, and at the end none is left (Going.antt). Assumes nothing.
use Rattle.std.proofs.Common.{refl, ◌∙◌, arith}
use Rattle.listed_lines.proofs.Line.{length-line}
use Rattle.listing.proofs.Going.{also_nothing, measured_next, measured_wide, measured_last}
use Rattle.listing.proofs.measure.Goals as goal

pub loop-address-init : goal.loop-address-init
loop-address-init c = record { small = omega arith; all = also_nothing _ }

pub returns-then-word-gt-LARGEST : goal.returns-then-word-gt-LARGEST
returns-then-word-gt-LARGEST c =
    measured_wide _ _ _ _ c.requires.1 c.loop-address-test.true refl refl c.if-word-gt-LARGEST.true _ ∙ c.loop-address.invariant.all

pub overflow_add-total : goal.overflow_add-total
overflow_add-total c = omega (arith, length-line _ _ _ c.line_length-total.ensures)

pub loop-address-preserved : goal.loop-address-preserved
loop-address-preserved c =
    let v = c.loop-address.invariant in
    record {
      small = omega (arith, length-line _ _ _ c.line_length-total.ensures);
      all =
          rw (c.line_length-total.ensures, c.shown.ensures)
          (measured_next _ _ _ _ c.requires.1 c.loop-address-test.true refl c.after-standing.ensures c.if-word-gt-LARGEST.false c.loop-address.total) ∙ v.all;
    }

pub returns : goal.returns
returns c =
    measured_last _ _ _ _ c.loop-address-test.false (c.loop-address.auto.address-end c.requires.0) _ ∙ c.loop-address.invariant.all
