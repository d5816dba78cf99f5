-- `unlisting::lay` meets its promise: one word more is laid, or the text has no line in form here, or no word is left (Passing.antt). Assumes nothing.
use Rattle.std.proofs.Common.{arith}
use Rattle.unlisting.proofs.Passing.{begin_laying, lays, laid_stops, laid_ends, line_inside}
use Rattle.unlisting.proofs.lay.Goals as goal

pub loop-address-init : goal.loop-address-init
loop-address-init c = begin_laying _ _ _ _ _

pub returns-in_default : goal.returns-in_default
returns-in_default c =
    laid_stops _ _ _ _ _ c.loop-address.invariant c.loop-address-test.true c.shown.ensures c.in_default.ensures

pub overflow_add-length : goal.overflow_add-length
overflow_add-length c =
    omega (arith, line_inside _ _ _ c.loop-address.standing _ c.loop-address.invariant.inside c.loop-address-test.true c.shown.ensures c.in-Some.ensures)

pub loop-address-preserved : goal.loop-address-preserved
loop-address-preserved c =
    lays _ _ _ _ _ c.loop-address.invariant c.loop-address-test.true c.shown.ensures c.in-Some.ensures c.after-standing.ensures

pub returns : goal.returns
returns c = laid_ends _ _ _ _ _ c.loop-address.invariant c.loop-address-test.false
