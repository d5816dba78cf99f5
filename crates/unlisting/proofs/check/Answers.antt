-- `unlisting::check` meets its promise: one line more is found, or the text has no line in form here, or no word is left (Passing.antt). Assumes nothing.
use Rattle.std.proofs.Common.{arith}
use Rattle.unlisting.proofs.Passing.{begin, next, stops, line_inside, all_read, more_behind}
use Rattle.unlisting.proofs.check.Goals as goal

pub loop-address-init : goal.loop-address-init
loop-address-init c = begin _ _ _ _

pub returns-in_default : goal.returns-in_default
returns-in_default c =
    rw c.not_in_form.ensures
    (stops _ _ _ _ c.loop-address.invariant c.loop-address.auto.address c.loop-address-test.true c.shown.ensures c.in_default.ensures)

pub overflow_add-length : goal.overflow_add-length
overflow_add-length c =
    omega (arith, line_inside _ _ _ c.loop-address.standing _ c.loop-address.invariant.inside c.loop-address-test.true c.shown.ensures c.in-Some.ensures)

pub loop-address-preserved : goal.loop-address-preserved
loop-address-preserved c = next _ _ _ _ c.loop-address.invariant c.loop-address-test.true c.shown.ensures c.in-Some.ensures c.after-standing.ensures

pub returns-then-length-text : goal.returns-then-length-text
returns-then-length-text c =
    all_read _ _ _ _ c.loop-address.invariant c.loop-address.auto.address (omega (arith, c.loop-address.auto.address-end, c.requires)) c.if-length-text.true

pub returns-else-length-text : goal.returns-else-length-text
returns-else-length-text c =
    rw c.not_in_form-else-length-text.ensures
    (more_behind _ _ _ _ c.loop-address.invariant c.loop-address.auto.address (omega (arith, c.loop-address.auto.address-end, c.requires)) c.if-length-text.false)
