-- Section 'Host operations' of 01, with No. 6 of 02: what each of the operations 1 to 6 and 30 sets in the registers other than the motion, in that order;
-- inputs' file of this name has the others. Which numbers and operands are taken, what is answered and what becomes of the motion is in host's. Assumes nothing.
use Rattle.std.specs.Prelude.{ℕ, Bool, true, false, not, ◌&&◌, ◌||◌, None}
use Rattle.words.specs.Words.{bit, bits, pick}
use Rattle.addresses.specs.declared.DisplayAddress.{DisplayAddress}
use Rattle.addresses.specs.declared.PushdownPointer.{PushdownPointer}
use Rattle.addresses.specs.Addresses.{break_field, address_in}
use Rattle.registers.specs.declared.Base.{Base}
use Rattle.registers.specs.With.{with_conditions, with_address, with_pointer, with_mode, with_datastate, with_running, with_horizontal, with_vertical, with_pen, with_hold, with_request, with_internal, with_external, with_penflag, with_starting, with_upper, with_seven, with_held}

-- the flags that stop are internal stop, external stop, the two edges and the pen (manual 1.1.9, a to d)
abbrev pub stops_off : Base → Base
stops_off b = with_internal (with_external (with_vertical (with_horizontal (with_penflag b false) false) false) false) false

-- 1 start: sets the address to it; clears mode, the flags that stop, request, hold; control state, running; "start and clear drop the held word" (02, No. 4)
abbrev pub started : Base → DisplayAddress → Base
started b a =
    with_held (with_running (with_datastate (with_hold (with_request (stops_off (with_mode (with_address b a) 0)) false) false) false) true) None

-- 2 pointer
abbrev pub pointed : Base → PushdownPointer → Base
pointed b p = with_pointer b p

-- 3 conditions
abbrev pub conditioned : Base → ℕ → Base
conditioned b conditions = with_conditions b conditions

-- 4 resume: if stopped, clears those flags and runs; if the pen flag was on and condition bit 2 is 1, pen enable goes off, and hold goes on if bit 3 is 0
abbrev pub resumed : Base → Bool → Bool → Base
resumed b pen hold = with_running (stops_off (with_hold (with_pen b pen) hold)) true

unfoldable pub resume : Base → Base
resume b =
    let off = b.penflag && bit b.conditions 2 in
    let held = off && not (bit b.conditions 3) in
    pick (not b.running) (resumed b (b.pen && not off) (b.hold || held)) b

-- 5 clear: those flags, the low 12 address bits, mode, request, hold, the held word; control state, stopped
unfoldable pub cleared : Base → Base
cleared b =
    let emptied = with_mode (with_address (stops_off b) (address_in (break_field b.address) 0)) 0 in
    with_held (with_running (with_datastate (with_hold (with_request emptied false) false) false) false) None

-- 6 stop request; none if stopped
abbrev pub requested : Base → Base
requested b = with_request b (b.request || b.running)

-- 30 sets case, code size and starting address "by the manual's RCG layout" (02, No. 6): bit 3, bit 4, bits 6 to 11 (manual 2.3.1.10)
abbrev pub generated : Base → ℕ → Base
generated b w = with_starting (with_seven (with_upper b (bit w 3)) (bit w 4)) (bits w 6 11)
