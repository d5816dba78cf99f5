-- The registers with one of them set: `with_x b v` is b with v for x and every other register as it was. One definition a register, in the struct's order.
-- Printed by tests/with from the struct Base in src/lib.rt; after a change there: tests/with > crates/registers/specs/With.antt
use Rattle.std.specs.Prelude.{ℕ, Bool, Option}
use Rattle.addresses.specs.declared.DisplayAddress.{DisplayAddress}
use Rattle.addresses.specs.declared.PushdownPointer.{PushdownPointer}
use Rattle.registers.specs.declared.Base.{Base}

abbrev pub with_x : Base → ℕ → Base
with_x b v = record b { x = v }

abbrev pub with_y : Base → ℕ → Base
with_y b v = record b { y = v }

abbrev pub with_conditions : Base → ℕ → Base
with_conditions b v = record b { conditions = v }

abbrev pub with_address : Base → DisplayAddress → Base
with_address b v = record b { address = v }

abbrev pub with_pointer : Base → PushdownPointer → Base
with_pointer b v = record b { pointer = v }

abbrev pub with_buttons : Base → ℕ → Base
with_buttons b v = record b { buttons = v }

abbrev pub with_scale : Base → ℕ → Base
with_scale b v = record b { scale = v }

abbrev pub with_intensity : Base → ℕ → Base
with_intensity b v = record b { intensity = v }

abbrev pub with_mode : Base → ℕ → Base
with_mode b v = record b { mode = v }

abbrev pub with_starting : Base → ℕ → Base
with_starting b v = record b { starting = v }

abbrev pub with_datastate : Base → Bool → Base
with_datastate b v = record b { datastate = v }

abbrev pub with_pen : Base → Bool → Base
with_pen b v = record b { pen = v }

abbrev pub with_running : Base → Bool → Base
with_running b v = record b { running = v }

abbrev pub with_horizontal : Base → Bool → Base
with_horizontal b v = record b { horizontal = v }

abbrev pub with_vertical : Base → Bool → Base
with_vertical b v = record b { vertical = v }

abbrev pub with_idle : Base → Bool → Base
with_idle b v = record b { idle = v }

abbrev pub with_blink : Base → Bool → Base
with_blink b v = record b { blink = v }

abbrev pub with_hold : Base → Bool → Base
with_hold b v = record b { hold = v }

abbrev pub with_request : Base → Bool → Base
with_request b v = record b { request = v }

abbrev pub with_sense : Base → Bool → Base
with_sense b v = record b { sense = v }

abbrev pub with_hit1 : Base → Bool → Base
with_hit1 b v = record b { hit1 = v }

abbrev pub with_hit2 : Base → Bool → Base
with_hit2 b v = record b { hit2 = v }

abbrev pub with_internal : Base → Bool → Base
with_internal b v = record b { internal = v }

abbrev pub with_external : Base → Bool → Base
with_external b v = record b { external = v }

abbrev pub with_penflag : Base → Bool → Base
with_penflag b v = record b { penflag = v }

abbrev pub with_manual : Base → Bool → Base
with_manual b v = record b { manual = v }

abbrev pub with_upper : Base → Bool → Base
with_upper b v = record b { upper = v }

abbrev pub with_seven : Base → Bool → Base
with_seven b v = record b { seven = v }

abbrev pub with_held : Base → Option ℕ → Base
with_held b v = record b { held = v }
