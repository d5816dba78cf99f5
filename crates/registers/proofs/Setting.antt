-- Numbers and the held word in range with one of them set to another in range: one law a number, which every command and operation cites. Assumes nothing.
use Prim.Native.Nat.{ℕ, ◌<◌}
use Rattle.std.specs.Prelude.{Option}
use Rattle.registers.specs.Good.{GoodHeld, GoodNumbers}

module _ {a p u v m s i k c z : ℕ} {h : Option ℕ} (g : GoodNumbers a p u v m s i k c z h) where
  pub address_set : {n : ℕ} → n < 32768 → GoodNumbers n p u v m s i k c z h
  address_set q =
      record { address = q; pointer = g.pointer; x = g.x; y = g.y; mode = g.mode; scale = g.scale; intensity = g.intensity; buttons = g.buttons; conditions = g.conditions; starting = g.starting; held = g.held }

  pub pointer_set : {n : ℕ} → n < 4096 → GoodNumbers a n u v m s i k c z h
  pointer_set q =
      record { address = g.address; pointer = q; x = g.x; y = g.y; mode = g.mode; scale = g.scale; intensity = g.intensity; buttons = g.buttons; conditions = g.conditions; starting = g.starting; held = g.held }

  pub x_set : {n : ℕ} → n < 8192 → GoodNumbers a p n v m s i k c z h
  x_set q =
      record { address = g.address; pointer = g.pointer; x = q; y = g.y; mode = g.mode; scale = g.scale; intensity = g.intensity; buttons = g.buttons; conditions = g.conditions; starting = g.starting; held = g.held }

  pub y_set : {n : ℕ} → n < 8192 → GoodNumbers a p u n m s i k c z h
  y_set q =
      record { address = g.address; pointer = g.pointer; x = g.x; y = q; mode = g.mode; scale = g.scale; intensity = g.intensity; buttons = g.buttons; conditions = g.conditions; starting = g.starting; held = g.held }

  pub mode_set_lem : {n : ℕ} → n < 8 → GoodNumbers a p u v n s i k c z h
  mode_set_lem q =
      record { address = g.address; pointer = g.pointer; x = g.x; y = g.y; mode = q; scale = g.scale; intensity = g.intensity; buttons = g.buttons; conditions = g.conditions; starting = g.starting; held = g.held }

  pub scale_set : {n : ℕ} → n < 4 → GoodNumbers a p u v m n i k c z h
  scale_set q =
      record { address = g.address; pointer = g.pointer; x = g.x; y = g.y; mode = g.mode; scale = q; intensity = g.intensity; buttons = g.buttons; conditions = g.conditions; starting = g.starting; held = g.held }

  pub intensity_set : {n : ℕ} → n < 8 → GoodNumbers a p u v m s n k c z h
  intensity_set q =
      record { address = g.address; pointer = g.pointer; x = g.x; y = g.y; mode = g.mode; scale = g.scale; intensity = q; buttons = g.buttons; conditions = g.conditions; starting = g.starting; held = g.held }

  pub buttons_set : {n : ℕ} → n < 4096 → GoodNumbers a p u v m s i n c z h
  buttons_set q =
      record { address = g.address; pointer = g.pointer; x = g.x; y = g.y; mode = g.mode; scale = g.scale; intensity = g.intensity; buttons = q; conditions = g.conditions; starting = g.starting; held = g.held }

  pub conditions_set : {n : ℕ} → n < 4096 → GoodNumbers a p u v m s i k n z h
  conditions_set q =
      record { address = g.address; pointer = g.pointer; x = g.x; y = g.y; mode = g.mode; scale = g.scale; intensity = g.intensity; buttons = g.buttons; conditions = q; starting = g.starting; held = g.held }

  pub starting_set : {n : ℕ} → n < 64 → GoodNumbers a p u v m s i k c n h
  starting_set q =
      record { address = g.address; pointer = g.pointer; x = g.x; y = g.y; mode = g.mode; scale = g.scale; intensity = g.intensity; buttons = g.buttons; conditions = g.conditions; starting = q; held = g.held }

  pub held_set : {w : Option ℕ} → GoodHeld w → GoodNumbers a p u v m s i k c z w
  held_set q =
      record { address = g.address; pointer = g.pointer; x = g.x; y = g.y; mode = g.mode; scale = g.scale; intensity = g.intensity; buttons = g.buttons; conditions = g.conditions; starting = g.starting; held = q }
