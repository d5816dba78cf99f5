-- An entry of the point list made of parts in range: every entry that a run makes is one (calls' Calls.antt), and `points` takes just these parts out of it again
-- (its Points.antt). Assumes nothing.
use Rattle.std.specs.Prelude.{◌≡◌, ℕ, ◌<◌, Bool, true}
use Rattle.paper.specs.DataWords.{sector_zero, point}

pub record Entry (p : ℕ) : Type 0 where
  pub x : ℕ
  pub y : ℕ
  pub intensity : ℕ
  pub blink : Bool
  pub lastword : ℕ
  -- on the screen, intensity 0 to 7, a 15-bit address
  pub screen : sector_zero x y ≡ true
  pub bright : intensity < 8
  pub addressed : lastword < 32768
  pub whole : p ≡ point x y intensity blink lastword
