-- Skips on the buttons keep registers in range. Assumes nothing.
use Prim.Native.Nat.{ℕ, ◌<◌}
use mathlib.Core.Bool.{Bool}
use native.Mathlib.Omega.{arith}
use Rattle.words.proofs.Laws.{pick_case}
use Rattle.registers.specs.declared.Base.{Base}
use Rattle.registers.specs.Good.{GoodBase}
use Rattle.registers.proofs.Setting.{buttons_set}
use Rattle.skips.proofs.Kept.{skipping_good}
use Rattle.button_skips.specs.ControlWords.{with_byte, button_skip, compare}

byte_small : (word byte : ℕ) (right : Bool) → word < 4096 → with_byte word right byte < 4096
unfolding with_byte
byte_small word byte right h = pick_case (λ (n : ℕ). n < 4096) right (λ _. omega arith) (λ _. omega arith)

pub button_skip_good : (b : Base) (w : ℕ) (second : Bool) → GoodBase b → GoodBase (button_skip b w second)
unfolding button_skip
button_skip_good b w second g = buttons_set (skipping_good b _ g) (byte_small _ _ second g.buttons)

pub compare_good : (b : Base) (w : ℕ) (second : Bool) → GoodBase b → GoodBase (compare b w second)
unfolding compare
compare_good b w second g = skipping_good b _ g
