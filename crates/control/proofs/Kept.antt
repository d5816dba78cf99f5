-- Words 0 to 3 keep registers in range: each field of a word is no wider than the register that it goes into. Assumes nothing.
use Prim.Native.Nat.{ℕ, ◌%◌, ◌<◌}
use mathlib.Core.Bool.{not}
use native.Mathlib.Omega.{arith}
use Rattle.words.specs.Words.{bit, pick}
use Rattle.words.proofs.Laws.{pick_case}
use Rattle.addresses.specs.Addresses.{address_after, address_in, pointer_after, pointer_before}
use Rattle.registers.specs.declared.Base.{Base}
use Rattle.registers.specs.Good.{GoodBase}
use Rattle.registers.proofs.Setting.{address_set, pointer_set, x_set, y_set, mode_set_lem, scale_set, intensity_set}
use Rattle.control.specs.ControlWords.{scale_by, intensity_by, parameter, coordinate, mode, jump, push, pop}

pub scale_small : (w : ℕ) {old : ℕ} → old < 4 → scale_by w old < 4
unfolding scale_by
scale_small w h = pick_case (λ (n : ℕ). n < 4) (bit w 3) (λ _. omega arith) (λ _. h)

pub intensity_small : (w : ℕ) {old : ℕ} → old < 8 → intensity_by w old < 8
unfolding intensity_by
intensity_small w h = pick_case (λ (n : ℕ). n < 8) (bit w 8) (λ _. omega arith) (λ _. h)

coordinate_small : (w v : ℕ) → v < 8192 → coordinate w v < 8192
unfolding coordinate
coordinate_small w v h =
    let low : pick (bit w 9) (v % 1024) v < 8192 = pick_case (λ (n : ℕ). n < 8192) (bit w 9) (λ _. omega arith) (λ _. h) in
    pick_case (λ (n : ℕ). n < 8192) (bit w 10) (λ _. omega (arith, low)) (λ _. low)

pub parameter_good : (b : Base) (w : ℕ) → GoodBase b → GoodBase (parameter b w)
unfolding parameter address_after
parameter_good b w g =
    intensity_set (scale_set (address_set g (omega arith)) (scale_small w g.scale)) (intensity_small w g.intensity)

pub mode_good : (b : Base) (w : ℕ) → GoodBase b → GoodBase (mode b w)
unfolding mode address_after
mode_good b w g =
    mode_set_lem (y_set (x_set (address_set g (omega arith)) (coordinate_small w _ g.x)) (coordinate_small w _ g.y))
    (pick_case (λ (n : ℕ). n < 8) (bit w 5) (λ _. omega arith) (λ _. g.mode))

pub jump_good : (b : Base) (w v : ℕ) → GoodBase b → GoodBase (jump b w v)
unfolding jump address_in
jump_good b w v g = scale_set (address_set g (omega arith)) (scale_small w g.scale)

pub push_good : (b : Base) (w v : ℕ) → GoodBase b → GoodBase (push b w v)
unfolding push pointer_after
push_good b w v g = jump_good _ w v (pointer_set g (omega arith))

pub pop_good : (b : Base) (w first second : ℕ) → GoodBase b → GoodBase (pop b w first second)
unfolding pop address_in pointer_before
pop_good b w first second g =
    mode_set_lem
    (intensity_set
    (scale_set (pointer_set (address_set g (omega arith)) (omega arith))
    (scale_small w (pick_case (λ (n : ℕ). n < 4) (not (bit w 9)) (λ _. omega arith) (λ _. g.scale))))
    (pick_case (λ (n : ℕ). n < 8) (not (bit w 10)) (λ _. omega arith) (λ _. g.intensity)))
    (pick_case (λ (n : ℕ). n < 8) (not (bit w 8)) (λ _. omega arith) (λ _. g.mode))
