-- No operation leaves registers that refusal 4 refuses. What changes no number keeps the facts as they are; the operations that set one show its range.
-- Assumes nothing.
use Prim.Native.Nat.{ℕ, ◌≤◌, ◌<◌}
use mathlib.Core.Path.{◌≡◌}
use mathlib.Core.Bool.{true, not}
use native.Mathlib.Nat.{lt_of_le_of_lt}
use native.Mathlib.Omega.{arith}
use lib.Bits.{xor_lt}
use Rattle.std.specs.Prelude.{nat_eq, nat_le}
use lib.Pow.{pow_mono}
use borrow.Author.Tests.{leb-true, eqb-true}
use Rattle.words.specs.Words.{pick}
use Rattle.words.proofs.Laws.{pick_case, both}
use Rattle.addresses.specs.Addresses.{address_at, pointer_at, address_in}
use Rattle.registers.specs.declared.Base.{Base}
use Rattle.registers.specs.declared.Motion.TheVariants.{Nothing}
use Rattle.registers.specs.declared.Registers.{Registers}
use Rattle.registers.specs.Registers.{in_range}
use Rattle.registers.specs.Good.{Good}
use Rattle.registers.proofs.InRange.{good, formed}
use Rattle.registers.proofs.Setting.{address_set, pointer_set, mode_set_lem, buttons_set, conditions_set, starting_set, held_set}
use Rattle.operations.specs.HostOperations.{started, pointed, conditioned, resume, cleared, generated}
use Rattle.inputs.specs.HostOperations.{pressed, group_cleared}
use Rattle.host.specs.declared.Operated.{Operated}
use Rattle.host.specs.HostOperations.{known, limit, taken, with_motion, registers_after, done, operate, KeepsInRange}

module _ (r : Registers) (g : Good r) where
  started_good : (operand : ℕ) → Good (with_motion (started r.base (address_at operand)) Nothing)
  started_good operand = record { base = held_set (mode_set_lem (address_set g.base (omega arith)) (omega arith)) tt; motion = tt }

  pointed_good : (operand : ℕ) → Good (with_motion (pointed r.base (pointer_at operand)) r.motion)
  pointed_good operand = record { base = pointer_set g.base (omega arith); motion = g.motion }

  conditioned_good : (operand : ℕ) → operand ≤ limit 3 → Good (with_motion (conditioned r.base operand) r.motion)
  unfolding limit pick
  conditioned_good operand h = record { base = conditions_set g.base (omega arith); motion = g.motion }

  resume_good : Good (with_motion (resume r.base) r.motion)
  unfolding resume
  resume_good =
      pick_case (λ (b : Base). Good (with_motion b r.motion)) (not r.base.running)
      (λ _. record { base = g.base; motion = g.motion })
      (λ _. record { base = g.base; motion = g.motion })

  cleared_good : Good (with_motion (cleared r.base) Nothing)
  unfolding cleared address_in
  cleared_good = record { base = held_set (mode_set_lem (address_set g.base (omega arith)) (omega arith)) tt; motion = tt }

  pressed_good : (operand : ℕ) → Good (with_motion (pressed r.base operand) r.motion)
  unfolding pressed
  pressed_good operand =
      record {
        base = buttons_set g.base (xor_lt 12 _ _ g.base.buttons (lt_of_le_of_lt (pow_mono {j = 11} (omega arith)) (omega arith)));
        motion = g.motion;
      }

  group_good : (operand : ℕ) → Good (with_motion (group_cleared r.base operand) r.motion)
  unfolding group_cleared
  group_good operand =
      record {
        base =
            buttons_set g.base
            (pick_case (λ (n : ℕ). n < 4096) (nat_eq operand 0) (λ _. omega arith) (λ _. omega (arith, g.base.buttons)));
        motion = g.motion;
      }

  generated_good : (operand : ℕ) → Good (with_motion (generated r.base operand) r.motion)
  generated_good operand = record { base = starting_set g.base (omega arith); motion = g.motion }

  after_good : (operation operand : ℕ) → operand ≤ limit operation → Good (registers_after r operation operand)
  unfolding registers_after
  after_good o w h =
      pick_case Good (nat_eq o 1) (λ _. started_good w)
      (λ _. pick_case Good (nat_eq o 2) (λ _. pointed_good w)
      (λ _. pick_case Good (nat_eq o 3) (λ e. conditioned_good w (rw (eqb-true o 3 e) at h))
      (λ _. pick_case Good (nat_eq o 4) (λ _. resume_good)
      (λ _. pick_case Good (nat_eq o 5) (λ _. cleared_good)
      (λ _. pick_case Good (nat_eq o 6) (λ _. record { base = g.base; motion = g.motion })
      (λ _. pick_case Good (nat_eq o 7) (λ _. record { base = g.base; motion = g.motion })
      (λ _. pick_case Good (nat_eq o 8) (λ _. pressed_good w)
      (λ _. pick_case Good (nat_eq o 9) (λ _. group_good w)
      (λ _. pick_case Good (nat_eq o 10) (λ _. record { base = g.base; motion = g.motion })
      (λ _. pick_case Good (nat_eq o 11) (λ _. record { base = g.base; motion = g.motion })
      (λ _. pick_case Good (nat_eq o 12) (λ _. record { base = g.base; motion = g.motion })
      (λ _. pick_case Good (nat_eq o 24) (λ _. record { base = g.base; motion = g.motion })
      (λ _. pick_case Good (nat_eq o 30) (λ _. generated_good w) (λ _. g))))))))))))))

pub keeps : KeepsInRange
unfolding operate done taken
keeps r o w h =
    let g = good r h in
    pick_case (λ (q : Operated). in_range q.registers ≡ true) (in_range r)
    (λ _. pick_case (λ (q : Operated). in_range q.registers ≡ true) (known o)
    (λ _. pick_case (λ (q : Operated). in_range q.registers ≡ true) (taken o w)
    (λ e. formed (registers_after r o w) (after_good r g o w (leb-true _ _ (both (nat_le w (limit o)) _ e).0))) (λ _. h)) (λ _. h)) (λ _. h)
