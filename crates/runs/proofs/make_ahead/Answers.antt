-- `runs::make_ahead` meets its promise: the motion picks what is made, and each way is its callee's. Assumes nothing.
use Prim.Native.Nat.{ℕ, ◌≤◌}
use mathlib.Core.Path.{◌≡◌}
use mathlib.Core.List.{List}
use native.Mathlib.Omega.{arith}
use Rattle.registers.specs.declared.Motion.{Motion}
use Rattle.registers.specs.declared.Registers.{Registers}
use Rattle.registers.specs.Good.{Good}
use Rattle.move_sequence.specs.PlainMoves.{SequenceLeft, sequence}
use Rattle.runs.proofs.MadeAhead.{moves_left}
use Rattle.runs.proofs.make_ahead.Goals as goal

-- registers in range stay so where their motion is written out
told : (r : Registers) {v : Motion} → r.motion ≡ v → Good r → Good (record { base = r.base; motion = v })
told r e g = rw (← e) g

-- no more moves are left than were asked for
left : (n : ℕ) (r : Registers) (ps : List ℕ) (place : ℕ) {s : SequenceLeft} → s ≡ sequence n r ps place → s.sequence.left ≤ n
left n r ps place e = rw e (moves_left n r ps place)

pub overflow_add-result : goal.overflow_add-result
overflow_add-result c = omega (arith, left _ _ _ _ c.line_moves-moves.ensures.left, c.requires.2, c.ranges.limit.fits)

pub overflow_add-result-in-Bytes : goal.overflow_add-result-in-Bytes
overflow_add-result-in-Bytes c = omega (arith, left _ _ _ _ c.byte_moves-moves.ensures.left, c.requires.2, c.ranges.limit.fits)
