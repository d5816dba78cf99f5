-- A motion laid into the row of the other registers makes the whole row. Assumes nothing.
use Prim.Native.Nat.{ℕ}
use mathlib.Core.Path.{◌≡◌, refl, ap, ◌∙◌}
use mathlib.Core.List.{List}
use Rattle.registers.specs.declared.Base.{Base}
use Rattle.registers.specs.declared.Stage.{Stage}
use Rattle.registers.specs.declared.Stage.TheVariants.{Table, Routine, Increments, Short}
use Rattle.registers.specs.declared.CharacterMotion.{CharacterMotion}
use Rattle.registers.specs.declared.Motion.{Motion}
use Rattle.registers.specs.declared.Motion.TheVariants.{Nothing, Line, Bytes, Character}
use Rattle.registers.specs.declared.Registers.{Registers}
use Rattle.motion_numbers.specs.MotionNumbers.{stage_numbers, motion_numbers, laid}
use Rattle.numbers.specs.Numbers.{still_row, row_of}

module _ (b : Base) where
  -- of each kind and stage, number by number
  character_laid : (c : CharacterMotion) (stage : Stage) → c.stage ≡ stage → laid (Character c) (still_row b) ≡ row_of (record { base = b; motion = Character c })
  unfolding laid row_of motion_numbers stage_numbers
  character_laid c Table e = rw e
  character_laid c (Routine short next) e = rw e
  character_laid c (Increments from t) e = rw e
  character_laid c (Short from l) e = rw e

  laid_still : (m : Motion) → laid m (still_row b) ≡ row_of (record { base = b; motion = m })
  unfolding laid row_of motion_numbers
  laid_still Nothing = refl
  laid_still (Line lastword l) = refl
  laid_still (Bytes lastword t) = refl
  laid_still (Character c) = character_laid c c.stage refl

-- as the code makes a row: first that of the other registers, then the motion into it
pub row_laid : (r : Registers) {still row : List ℕ} → still ≡ still_row r.base → row ≡ laid r.motion still → row ≡ row_of r
row_laid r p q = q ∙ ap (laid r.motion) p ∙ laid_still r.base r.motion
