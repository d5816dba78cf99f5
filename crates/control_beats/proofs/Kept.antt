-- The beat of a control word keeps registers in range, whatever words it fetches, and so does the beginning of every command beat: the commands' own laws are
-- control's and skips'. Assumes nothing.
use Prim.Native.Nat.{ℕ}
use mathlib.Core.Bool.{true, false}
use Rattle.std.specs.Prelude.{nat_eq, None}
use Rattle.words.specs.Words.{bit, bits}
use Rattle.words.proofs.Laws.{pick_case}
use Rattle.registers.specs.declared.Base.{Base}
use Rattle.registers.specs.declared.Motion.TheVariants.{Nothing}
use Rattle.registers.specs.Good.{GoodBase}
use Rattle.registers.proofs.Setting.{held_set}
use Rattle.control.proofs.Kept.{parameter_good, mode_good, jump_good, push_good, pop_good}
use Rattle.skips.proofs.Kept.{skipping_good, flag_skip_good, count_good, sync_good}
use Rattle.button_skips.proofs.Kept.{button_skip_good, compare_good}
use Rattle.beam.proofs.Kept.{GoodLeft}
use Rattle.touches.proofs.Kept.{GoodAct, GoodBeat}
use Rattle.control_beats.specs.ControlWords.{hold_ended, ready, push_act, jump_beat, pop_beat, miscellaneous, control_beat}

-- a control word lights nothing and begins no motion
dark : {b : Base} → GoodBase b → GoodLeft (record { base = b; motion = Nothing }) None
dark g = record { registers = record { base = g; motion = tt }; lit = tt }

pub hold_ended_good : (b : Base) → GoodBase b → GoodBase (hold_ended b)
hold_ended_good b g = g

pub ready_good : (b : Base) → GoodBase b → GoodBase (ready b)
ready_good b g = held_set g tt

module _ (b : Base) (w : ℕ) (g : GoodBase b) where
  jump_beat_good : GoodBeat (jump_beat b w)
  unfolding jump_beat push_act
  jump_beat_good v h =
      pick_case GoodAct (bit w 8) (λ _. dark (push_good b w v g)) (λ _. dark (jump_good b w v g))

  pop_beat_good : GoodBeat (pop_beat b w)
  unfolding pop_beat
  pop_beat_good first _ second _ = dark (pop_good b w first second g)

  miscellaneous_good : GoodBase (miscellaneous b w)
  unfolding miscellaneous
  miscellaneous_good =
      pick_case GoodBase (nat_eq (bits w 3 5) 0) (λ _. compare_good b w false g)
      (λ _. pick_case GoodBase (nat_eq (bits w 3 5) 1) (λ _. compare_good b w true g)
      (λ _. pick_case GoodBase (nat_eq (bits w 3 5) 2) (λ _. flag_skip_good b w g)
      (λ _. pick_case GoodBase (nat_eq (bits w 3 5) 3) (λ _. count_good b w g) (λ _. skipping_good b false g))))

  pub control_good : GoodBeat (control_beat b w)
  unfolding control_beat
  control_good =
      pick_case GoodBeat (nat_eq (bits w 0 2) 0) (λ _. dark (parameter_good b w g))
      (λ _. pick_case GoodBeat (nat_eq (bits w 0 2) 1) (λ _. dark (mode_good b w g))
      (λ _. pick_case GoodBeat (nat_eq (bits w 0 2) 2) (λ _. jump_beat_good)
      (λ _. pick_case GoodBeat (nat_eq (bits w 0 2) 3) (λ _. pop_beat_good)
      (λ _. pick_case GoodBeat (nat_eq (bits w 0 2) 4) (λ _. dark (button_skip_good b w false g))
      (λ _. pick_case GoodBeat (nat_eq (bits w 0 2) 5) (λ _. dark (button_skip_good b w true g))
      (λ _. pick_case GoodBeat (nat_eq (bits w 0 2) 6) (λ _. dark (miscellaneous_good))
      (λ _. dark (sync_good b w g))))))))
