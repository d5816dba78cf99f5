-- A control character keeps registers in range, since each field of it is no wider than the register that it goes into, and lights nothing. Assumes nothing.
use Prim.Native.Nat.{ℕ, ◌<◌}
use mathlib.Core.Path.{◌≡◌, refl}
use mathlib.Core.Bool.{Bool}
use native.Mathlib.Omega.{arith}
use Rattle.std.specs.Prelude.{None}
use Rattle.words.specs.Words.{bit, pick}
use Rattle.words.proofs.Laws.{pick_case}
use Rattle.registers.specs.declared.Base.{Base}
use Rattle.registers.specs.declared.CharacterMotion.{CharacterMotion}
use Rattle.registers.specs.declared.Motion.{Motion}
use Rattle.registers.specs.Good.{GoodBase, GoodMotion}
use Rattle.registers.proofs.Setting.{x_set, scale_set, intensity_set, starting_set}
use Rattle.control.proofs.Kept.{scale_small, intensity_small}
use Rattle.skips.proofs.Kept.{counted_small}
use Rattle.beam.specs.declared.Outcome.{Outcome}
use Rattle.beam.proofs.Kept.{GoodOutcome}
use Rattle.moves.proofs.KeptCharacters.{after_good}
use Rattle.control_characters.specs.ControlCharacters.{parameter, starting_by, table, miscellaneous, unused, control_character}
use Rattle.control_characters.proofs.Halves.{high_small, low_small}

parameter_good : (b : Base) (w : ℕ) → GoodBase b → GoodBase (parameter b w)
unfolding parameter
parameter_good b w g = intensity_set (scale_set g (scale_small w g.scale)) (intensity_small w g.intensity)

starting_small : (w old : ℕ) → old < 64 → starting_by w old < 64
unfolding starting_by
starting_small w old h = omega (arith, high_small (bit w 4) w old 7 (omega arith) (omega arith), low_small (bit w 5) w old)

table_good : (b : Base) (w : ℕ) → GoodBase b → GoodBase (table b w)
unfolding table
table_good b w g = starting_set g (starting_small w b.starting g.starting)

miscellaneous_good : (b : Base) (w : ℕ) → GoodBase b → GoodBase (miscellaneous b w)
unfolding miscellaneous
miscellaneous_good b w g =
    intensity_set
    (scale_set (x_set g (pick_case (λ (n : ℕ). n < 8192) (bit w 5) (λ _. omega (arith, g.x)) (λ _. g.x))) (counted_small 3 _ _ g.scale))
    (counted_small 7 _ _ g.intensity)

-- what holds of each form holds of the one that the tests choose
formed : {A : Type 0} (P : A → Type 0) (zero one two : Bool) {p t m u : A} → P p → P t → P m → P u → P (pick zero p (pick one t (pick two m u)))
formed P zero one two p t m u = pick_case P zero (λ _. p) (λ _. pick_case P one (λ _. t) (λ _. pick_case P two (λ _. m) (λ _. u)))

pub control_good : (b : Base) (c : CharacterMotion) (w : ℕ) → GoodBase b → c.word < 4096 → GoodOutcome (control_character b c w)
unfolding control_character unused
control_good b c w g h =
    formed GoodOutcome _ _ _ (record { registers = record { base = parameter_good b w g; motion = after_good c h _ _ }; lit = tt })
    (record { registers = record { base = table_good b w g; motion = after_good c h _ _ }; lit = tt })
    (record {
      registers = record {
        base = miscellaneous_good b w g;
        motion = pick_case (λ (m : Motion). GoodMotion m (miscellaneous b w).datastate (miscellaneous b w).mode) (bit w 6) (λ _. tt) (λ _. after_good c h _ _);
      };
      lit = tt;
    })
    (record { registers = record { base = g; motion = after_good c h _ _ }; lit = tt })

pub control_dark : (b : Base) (c : CharacterMotion) (w : ℕ) → (control_character b c w).lit ≡ None
unfolding control_character unused
control_dark b c w = formed (λ (o : Outcome). o.lit ≡ None) _ _ _ refl refl refl refl
