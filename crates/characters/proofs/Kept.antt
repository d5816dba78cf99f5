-- A table word and a routine word keep registers in range: a routine begins in memory, and the moves that its words begin are in range. Both light nothing. Assumes
-- nothing.
use Prim.Native.Nat.{ℕ, ◌≤◌, ◌<◌}
use mathlib.Core.Path.{◌≡◌, refl}
use mathlib.Core.Bool.{Bool}
use native.Mathlib.Omega.{arith}
use Rattle.std.specs.Prelude.{nat_eq, None}
use Rattle.words.specs.Words.{bit}
use Rattle.words.proofs.Laws.{pick_case}
use Rattle.addresses.specs.declared.DisplayAddress.{DisplayAddress}
use Rattle.registers.specs.declared.Base.{Base}
use Rattle.registers.specs.declared.CharacterMotion.{CharacterMotion}
use Rattle.registers.specs.declared.Motion.{Motion}
use Rattle.registers.specs.Good.{GoodBase, GoodMotion}
use Rattle.beam.specs.declared.Outcome.{Outcome}
use Rattle.beam.proofs.Kept.{GoodOutcome}
use Rattle.moves.proofs.KeptCharacters.{after_word_good}
use Rattle.drawing.specs.DataWords.{short_line}
use Rattle.drawing.proofs.Kept.{bytes_begun, short_begun}
use Rattle.control_characters.proofs.Kept.{control_good, control_dark}
use Rattle.characters.specs.Characters.{routine_start, table_word, routine_increments, routine_short, routine_word}

start_small : (starting w : ℕ) → (routine_start starting w).0 < 32768
unfolding routine_start
start_small starting w = omega arith

pub table_good : (b : Base) (c : CharacterMotion) (w : ℕ) → GoodBase b → c.word < 4096 → GoodOutcome (table_word b c w)
unfolding table_word
table_good b c w g h =
    pick_case GoodOutcome (bit w 0) (λ _. control_good b c w g h)
    (λ _. record { registers = record { base = g; motion = record { word = h; stage = start_small b.starting w } }; lit = tt })

pub table_dark : (b : Base) (c : CharacterMotion) (w : ℕ) → (table_word b c w).lit ≡ None
unfolding table_word
table_dark b c w = pick_case (λ (o : Outcome). o.lit ≡ None) (bit w 0) (λ _. control_dark b c w) (λ _. refl)

increments_good : (c : CharacterMotion) (at : DisplayAddress) (w : ℕ) (datastate : Bool) (mode : ℕ) → c.word < 4096 → at.0 < 32768 → w ≤ 4095 →
    GoodMotion (routine_increments c at w) datastate mode
unfolding routine_increments
increments_good c at w datastate mode h a k = record { word = h; stage = (bytes_begun w k, a) }

short_good : (c : CharacterMotion) (at : DisplayAddress) (w : ℕ) (datastate : Bool) (mode : ℕ) → c.word < 4096 → at.0 < 32768 →
    GoodMotion (routine_short c at w) datastate mode
unfolding routine_short
short_good c at w datastate mode h a =
    pick_case (λ (m : Motion). GoodMotion m datastate mode) (nat_eq (short_line w).moves 0) (λ _. after_word_good c h datastate mode _ at _)
    (λ e. record { word = h; stage = (short_begun w e, a) })

pub routine_good : (b : Base) (c : CharacterMotion) (short : Bool) (at : DisplayAddress) (w : ℕ) → GoodBase b → c.word < 4096 → at.0 < 32768 → w ≤ 4095 →
    GoodOutcome (routine_word b c short at w)
unfolding routine_word
routine_good b c short at w g h a k =
    record {
      registers = record {
        base = g;
        motion = pick_case (λ (m : Motion). GoodMotion m b.datastate b.mode) short (λ _. short_good c at w _ _ h a) (λ _. increments_good c at w _ _ h a k);
      };
      lit = tt;
    }

pub routine_dark : (b : Base) (c : CharacterMotion) (short : Bool) (at : DisplayAddress) (w : ℕ) → (routine_word b c short at w).lit ≡ None
unfolding routine_word
routine_dark b c short at w = refl
