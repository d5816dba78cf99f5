-- The test of refusal 4 and its facts are the same: `good` takes the test apart, `formed` puts it together. Assumes nothing.
use Prim.Native.Nat.{ℕ, ◌≤◌}
use mathlib.Core.Path.{◌≡◌, refl}
use mathlib.Core.Bool.{Bool, true, false}
use native.Mathlib.Omega.{arith}
use Rattle.std.specs.Prelude.{nat_lt, Option, None, Some}
use borrow.Author.Tests.{ltb-true, ltb-false, lt-ltb, leb-true, le-leb, eqb-true, eq-eqb, not-true}
use Rattle.words.specs.Words.{pick}
use Rattle.words.proofs.Laws.{both}
use Rattle.registers.specs.declared.Base.{Base}
use Rattle.registers.specs.declared.LineMotion.{LineMotion}
use Rattle.registers.specs.declared.ByteMotion.{ByteMotion}
use Rattle.registers.specs.declared.Stage.{Stage}
use Rattle.registers.specs.declared.Stage.TheVariants.{Table, Routine, Increments, Short}
use Rattle.registers.specs.declared.CharacterMotion.{CharacterMotion}
use Rattle.registers.specs.declared.Motion.{Motion}
use Rattle.registers.specs.declared.Motion.TheVariants.{Nothing, Line, Bytes, Character}
use Rattle.registers.specs.declared.Registers.{Registers}
use Rattle.registers.specs.Registers.{larger, held_in_range, numbers_in_range, line_in_range, counts_in_range, bytes_in_range, stage_in_range, character_in_range, motion_in_range, in_range, fresh}
use Rattle.registers.specs.Good.{GoodHeld, GoodBase, GoodLine, GoodCounts, GoodBytes, GoodStage, GoodCharacter, GoodMotion, Good}

good_held : (h : Option ℕ) → held_in_range h ≡ true → GoodHeld h
unfolding held_in_range
good_held None q = tt
good_held (Some word) q = leb-true _ _ q

good_base : (b : Base) → numbers_in_range b ≡ true → GoodBase b
unfolding numbers_in_range
good_base b h =
    let h10 = both _ _ h in
    let h9 = both _ _ h10.0 in
    let h8 = both _ _ h9.0 in
    let h7 = both _ _ h8.0 in
    let h6 = both _ _ h7.0 in
    let h5 = both _ _ h6.0 in
    let h4 = both _ _ h5.0 in
    let h3 = both _ _ h4.0 in
    let h2 = both _ _ h3.0 in
    let h1 = both _ _ h2.0 in
    record {
      address = ltb-true _ _ h1.0;
      pointer = ltb-true _ _ h1.1;
      x = ltb-true _ _ h2.1;
      y = ltb-true _ _ h3.1;
      mode = ltb-true _ _ h4.1;
      scale = ltb-true _ _ h5.1;
      intensity = ltb-true _ _ h6.1;
      buttons = ltb-true _ _ h7.1;
      conditions = ltb-true _ _ h8.1;
      starting = ltb-true _ _ h9.1;
      held = good_held b.held h10.1;
    }

good_line : (l : LineMotion) → line_in_range l ≡ true → GoodLine l
unfolding line_in_range
good_line l h =
    let h4 = both _ _ h in
    let h3 = both _ _ h4.0 in
    let h2 = both _ _ h3.0 in
    let h1 = both _ _ h2.0 in
    record {
      magx = ltb-true _ _ h1.0;
      magy = ltb-true _ _ h1.1;
      larger = eqb-true _ _ h2.1;
      some = leb-true _ _ h3.1;
      done = ltb-true _ _ h4.1;
    }

good_counts : (t : ByteMotion) → counts_in_range t ≡ true → GoodCounts t
unfolding counts_in_range
good_counts t h =
    let h2 = both _ _ h in
    let h1 = both _ _ h2.0 in
    record { word = ltb-true _ _ h1.0; some = leb-true _ _ h1.1; asked = leb-true _ _ h2.1 }

good_bytes : (t : ByteMotion) → bytes_in_range t ≡ true → GoodBytes t
unfolding bytes_in_range
good_bytes t h = let k = both _ _ h in record { counts = good_counts t k.0; reached = not-true _ k.1 }

good_stage : (s : Stage) → stage_in_range s ≡ true → GoodStage s
unfolding stage_in_range
good_stage Table h = tt
good_stage (Routine short next) h = ltb-true _ _ h
good_stage (Increments from t) h = let k = both _ _ h in (good_counts t k.0, ltb-true _ _ k.1)
good_stage (Short from l) h = let k = both _ _ h in (good_line l k.0, ltb-true _ _ k.1)

good_character : (c : CharacterMotion) → character_in_range c ≡ true → GoodCharacter c
unfolding character_in_range
good_character c h = let k = both _ _ h in record { word = ltb-true _ _ k.0; stage = good_stage c.stage k.1 }

good_motion : (m : Motion) (datastate : Bool) (mode : ℕ) → motion_in_range m datastate mode ≡ true → GoodMotion m datastate mode
unfolding motion_in_range
good_motion Nothing datastate mode h = tt
good_motion (Line lastword l) datastate mode h =
    let h4 = both _ _ h in
    let h3 = both _ _ h4.0 in
    let h2 = both _ _ h3.0 in
    let h1 = both _ _ h2.0 in
    (h1.0, leb-true _ _ h1.1, leb-true _ _ h2.1, good_line l h3.1, ltb-true _ _ h4.1)
good_motion (Bytes lastword t) datastate mode h =
    let h3 = both _ _ h in
    let h2 = both _ _ h3.0 in
    let h1 = both _ _ h2.0 in
    (h1.0, eqb-true _ _ h1.1, good_bytes t h2.1, ltb-true _ _ h3.1)
good_motion (Character c) datastate mode h = good_character c h

pub good : (r : Registers) → in_range r ≡ true → Good r
unfolding in_range
good r h =
    let k = both _ _ h in
    record { base = good_base r.base k.0; motion = good_motion r.motion r.base.datastate r.base.mode k.1 }

formed_held : (h : Option ℕ) → GoodHeld h → held_in_range h ≡ true
unfolding held_in_range
formed_held None g = refl
formed_held (Some word) g = le-leb _ _ g

formed_base : (b : Base) → GoodBase b → numbers_in_range b ≡ true
unfolding numbers_in_range
formed_base b g =
    rw (
      lt-ltb _ _ g.address,
      lt-ltb _ _ g.pointer,
      lt-ltb _ _ g.x,
      lt-ltb _ _ g.y,
      lt-ltb _ _ g.mode,
      lt-ltb _ _ g.scale,
      lt-ltb _ _ g.intensity,
      lt-ltb _ _ g.buttons,
      lt-ltb _ _ g.conditions,
      lt-ltb _ _ g.starting,
      formed_held b.held g.held,
    )

formed_line : {l : LineMotion} → GoodLine l → line_in_range l ≡ true
unfolding line_in_range
formed_line g =
    rw (
      lt-ltb _ _ g.magx,
      lt-ltb _ _ g.magy,
      eq-eqb _ _ g.larger,
      le-leb _ _ g.some,
      lt-ltb _ _ g.done,
    )

formed_counts : {t : ByteMotion} → GoodCounts t → counts_in_range t ≡ true
unfolding counts_in_range
formed_counts g = rw (lt-ltb _ _ g.word, le-leb _ _ g.some, le-leb _ _ g.asked)

formed_bytes : {t : ByteMotion} → GoodBytes t → bytes_in_range t ≡ true
unfolding bytes_in_range
formed_bytes g = rw (formed_counts g.counts, g.reached)

formed_stage : (s : Stage) → GoodStage s → stage_in_range s ≡ true
unfolding stage_in_range
formed_stage Table g = refl
formed_stage (Routine short next) g = lt-ltb _ _ g
formed_stage (Increments from t) g = rw (formed_counts g.0, lt-ltb _ _ g.1)
formed_stage (Short from l) g = rw (formed_line g.0, lt-ltb _ _ g.1)

formed_character : (c : CharacterMotion) → GoodCharacter c → character_in_range c ≡ true
unfolding character_in_range
formed_character c g = rw (lt-ltb _ _ g.word, formed_stage c.stage g.stage)

formed_motion : (m : Motion) (datastate : Bool) (mode : ℕ) → GoodMotion m datastate mode → motion_in_range m datastate mode ≡ true
unfolding motion_in_range
formed_motion Nothing datastate mode g = refl
formed_motion (Line lastword l) datastate mode g = rw (g.0, le-leb _ _ g.1, le-leb _ _ g.2, formed_line g.3, lt-ltb _ _ g.4)
formed_motion (Bytes lastword t) datastate mode g = rw (g.0, eq-eqb _ _ g.1, formed_bytes g.2, lt-ltb _ _ g.3)
formed_motion (Character c) datastate mode g = formed_character c g

pub formed : (r : Registers) → Good r → in_range r ≡ true
unfolding in_range
formed r g = rw (formed_base r.base g.base, formed_motion r.motion r.base.datastate r.base.mode g.motion)

-- the fresh registers are in range
pub fresh_formed : in_range fresh ≡ true
unfolding in_range held_in_range numbers_in_range motion_in_range
fresh_formed = refl

-- the bounds that a line's move needs
pub line_bounds : {l : LineMotion} → GoodLine l → (l.magx ≤ l.moves) × (l.magy ≤ l.moves) × (l.moves ≤ 1023)
unfolding larger pick
line_bounds {l} g = rw g.larger (by (nat_lt l.magx l.magy) refl)
  where
    by : (t : Bool) → nat_lt l.magx l.magy ≡ t →
        (l.magx ≤ pick t l.magy l.magx) × (l.magy ≤ pick t l.magy l.magx) × (pick t l.magy l.magx ≤ 1023)
    by true e = (omega (arith, ltb-true l.magx l.magy e), omega arith, omega (arith, g.magy))
    by false e = (omega arith, omega (arith, ltb-false l.magx l.magy e), omega (arith, g.magx))
