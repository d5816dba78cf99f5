-- No reader has to believe this file: it says the test of refusal 4 (Registers.antt) once more as facts, which proofs take apart and put together again.
-- That test and facts are the same is proved in proofs/InRange.antt. Assumes nothing.
use Rattle.std.specs.Prelude.{ℕ, ◌<◌, ◌≤◌, Bool, true, false, ◌&&◌, ◌≡◌, Option, None, Some}
use Rattle.registers.specs.declared.Base.{Base}
use Rattle.registers.specs.declared.LineMotion.{LineMotion}
use Rattle.registers.specs.declared.ByteMotion.{ByteMotion}
use Rattle.registers.specs.declared.Stage.{Stage}
use Rattle.registers.specs.declared.Stage.TheVariants.{Table, Routine, Increments, Short}
use Rattle.registers.specs.declared.CharacterMotion.{CharacterMotion}
use Rattle.registers.specs.declared.Motion.{Motion}
use Rattle.registers.specs.declared.Motion.TheVariants.{Nothing, Line, Bytes, Character}
use Rattle.registers.specs.declared.Registers.{Registers}
use Rattle.registers.specs.Registers.{larger, byte_at, moves_asked, escapes}

abbrev pub GoodHeld : Option ℕ → Type 0
GoodHeld None = Unit {0}
GoodHeld (Some word) = word ≤ 4095

-- over the numbers and the held word themselves, so that what changes none of them keeps the fact as it is
pub record GoodNumbers (a p u v m s i k c z : ℕ) (h : Option ℕ) : Type 0 where
  pub address : a < 32768
  pub pointer : p < 4096
  pub x : u < 8192
  pub y : v < 8192
  pub mode : m < 8
  pub scale : s < 4
  pub intensity : i < 8
  pub buttons : k < 4096
  pub conditions : c < 4096
  pub starting : z < 64
  pub held : GoodHeld h

abbrev pub GoodBase : Base → Type 0
GoodBase b =
    GoodNumbers b.address.0 b.pointer.0 b.x b.y b.mode b.scale b.intensity b.buttons b.conditions b.starting b.held

pub record GoodLine (l : LineMotion) : Type 0 where
  pub magx : l.magx < 1024
  pub magy : l.magy < 1024
  pub larger : l.moves ≡ larger l.magx l.magy
  pub some : 1 ≤ l.moves
  pub done : l.done < l.moves

pub record GoodCounts (t : ByteMotion) : Type 0 where
  pub word : t.word < 4096
  pub some : 1 ≤ t.moves
  pub asked : t.moves ≤ moves_asked (byte_at t.word t.right)

pub record GoodBytes (t : ByteMotion) : Type 0 where
  pub counts : GoodCounts t
  pub reached : (t.right && escapes (byte_at t.word false)) ≡ false

abbrev pub GoodStage : Stage → Type 0
GoodStage Table = Unit {0}
GoodStage (Routine short next) = next.0 < 32768
GoodStage (Increments from t) = GoodCounts t × (from.0 < 32768)
GoodStage (Short from l) = GoodLine l × (from.0 < 32768)

pub record GoodCharacter (c : CharacterMotion) : Type 0 where
  pub word : c.word < 4096
  pub stage : GoodStage c.stage

abbrev pub GoodMotion : Motion → Bool → ℕ → Type 0
GoodMotion Nothing datastate mode = Unit {0}
GoodMotion (Line lastword l) datastate mode = (datastate ≡ true) × (2 ≤ mode) × (mode ≤ 4) × GoodLine l × (lastword.0 < 32768)
GoodMotion (Bytes lastword t) datastate mode = (datastate ≡ true) × (mode ≡ 1) × GoodBytes t × (lastword.0 < 32768)
GoodMotion (Character c) datastate mode = GoodCharacter c

pub record Good (r : Registers) : Type 0 where
  pub base : GoodBase r.base
  pub motion : GoodMotion r.motion r.base.datastate r.base.mode
