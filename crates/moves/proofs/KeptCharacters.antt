-- A move of a character's routine word keeps registers in range, whatever the state and the mode; and so every move beat does. What a character fetches for is in
-- range. Assumes nothing.
use Prim.Native.Nat.{ℕ, ◌+◌, ◌<◌}
use mathlib.Core.Path.{◌≡◌}
use mathlib.Core.Bool.{Bool, true, false, ◌||◌}
use native.Mathlib.Nat.{le_refl}
use native.Mathlib.Omega.{arith}
use Rattle.std.specs.Prelude.{nat_eq, nat_lt}
use borrow.Author.Tests.{ltb-true}
use Rattle.words.proofs.Laws.{pick_case}
use Rattle.addresses.specs.declared.DisplayAddress.{DisplayAddress}
use Rattle.addresses.specs.Addresses.{address_after}
use Rattle.paper.specs.DataWords.{distance}
use Rattle.registers.specs.declared.Base.{Base}
use Rattle.registers.specs.declared.LineMotion.{LineMotion}
use Rattle.registers.specs.declared.ByteMotion.{ByteMotion}
use Rattle.registers.specs.declared.Stage.{Stage}
use Rattle.registers.specs.declared.Stage.TheVariants.{Table, Routine, Increments, Short}
use Rattle.registers.specs.declared.CharacterMotion.{CharacterMotion}
use Rattle.registers.specs.declared.Motion.{Motion}
use Rattle.registers.specs.declared.Motion.TheVariants.{Nothing, Line, Bytes, Character}
use Rattle.registers.specs.declared.Registers.{Registers}
use Rattle.registers.specs.Good.{GoodBase, GoodLine, GoodCounts, GoodStage, GoodMotion, Good}
use Rattle.moves.specs.declared.Move.{Move}
use Rattle.moves.specs.declared.Moving.TheVariants.{Going, Looks, Reads}
use Rattle.beam.proofs.Kept.{GoodOutcome}
use Rattle.moves.specs.DataWords.{with_done, line_next, line_move, byte_next, byte_move, after_character, after_routine_word, routine_next, routine_move, character_next, next_move, displaced}
use Rattle.moves.proofs.Kept.{made_good, line_good, some_asked, bytes_good, line_told, bytes_told}

-- the moves of a line or of bytes are in range, whatever the state and the mode
abbrev GoodMoves : Motion → Type 0
GoodMoves Nothing = Unit {0}
GoodMoves (Line a l) = GoodLine l × (a.0 < 32768)
GoodMoves (Bytes a t) = GoodCounts t × (a.0 < 32768)
GoodMoves (Character c) = Unit {0}

done_good : (l : LineMotion) (k : ℕ) → k < l.moves → GoodLine l → GoodLine (with_done l k)
done_good l k less g = record { magx = g.magx; magy = g.magy; larger = g.larger; some = g.some; done = less }

line_moves : (a : DisplayAddress) (l : LineMotion) (s : ℕ) (continues : Bool) → GoodLine l → a.0 < 32768 → GoodMoves (line_move a l s continues).motion
unfolding line_move line_next
line_moves a l s continues g h =
    pick_case GoodMoves (nat_lt (l.done + 1) l.moves) (λ e. (done_good l (l.done + 1) (ltb-true _ _ e) g, h))
    (λ _. pick_case GoodMoves continues (λ _. (done_good l 0 g.some g, h)) (λ _. tt))

byte_moves : (a : DisplayAddress) (t : ByteMotion) (s : ℕ) → GoodCounts t → a.0 < 32768 → GoodMoves (byte_move a t s).motion
unfolding byte_move byte_next
byte_moves a t s g h =
    pick_case GoodMoves (nat_lt 1 t.moves)
    (λ e. (record { word = g.word; some = omega (arith, ltb-true 1 t.moves e); asked = omega (arith, g.asked) }, h))
    (λ _. pick_case GoodMoves _ (λ _. tt) (λ _. (record { word = g.word; some = some_asked _; asked = le_refl _ }, h)))

module _ (c : CharacterMotion) (word : c.word < 4096) (datastate : Bool) (mode : ℕ) where
  pub after_good : GoodMotion (after_character c) datastate mode
  unfolding after_character
  after_good =
      pick_case (λ (m : Motion). GoodMotion m datastate mode) (c.seven || c.right) (λ _. tt) (λ _. record { word = word; stage = tt })

  pub after_word_good : (short : Bool) (from : DisplayAddress) (escape : Bool) → GoodMotion (after_routine_word c short from escape) datastate mode
  unfolding after_routine_word address_after
  after_word_good short from escape =
      pick_case (λ (m : Motion). GoodMotion m datastate mode) escape (λ _. after_good) (λ _. record { word = word; stage = omega arith })

  routine_good : (short : Bool) (from : DisplayAddress) (escape : Bool) (m : Motion) → GoodMoves m → GoodMotion (routine_next c short from escape m) datastate mode
  unfolding routine_next
  routine_good short from escape Nothing g = after_word_good short from escape
  routine_good short from escape (Line a l) g = record { word = word; stage = g }
  routine_good short from escape (Bytes a t) g = record { word = word; stage = g }
  routine_good short from escape (Character k) g = after_word_good short from escape

-- a move of its line or bytes, made within the character
routine_made : (b : Base) (c : CharacterMotion) (short : Bool) (m : Move) → GoodBase b → c.word < 4096 → m.lastword.0 < 32768 → GoodMoves m.motion →
    GoodOutcome (displaced b (routine_move c short m))
unfolding routine_move
routine_made b c short m g word a h = made_good b _ g a (routine_good c word _ _ short m.lastword m.escape m.motion h)

character_good : (b : Base) (c : CharacterMotion) (s : ℕ) (m : Move) → GoodBase b → c.word < 4096 → (stage : Stage) → GoodStage stage →
    character_next c s stage ≡ Going m → GoodOutcome (displaced b m)
unfolding character_next
character_good b c s m g word Table h e = let z : ◌≡◌ {A = ℕ} 0 1 = cc in absurd (omega arith)
character_good b c s m g word (Routine short next) h e = let z : ◌≡◌ {A = ℕ} 0 1 = cc in absurd (omega arith)
character_good b c s m g word (Increments a t) h e =
    let q : routine_move c false (byte_move a t s) ≡ m = cc in
    rw (← q) (routine_made b c false (byte_move a t s) g word (bytes_told a t s h.1) (byte_moves a t s h.0 h.1))
character_good b c s m g word (Short a l) h e =
    let q : routine_move c true (line_move a l s false) ≡ m = cc in
    rw (← q) (routine_made b c true (line_move a l s false) g word (line_told a l s false h.1) (line_moves a l s false h.0 h.1))

next_good : (b : Base) (n : Motion) (m : Move) →
    GoodBase b → GoodMotion n b.datastate b.mode → next_move n b.mode b.scale ≡ Going m → GoodOutcome (displaced b m)
unfolding next_move
next_good b Nothing m g h e = let z : ◌≡◌ {A = ℕ} 0 1 = cc in absurd (omega arith)
next_good b (Line a l) m g h e =
    let q : line_move a l (distance b.scale) (nat_eq b.mode 3) ≡ m = cc in rw (← q) (made_good b _ g (line_told a l _ _ h.4) (line_good a l _ _ _ _ h))
next_good b (Bytes a t) m g h e =
    let q : byte_move a t (distance b.scale) ≡ m = cc in rw (← q) (made_good b _ g (bytes_told a t _ h.3) (bytes_good a t _ _ _ h))
next_good b (Character c) m g h e = character_good b c (distance b.scale) m g h.word c.stage h.stage e

pub displaced_good : (r : Registers) (m : Move) →
    Good r → next_move r.motion r.base.mode r.base.scale ≡ Going m → GoodOutcome (displaced r.base m)
displaced_good r m g e = next_good r.base r.motion m g.base g.motion e

-- WHAT A CHARACTER FETCHES FOR

stage_looks : (c k : CharacterMotion) (s : ℕ) (stage : Stage) → c.word < 4096 → character_next c s stage ≡ Looks k → k.word < 4096
unfolding character_next
stage_looks c k s Table h e = let q : c ≡ k = cc in rw (← q) h
stage_looks c k s (Routine short next) h e = let z : ◌≡◌ {A = ℕ} 0 1 = cc in absurd (omega arith)
stage_looks c k s (Increments a t) h e = let z : ◌≡◌ {A = ℕ} 0 1 = cc in absurd (omega arith)
stage_looks c k s (Short a l) h e = let z : ◌≡◌ {A = ℕ} 0 1 = cc in absurd (omega arith)

motion_looks : (m : Motion) (k : CharacterMotion) (datastate : Bool) (mode scale : ℕ) → GoodMotion m datastate mode → next_move m mode scale ≡ Looks k → k.word < 4096
unfolding next_move
motion_looks Nothing k datastate mode scale h e = let z : ◌≡◌ {A = ℕ} 0 1 = cc in absurd (omega arith)
motion_looks (Line a l) k datastate mode scale h e = let z : ◌≡◌ {A = ℕ} 0 1 = cc in absurd (omega arith)
motion_looks (Bytes a t) k datastate mode scale h e = let z : ◌≡◌ {A = ℕ} 0 1 = cc in absurd (omega arith)
motion_looks (Character c) k datastate mode scale h e = stage_looks c k (distance scale) c.stage h.word e

pub looks_good : (r : Registers) (k : CharacterMotion) → Good r → next_move r.motion r.base.mode r.base.scale ≡ Looks k → k.word < 4096
looks_good r k g e = motion_looks r.motion k r.base.datastate r.base.mode r.base.scale g.motion e

stage_reads : (c k : CharacterMotion) (s : ℕ) (short : Bool) (at : DisplayAddress) (stage : Stage) → c.word < 4096 → GoodStage stage →
    character_next c s stage ≡ Reads k short at → (k.word < 4096) × (at.0 < 32768)
unfolding character_next
stage_reads c k s short at Table h g e = let z : ◌≡◌ {A = ℕ} 0 1 = cc in absurd (omega arith)
stage_reads c k s short at (Routine short' next) h g e =
    let q : c ≡ k = cc in
    let p : next ≡ at = cc in
    (rw (← q) h, rw (← p) g)
stage_reads c k s short at (Increments a t) h g e = let z : ◌≡◌ {A = ℕ} 0 1 = cc in absurd (omega arith)
stage_reads c k s short at (Short a l) h g e = let z : ◌≡◌ {A = ℕ} 0 1 = cc in absurd (omega arith)

motion_reads : (m : Motion) (k : CharacterMotion) (short : Bool) (at : DisplayAddress) (datastate : Bool) (mode scale : ℕ) → GoodMotion m datastate mode →
    next_move m mode scale ≡ Reads k short at → (k.word < 4096) × (at.0 < 32768)
unfolding next_move
motion_reads Nothing k short at datastate mode scale h e = let z : ◌≡◌ {A = ℕ} 0 1 = cc in absurd (omega arith)
motion_reads (Line a l) k short at datastate mode scale h e = let z : ◌≡◌ {A = ℕ} 0 1 = cc in absurd (omega arith)
motion_reads (Bytes a t) k short at datastate mode scale h e = let z : ◌≡◌ {A = ℕ} 0 1 = cc in absurd (omega arith)
motion_reads (Character c) k short at datastate mode scale h e = stage_reads c k (distance scale) short at c.stage h.word h.stage e

pub reads_good : (r : Registers) (k : CharacterMotion) (short : Bool) (at : DisplayAddress) → Good r →
    next_move r.motion r.base.mode r.base.scale ≡ Reads k short at → (k.word < 4096) × (at.0 < 32768)
reads_good r k short at g e = motion_reads r.motion k short at r.base.datastate r.base.mode r.base.scale g.motion e
