-- A move of a line or of bytes keeps registers in range, the coordinates their 13 bits, and a motion that goes on is in range and has not escaped; and its point
-- is made of parts in range. Assumes nothing.
use Prim.Native.Nat.{ℕ, ◌+◌, ◌/◌, ◌%◌, ◌≤◌, ◌<◌}
use mathlib.Core.Path.{◌≡◌, refl}
use mathlib.Core.Bool.{Bool, true, false, not, ◌&&◌, ◌||◌, and-false}
use native.Mathlib.Nat.{le_refl}
use native.Mathlib.Omega.{arith}
use Rattle.std.specs.Prelude.{nat_eq, nat_lt, nat_le}
use borrow.Author.Tests.{ltb-true, eqb-false, lt-leb}
use Rattle.words.proofs.Laws.{pick_case}
use Rattle.addresses.specs.declared.DisplayAddress.{DisplayAddress}
use Rattle.paper.proofs.Moves.{moved_small}
use Rattle.registers.specs.declared.Base.{Base}
use Rattle.registers.specs.declared.LineMotion.{LineMotion}
use Rattle.registers.specs.declared.ByteMotion.{ByteMotion}
use Rattle.registers.specs.declared.Motion.{Motion}
use Rattle.registers.specs.declared.Motion.TheVariants.{Line, Bytes}
use Rattle.registers.specs.Registers.{byte_at, moves_asked, escapes}
use Rattle.registers.specs.Good.{GoodBase, GoodMotion}
use Rattle.moves.specs.declared.Move.{Move}
use Rattle.beam.specs.DataWords.{still_end}
use Rattle.beam.proofs.Kept.{GoodOutcome, arrived_good}
use Rattle.moves.specs.DataWords.{with_done, line_next, line_move, byte_next, byte_move, displaced}

-- in range after a move, where its escape has taken effect; in a vector continue it takes effect where it ends
abbrev pub GoodAfter : Move → Bool → ℕ → Motion → Type 0
GoodAfter m datastate mode n = GoodMotion n (datastate && not (m.escape && not m.continues)) mode

pub made_good : (b : Base) (m : Move) → GoodBase b → m.lastword.0 < 32768 → GoodAfter m b.datastate b.mode m.motion → GoodOutcome (displaced b m)
unfolding displaced still_end
made_good b m g a h =
    pick_case GoodOutcome _ (λ _. record { registers = record { base = g; motion = tt }; lit = tt })
    (λ _. arrived_good b m.motion m.lastword _ _ _ _ g a (moved_small _ b.x _ _ (omega arith) g.x) (moved_small _ b.y _ _ (omega arith) g.y) h)

-- a line escapes with its last beat, and a vector continue only where it ends
pub waits : (escape last continues : Bool) → (last && not continues) ≡ false → (escape && (last || continues) && not continues) ≡ false
waits false last continues h = refl
waits true true continues h = h
waits true false true h = refl
waits true false false h = refl

module _ (a : DisplayAddress) (l : LineMotion) (s : ℕ) (continues datastate : Bool) (mode : ℕ) (h : GoodMotion (Line a l) datastate mode) where
  -- the line goes on with k moves done, where this beat does not end it
  on_good : (k : ℕ) → k < l.moves → (nat_le l.moves (l.done + 1) && not continues) ≡ false →
      GoodAfter (line_move a l s continues) datastate mode (Line a (with_done l k))
  unfolding line_move
  on_good k less e =
      let g = h.3 in
      rw (waits l.escape _ continues e, h.0)
      (refl, h.1, h.2, record { magx = g.magx; magy = g.magy; larger = g.larger; some = g.some; done = less }, h.4)

  pub line_good : GoodAfter (line_move a l s continues) datastate mode (line_move a l s continues).motion
  unfolding line_move line_next
  line_good =
      pick_case (GoodAfter (line_move a l s continues) datastate mode) (nat_lt (l.done + 1) l.moves)
      (λ e. let less = ltb-true _ _ e in on_good (l.done + 1) less (rw (lt-leb l.moves (l.done + 1) less)))
      (λ _. pick_case (GoodAfter (line_move a l s continues) datastate mode) continues
      (λ e. on_good 0 h.3.some (rw (e, and-false))) (λ _. tt))

-- a byte asks for a move at least, and one that escapes asks for no more
pub some_asked : (byte : ℕ) → 1 ≤ moves_asked byte
unfolding moves_asked
some_asked byte = pick_case (λ (n : ℕ). 1 ≤ n) _ (λ _. omega arith) (λ e. omega (arith, eqb-false (byte / 8 % 4) 0 e))

one_escaping : (byte : ℕ) → 2 ≤ moves_asked byte → escapes byte ≡ false
unfolding moves_asked escapes
one_escaping byte = pick_case (λ (n : ℕ). 2 ≤ n → nat_eq (byte / 8 % 4) 0 ≡ false) _ (λ _ h. absurd (omega arith)) (λ e _. e)

-- both fail where no one of the two holds
pub neither : (a c : Bool) → (a || c) ≡ false → (a ≡ false) × (c ≡ false)
neither false c h = (refl, h)
neither true c h = (h, cc)

module _ (a : DisplayAddress) (t : ByteMotion) (s : ℕ) (datastate : Bool) (mode : ℕ) (h : GoodMotion (Bytes a t) datastate mode) where
  pub bytes_good : GoodAfter (byte_move a t s) datastate mode (byte_move a t s).motion
  unfolding byte_move byte_next
  bytes_good =
      let g = h.2 in
      let k = g.counts in
      let byte : ℕ = byte_at t.word t.right in
      pick_case (GoodAfter (byte_move a t s) datastate mode) _
      (λ e. rw (one_escaping byte (omega (arith, ltb-true 1 t.moves e)), h.0)
      (refl, h.1, record { counts = record { word = k.word; some = omega (arith, ltb-true 1 t.moves e); asked = omega (arith, k.asked) }; reached = g.reached }, h.3))
      (λ _. pick_case (GoodAfter (byte_move a t s) datastate mode) _ (λ _. tt)
      (λ e. let n = neither t.right (escapes byte) e in
      rw (n.1, h.0) (refl, h.1, record { counts = record { word = k.word; some = some_asked _; asked = le_refl _ }; reached = rw n.0 at n.1 }, h.3)))

-- the address that a move tells is the motion's
pub line_told : (a : DisplayAddress) (l : LineMotion) (s : ℕ) (continues : Bool) → a.0 < 32768 → (line_move a l s continues).lastword.0 < 32768
unfolding line_move
line_told a l s continues h = h

pub bytes_told : (a : DisplayAddress) (t : ByteMotion) (s : ℕ) → a.0 < 32768 → (byte_move a t s).lastword.0 < 32768
unfolding byte_move
bytes_told a t s h = h
