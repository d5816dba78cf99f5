-- What a plain move leaves, and how a sequence goes on with it or stays where the next move is not plain or its point has no room. Then what both loops of
-- the code keep: the sequence from here is the sequence from the start. Assumes nothing.
use Prim.Native.Nat.{ℕ, suc, ◌+◌, ◌≤◌, ◌<◌}
use mathlib.Core.Path.{◌≡◌, ap, sym, ◌∙◌}
use mathlib.Core.Bool.{Bool, true, false, not, ◌&&◌, ◌||◌, and-true, and-false, or-false}
use mathlib.Core.List.{List}
use Rattle.std.specs.Prelude.{nat_le, Option, None}
use lib.ListN.{length}
use lib.Seq.{sets, length-sets}
use borrow.Author.Tests.{not-true, le-leb, lt-leb, leb-true, leb-false}
use Rattle.words.specs.Words.{pick}
use Rattle.words.proofs.Laws.{both}
use Rattle.paper.specs.declared.Reached.{Reached}
use Rattle.registers.specs.declared.Base.{Base}
use Rattle.registers.specs.declared.Motion.{Motion}
use Rattle.registers.specs.declared.Registers.{Registers}
use Rattle.registers.specs.Good.{Good}
use Rattle.moves.specs.declared.Move.{Move}
use Rattle.beam.specs.declared.Outcome.{Outcome}
use Rattle.moves.specs.declared.Moving.TheVariants.{Going}
use Rattle.beam.specs.DataWords.{beam_at, lit_at, points, arrived}
use Rattle.moves.specs.DataWords.{next_move, moved_x, moved_y, displaced}
use Rattle.moves.proofs.KeptCharacters.{displaced_good}
use Rattle.move_sequence.specs.declared.PointList.{PointList}
use Rattle.move_sequence.specs.declared.Sequence.{Sequence}
use Rattle.move_sequence.specs.Points.{Put}
use Rattle.move_sequence.specs.PlainMoves.{goes_on, plain, leaves, stays, on_move, sequence}

-- a coordinate that a move takes to the low bits of `end`, the upper ones kept
abbrev pub onto : ℕ → Reached → Reached
onto upper end = record { value = upper + end.value; violated = end.violated }

-- the registers with the beam at x and y and the motion m
abbrev pub at : Base → ℕ → ℕ → Motion → Registers
at b x y m = record { base = beam_at b x y; motion = m }

-- what a plain move leaves at x and y
abbrev pub there : Base → Move → ℕ → ℕ → Outcome
there b v x y = record { registers = at b x y v.motion; lit = lit_at b v.lastword x y v.asked false; stop = None }

-- the point that it lights
abbrev pub lights : Base → Move → Option ℕ
lights b v = lit_at b v.lastword (moved_x b v).value (moved_y b v).value v.asked false

-- what a plain move is, as facts
pub record Plainly (b : Base) (v : Move) : Type 0 where
  pub going : goes_on v.motion ≡ true
  pub stayed : (v.escape && not v.continues) ≡ false
  pub x : (moved_x b v).violated ≡ false
  pub y : (moved_y b v).violated ≡ false

pub facts : (b : Base) (v : Move) → plain b v ≡ true → Plainly b v
unfolding plain
facts b v p =
    let h = both _ _ p in
    let k = both _ _ h.0 in
    let l = both _ _ k.0 in
    record { going = l.0; stayed = not-true _ l.1; x = not-true _ k.1; y = not-true _ h.1 }

-- the beam arrives where nothing is violated and nothing escapes
quietly : (b : Base) (v : Move) (x y : ℕ) (hx hy escape : Bool) → hx ≡ false → hy ≡ false → escape ≡ false →
    arrived b v.motion v.lastword (record { value = x; violated = hx }) (record { value = y; violated = hy }) v.asked escape ≡ there b v x y
unfolding arrived pick
quietly b v x y hx hy escape ex ey e = rw (ex, ey, e) (simp (and-true, or-false))

never_ends : (continues hx hy : Bool) → hx ≡ false → hy ≡ false → (continues && (hx || hy)) ≡ false
never_ends continues hx hy ex ey = rw (ex, ey, and-false)

pub plainly : (b : Base) (v : Move) → plain b v ≡ true → displaced b v ≡ there b v (moved_x b v).value (moved_y b v).value
unfolding displaced pick
plainly b v p =
    let f = facts b v p in
    rw (never_ends v.continues (moved_x b v).violated (moved_y b v).violated f.x f.y)
    (quietly b v (moved_x b v).value (moved_y b v).value (moved_x b v).violated (moved_y b v).violated _ f.x f.y f.stayed)

-- a sequence of registers r whose next move is v
module _ (k : ℕ) (r : Registers) (ps : List ℕ) (place : ℕ) (v : Move) (q : next_move r.motion r.base.mode r.base.scale ≡ Going v) where
  onward : sequence (suc k) r ps place ≡ on_move (sequence k) (suc k) r ps place (Going v)
  unfolding sequence
  onward = ap (on_move (sequence k) (suc k) r ps place) q

  -- where the move is not plain or has no room the sequence stays
  pub stays_at : (plain r.base v && nat_le (place + length (points (displaced r.base v).lit)) (length ps)) ≡ false →
      sequence (suc k) r ps place ≡ stays (suc k) r ps place
  unfolding pick
  stays_at h = onward ∙ rw h

  pub stops : plain r.base v ≡ false → sequence (suc k) r ps place ≡ stays (suc k) r ps place
  stops h = stays_at (rw h)

  module _ (p : plain r.base v ≡ true) where
    pub full : length ps < place + length (points (lights r.base v)) → sequence (suc k) r ps place ≡ stays (suc k) r ps place
    full h = stays_at (rw (p, plainly r.base v p) (lt-leb _ _ h))

    pub moves_on : place + length (points (lights r.base v)) ≤ length ps →
        sequence (suc k) r ps place ≡ sequence k (at r.base (moved_x r.base v).value (moved_y r.base v).value v.motion)
        (sets ps place (points (lights r.base v))) (place + length (points (lights r.base v)))
    unfolding pick
    moves_on h = onward ∙ rw (p, plainly r.base v p, le-leb _ _ h)

-- where a move arrives, as the code has it, tells whether it is plain
pub tested : (b : Base) (v : Move) {x y : Reached} → moved_x b v ≡ x → moved_y b v ≡ y →
    plain b v ≡ (goes_on v.motion && not (v.escape && not v.continues) && not x.violated && not y.violated)
unfolding plain
tested b v ex ey = rw (ex, ey)

-- how far a loop has come, with the beam at x and y, the motion m and n moves left: the sequence from here is the sequence from the start
pub record Far (n₀ : ℕ) (r₀ : Registers) (ps₀ : List ℕ) (place₀ : ℕ) (b : Base) (n x y : ℕ) (m : Motion) (ps : List ℕ) (place : ℕ) : Type 0 where
  pub size : length ps ≡ length ps₀
  pub room : place ≤ length ps
  pub good : Good (at b x y m)
  pub whole : sequence n₀ r₀ ps₀ place₀ ≡ sequence n (at b x y m) ps place

-- a call that returns here shows the sequence
abbrev pub Shown : ℕ → Registers → List ℕ → ℕ → Base → ℕ → ℕ → ℕ → Motion → List ℕ → ℕ → Type 0
Shown n₀ r₀ ps₀ place₀ b n x y m ps place = (t : Sequence) → t ≡ record { registers = at b x y m; left = n } → leaves t place ps ≡ sequence n₀ r₀ ps₀ place₀

-- where a point is put, the list and the next place in it go on with it
pub record PutAt (lit : Option ℕ) (ps : List ℕ) (place : ℕ) (ps' : List ℕ) (place' : ℕ) : Type 0 where
  pub room : place + length (points lit) ≤ length ps
  pub list : ps' ≡ sets ps place (points lit)
  pub next : place' ≡ place + length (points lit)

pub put_at : {p p' : PointList} {lit : Option ℕ} {put : Bool} → Put p p' lit put → put ≡ true → PutAt lit p.list.now p.place p'.list.now p'.place
unfolding pick
put_at w e = record { room = leb-true _ _ (sym w.told ∙ e); list = w.list ∙ rw e; next = w.place ∙ rw e }

pub put_there : {p p' : PointList} {lit : Option ℕ} {put : Bool} → Put p p' lit put → p.place + length (points lit) ≤ length p.list.now →
    PutAt lit p.list.now p.place p'.list.now p'.place
put_there w h = put_at w (w.told ∙ le-leb _ _ h)

-- where it is not, they stay
pub record PutNowhere (lit : Option ℕ) (ps : List ℕ) (place : ℕ) (ps' : List ℕ) (place' : ℕ) : Type 0 where
  pub full : length ps < place + length (points lit)
  pub list : ps' ≡ ps
  pub next : place' ≡ place

pub put_nowhere : {p p' : PointList} {lit : Option ℕ} {put : Bool} → Put p p' lit put → put ≡ false →
    PutNowhere lit p.list.now p.place p'.list.now p'.place
unfolding pick
put_nowhere w e = record { full = leb-false _ _ (sym w.told ∙ e); list = w.list ∙ rw e; next = w.place ∙ rw e }

module _ {n₀ : ℕ} {r₀ : Registers} {ps₀ : List ℕ} {place₀ : ℕ} {b : Base} {n x y : ℕ} {m : Motion} {ps : List ℕ} {place : ℕ}
    (h : Far n₀ r₀ ps₀ place₀ b n x y m ps place) where
  -- where the sequence stays here, the call shows it
  shows : sequence n (at b x y m) ps place ≡ stays n (at b x y m) ps place →
      Shown n₀ r₀ ps₀ place₀ b n x y m ps place
  shows e t q = ap (λ (s : Sequence). leaves s place ps) q ∙ sym (h.whole ∙ e)

  pub spent : n ≡ 0 → Shown n₀ r₀ ps₀ place₀ b n x y m ps place
  unfolding sequence
  spent e = shows (rw e)

  -- in a turn of a loop, whose next move is v
  module _ {n' : ℕ} (some : n ≡ suc n') {v : Move} (q : next_move m b.mode b.scale ≡ Going v) where
    pub violates : plain (beam_at b x y) v ≡ false → Shown n₀ r₀ ps₀ place₀ b n x y m ps place
    violates p = shows (rw some (stops n' (at b x y m) ps place v q p))

    -- a plain move, with where the code arrives and what it lights
    module _ (p : plain (beam_at b x y) v ≡ true) {nextx nexty : Reached} (ex : moved_x (beam_at b x y) v ≡ nextx) (ey : moved_y (beam_at b x y) v ≡ nexty)
        {lit : Option ℕ} (el : lit ≡ lit_at b v.lastword nextx.value nexty.value v.asked false) where
      same_lit : lights (beam_at b x y) v ≡ lit
      unfolding lit_at
      same_lit = rw (ex, ey) (sym el)

      pub fills : {ps' : List ℕ} {place' : ℕ} → PutNowhere lit ps place ps' place' → Shown n₀ r₀ ps₀ place₀ b n x y m ps' place'
      fills w = rw (w.list, w.next) (shows (rw some (full n' (at b x y m) ps place v q p (rw same_lit w.full))))

      pub goes : {ps' : List ℕ} {place' : ℕ} → PutAt lit ps place ps' place' → Far n₀ r₀ ps₀ place₀ b n' nextx.value nexty.value v.motion ps' place'
      goes {ps'} {place'} w =
          rw (w.list, w.next)
          record {
            size = length-sets ps place (points lit) ∙ h.size;
            room = rw length-sets w.room;
            good = rw (plainly (beam_at b x y) v p, ex, ey) at (displaced_good (at b x y m) v h.good q).registers;
            whole = h.whole ∙ rw some (rw (same_lit, ex, ey) at (moves_on n' (at b x y m) ps place v q p (rw same_lit w.room)));
          }
