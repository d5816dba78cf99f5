-- The plain moves of a line as the code makes them: what it carries of each axis tells the next move and where it arrives, the loop's head keeps `Along`, and
-- each way through a turn of the loop, and out of it, is a law over `Along`. Assumes nothing.
use Prim.Native.Nat.{ℕ, zero, suc, ◌+◌, ◌-◌, ◌*◌, ◌%◌, ◌^◌, ◌≤◌, ◌<◌}
use mathlib.Core.Path.{◌≡◌, refl, sym, ◌∙◌}
use mathlib.Core.Bool.{Bool, true, false, not, ◌&&◌, ◌||◌}
use mathlib.Core.List.{List}
use mathlib.Core.Logic.{◌⊎◌, inl, inr, ⊎_elim}
use native.Mathlib.Nat.{le_trans}
use native.Mathlib.Numerals.{add-one}
use native.Mathlib.Omega.{arith}
use mir.Syntax.{w16, w32}
use mir.Val.{Fits}
use Rattle.std.specs.Prelude.{nat_eq, nat_lt, nat_le, Option}
use lib.ListN.{length}
use borrow.Author.Tests.{ltb-true, ltb-false, lt-ltb, le-ltb, lt-leb}
use Rattle.words.specs.Words.{pick}
use Rattle.words.proofs.Laws.{pick_case}
use Rattle.addresses.specs.declared.DisplayAddress.{DisplayAddress}
use Rattle.paper.specs.declared.Reached.{Reached}
use Rattle.paper.specs.DataWords.{distance, dimension, travel}
use Rattle.paper.specs.Arithmetic.{wrapped, owed}
use Rattle.paper.proofs.Moves.{distance_small}
use Rattle.paper.proofs.Lines.{owed_below, advance_owed, owed_next, travel_small}
use Rattle.paper.proofs.Axis.{Parted, parted, rejoined, parted_moved, parted_next}
use Rattle.registers.specs.declared.Base.{Base}
use Rattle.registers.specs.declared.LineMotion.{LineMotion}
use Rattle.registers.specs.declared.Motion.{Motion}
use Rattle.registers.specs.declared.Motion.TheVariants.{Line}
use Rattle.registers.specs.declared.Registers.{Registers}
use Rattle.registers.specs.Good.{Good}
use Rattle.registers.proofs.InRange.{line_bounds}
use Rattle.beam.specs.DataWords.{field_x, field_y, beam_at, lit_at}
use Rattle.moves.specs.declared.Move.{Move}
use Rattle.moves.specs.declared.Moving.TheVariants.{Going}
use Rattle.moves.specs.DataWords.{with_done, line_next, line_move, next_move, moved_x, moved_y}
use Rattle.moves.proofs.Kept.{waits}
use Rattle.move_sequence.specs.PlainMoves.{goes_on, plain}
use Rattle.move_sequence.proofs.Plain.{onto, at, tested, Shown, PutAt, PutNowhere, Far, spent, violates, fills, goes}

-- the registers with the beam at x and y and k moves of the line done
abbrev on_line : Base → DisplayAddress → LineMotion → ℕ → ℕ → ℕ → Registers
on_line b lastword l x y k = at b x y (Line lastword (with_done l k))

-- the move that they make next
abbrev line_from : Base → DisplayAddress → LineMotion → ℕ → Move
line_from b lastword l k = line_move lastword (with_done l k) (distance b.scale) (nat_eq b.mode 3)

next : (b : Base) (lastword : DisplayAddress) (l : LineMotion) (k : ℕ) → next_move (Line lastword (with_done l k)) b.mode b.scale ≡ Going (line_from b lastword l k)
unfolding next_move
next b lastword l k = refl

-- a move that is not the line's last goes on with it and escapes nothing
module _ (b : Base) (lastword : DisplayAddress) (l : LineMotion) (k : ℕ) (less : k + 1 < l.moves) where
  line_on : (line_from b lastword l k).motion ≡ Line lastword (with_done l (k + 1))
  unfolding line_move line_next pick
  line_on = rw (lt-ltb (k + 1) l.moves less)

  quiet : ((line_from b lastword l k).escape && not (line_from b lastword l k).continues) ≡ false
  unfolding line_move
  quiet = waits l.escape (nat_le l.moves (k + 1)) (nat_eq b.mode 3) (rw (lt-leb l.moves (k + 1) less))

-- so it is plain exactly where nothing is violated
unviolated : (going still x y : Bool) → going ≡ true → still ≡ false → (going && not still && not x && not y) ≡ not (x || y)
unviolated going still true y eg es = rw (eg, es)
unviolated going still false y eg es = rw (eg, es)

-- a line's last move ends it or starts it over, so it is not plain
last_ends : (b : Base) (lastword : DisplayAddress) (l : LineMotion) (k : ℕ) → l.moves ≤ k + 1 → goes_on (line_from b lastword l k).motion ≡ false
unfolding line_move line_next pick
last_ends b lastword l k h =
    rw (le-ltb (k + 1) l.moves h) (pick_case (λ (m : Motion). goes_on m ≡ false) (nat_eq b.mode 3) (λ _. refl) (λ _. refl))

last_stays : (b : Base) (lastword : DisplayAddress) (l : LineMotion) (x y k : ℕ) → l.moves ≤ k + 1 → plain (beam_at b x y) (line_from b lastword l k) ≡ false
unfolding plain
last_stays b lastword l x y k h = rw (last_ends b lastword l k h)

-- where the loop ends: with as many moves done as the limit lets, or with all but the last
pub record Bound (done moves limit last : ℕ) : Type 0 where
  pub limited : last ≤ done + limit
  pub short : last < moves
  pub met : (last ≡ done + limit) ⊎ (last + 1 ≡ moves)

bound : (done moves limit : ℕ) → done < moves → Bound done moves limit (pick (nat_lt limit (moves - 1 - done)) (done + limit) (moves - 1))
bound done moves limit h =
    pick_case (Bound done moves limit) _
    (λ e. record { limited = omega arith; short = omega (arith, ltb-true limit (moves - 1 - done) e); met = inl refl })
    (λ e. record { limited = omega (arith, ltb-false limit (moves - 1 - done) e); short = omega arith; met = inr (omega arith) })

-- what the loop carries of an axis tells how far it travels in the next move, and what to carry behind it
module _ (k m n : ℕ) (some : 0 < n) {owes twice : ℕ} (e : owes ≡ owed k m n) (d : twice ≡ 2 * n) where
  travels : (s : ℕ) → pick (nat_le twice (owes + 2 * m)) s 0 ≡ travel k m n s
  unfolding travel
  travels s = rw (d, e, advance_owed k m n some)

  carries : m ≤ n → pick (nat_le twice (owes + 2 * m)) (owes + 2 * m - twice) (owes + 2 * m) ≡ owed (k + 1) m n
  carries h = rw (d, e, add-one k) (sym (owed_next k m n some h))

-- no travel is longer than 8
near : (k m n scale : ℕ) → travel k m n (distance scale) ≤ 255
near k m n scale = le_trans (travel_small k m n (distance scale)) (le_trans (distance_small scale) (omega arith))

-- what the loop's head keeps: what was set before it, where it ends, what it carries, and how far it has come
pub record Along (b : Base) (lastword : DisplayAddress) (l : LineMotion) (ps₀ : List ℕ) (from limit placesx placesy reach last upperx uppery twice : ℕ) (ps : List ℕ) (lowx lowy owedx owedy done place : ℕ) : Type 0 where
  pub axisx : Parted (field_x b) placesx upperx lowx
  pub axisy : Parted (field_y b) placesy uppery lowy
  pub distanced : reach ≡ distance b.scale
  pub doubled : twice ≡ 2 * l.moves
  pub owesx : owedx ≡ owed done l.magx l.moves
  pub owesy : owedy ≡ owed done l.magy l.moves
  pub bounds : Bound l.done l.moves limit last
  pub begun : l.done ≤ done
  pub reached : done ≤ last
  pub far : Far limit (record { base = b; motion = Line lastword l }) ps₀ from b (limit - (done - l.done)) (upperx + lowx) (uppery + lowy) (Line lastword (with_done l done)) ps place

pub start : {b : Base} {lastword : DisplayAddress} {l : LineMotion} {ps : List ℕ} {from limit placesx placesy reach last owedx owedy : ℕ} →
    Good (record { base = b; motion = Line lastword l }) → from ≤ length ps → placesx ≡ 2 ^ dimension (field_x b) → placesy ≡ 2 ^ dimension (field_y b) →
    reach ≡ distance b.scale → last ≡ pick (nat_lt limit (l.moves - 1 - l.done)) (l.done + limit) (l.moves - 1) →
    owedx ≡ owed l.done l.magx l.moves → owedy ≡ owed l.done l.magy l.moves →
    Along b lastword l ps from limit placesx placesy reach last (b.x - b.x % placesx) (b.y - b.y % placesy) (2 * l.moves) ps (b.x % placesx) (b.y % placesy) owedx owedy l.done from
start {b = b} {l = l} {limit = limit} {placesx = placesx} {placesy = placesy} {last = last} g room px py e el ox oy =
    let n : Bound l.done l.moves limit last = rw el (bound l.done l.moves limit g.motion.3.done) in
    let all : limit - (l.done - l.done) ≡ limit = omega arith in
    record {
      axisx = parted (field_x b) placesx b.x px;
      axisy = parted (field_y b) placesy b.y py;
      distanced = e;
      doubled = refl;
      owesx = ox;
      owesy = oy;
      bounds = n;
      begun = omega arith;
      reached = ⊎_elim (λ h. omega arith) (λ h. omega (arith, g.motion.3.done)) n.met;
      far = rw (rejoined placesx b.x, rejoined placesy b.y) (record { size = refl; room = room; good = g; whole = rw all });
    }

module _ {b : Base} {lastword : DisplayAddress} {l : LineMotion} {ps₀ : List ℕ} {from limit placesx placesy reach last upperx uppery twice : ℕ} {ps : List ℕ} {lowx lowy owedx owedy done place : ℕ}
    (a : Along b lastword l ps₀ from limit placesx placesy reach last upperx uppery twice ps lowx lowy owedx owedy done place) where
  -- a call that returns here shows the sequence
  abbrev Shows : Type 0
  Shows = Shown limit (record { base = b; motion = Line lastword l }) ps₀ from b (limit - (done - l.done)) (upperx + lowx) (uppery + lowy) (Line lastword (with_done l done)) ps place

  -- the numbers are small
  pub few : done ≤ 1023
  few = omega (arith, a.reached, a.bounds.short, (line_bounds a.far.good.motion.3).2)

  pub reaches : (owedx + 2 * l.magx ≤ 4092) × (owedy + 2 * l.magy ≤ 4092)
  reaches =
      let g = line_bounds a.far.good.motion.3 in
      (rw a.owesx (omega (arith, owed_below done l.magx l.moves, g.0, g.2)), rw a.owesy (omega (arith, owed_below done l.magy l.moves, g.1, g.2)))

  -- and fit where the code works them out
  pub fits_x : Fits w16 (upperx + lowx)
  fits_x = record { fits = omega (arith, a.far.good.base.x) }

  pub fits_y : Fits w16 (uppery + lowy)
  fits_y = record { fits = omega (arith, a.far.good.base.y) }

  pub fits_made : Fits w32 (done - l.done)
  fits_made = record { fits = omega (arith, few) }

  pub made_limited : done - l.done ≤ limit
  made_limited = omega (arith, a.begun, a.reached, a.bounds.limited)

  pub fits_magnitudes : Fits w32 l.magx × Fits w32 l.magy
  fits_magnitudes =
      let g = line_bounds a.far.good.motion.3 in
      (record { fits = omega (arith, g.0, g.2) }, record { fits = omega (arith, g.1, g.2) })

  pub fits_twice : Fits w32 (2 * l.magx) × Fits w32 (2 * l.magy)
  fits_twice =
      let g = line_bounds a.far.good.motion.3 in
      (record { fits = omega (arith, g.0, g.2) }, record { fits = omega (arith, g.1, g.2) })

  pub fits_reaches : Fits w32 (owedx + 2 * l.magx) × Fits w32 (owedy + 2 * l.magy)
  fits_reaches = (record { fits = omega (arith, reaches.0) }, record { fits = omega (arith, reaches.1) })

  pub fits_done : done < last → Fits w16 (done + 1)
  fits_done h = record { fits = omega (arith, few) }

  -- behind the loop no move is left, or the line's last one is next
  pub over : last ≤ done → Shows
  over h = by (limit - (done - l.done)) refl
    where
      by : (n : ℕ) → limit - (done - l.done) ≡ n → Shows
      by zero e = spent a.far e
      by (suc n) e =
          violates a.far e (next b lastword l done)
          (last_stays b lastword l (upperx + lowx) (uppery + lowy) done (⊎_elim (λ m. absurd (omega arith)) (λ m. omega arith) a.bounds.met))

  -- in a turn of the loop, with how far the code takes each axis, and where
  module _ (turn : done < last) {travelx travely : ℕ} {nextx nexty : Reached}
      (tx : travelx ≡ pick (nat_le twice (owedx + 2 * l.magx)) reach 0) (ty : travely ≡ pick (nat_le twice (owedy + 2 * l.magy)) reach 0)
      (nx : nextx ≡ wrapped placesx lowx travelx l.minusx) (ny : nexty ≡ wrapped placesy lowy travely l.minusy) where
    less : done + 1 < l.moves
    less = omega (arith, a.bounds.short)

    some : limit - (done - l.done) ≡ suc (limit - (done + 1 - l.done))
    some = omega (arith, a.bounds.limited, a.begun)

    there_x : moved_x (beam_at b (upperx + lowx) (uppery + lowy)) (line_from b lastword l done) ≡ onto upperx nextx
    unfolding line_move
    there_x =
        parted_moved a.axisx (travel done l.magx l.moves (distance b.scale)) (near done l.magx l.moves b.scale) l.minusx
        (nx ∙ rw (tx, a.distanced, travels done l.magx l.moves (omega arith) a.owesx a.doubled (distance b.scale)))

    there_y : moved_y (beam_at b (upperx + lowx) (uppery + lowy)) (line_from b lastword l done) ≡ onto uppery nexty
    unfolding line_move
    there_y =
        parted_moved a.axisy (travel done l.magy l.moves (distance b.scale)) (near done l.magy l.moves b.scale) l.minusy
        (ny ∙ rw (ty, a.distanced, travels done l.magy l.moves (omega arith) a.owesy a.doubled (distance b.scale)))

    tests : plain (beam_at b (upperx + lowx) (uppery + lowy)) (line_from b lastword l done) ≡ not (nextx.violated || nexty.violated)
    tests =
        tested (beam_at b (upperx + lowx) (uppery + lowy)) (line_from b lastword l done) there_x there_y
        ∙ unviolated (goes_on (line_from b lastword l done).motion) ((line_from b lastword l done).escape && not (line_from b lastword l done).continues) nextx.violated
        nexty.violated (rw (line_on b lastword l done less) (lt-ltb 0 (done + 1) (omega arith))) (quiet b lastword l done less)

    -- a move that violates is not made
    pub edge : (nextx.violated || nexty.violated) ≡ true → Shows
    edge e = violates a.far some (next b lastword l done) (tests ∙ rw e)

    -- any other, with what it lights
    module _ (e : (nextx.violated || nexty.violated) ≡ false) {lit : Option ℕ} (el : lit ≡ lit_at b lastword (upperx + nextx.value) (uppery + nexty.value) l.lit false) where
      plainly : plain (beam_at b (upperx + lowx) (uppery + lowy)) (line_from b lastword l done) ≡ true
      plainly = tests ∙ rw e

      asked : lit ≡ lit_at b (line_from b lastword l done).lastword (upperx + nextx.value) (uppery + nexty.value) (line_from b lastword l done).asked false
      unfolding line_move
      asked = el

      -- without room for its point it is not made
      pub crammed : {ps' : List ℕ} {place' : ℕ} → PutNowhere lit ps place ps' place' →
          Shown limit (record { base = b; motion = Line lastword l }) ps₀ from b (limit - (done - l.done)) (upperx + lowx) (uppery + lowy) (Line lastword (with_done l done)) ps' place'
      crammed w = fills a.far some (next b lastword l done) plainly there_x there_y asked w

      -- with room for it, it is made
      pub onwards : {ps' : List ℕ} {place' owedx' owedy' : ℕ} → PutAt lit ps place ps' place' →
          owedx' ≡ pick (nat_le twice (owedx + 2 * l.magx)) (owedx + 2 * l.magx - twice) (owedx + 2 * l.magx) →
          owedy' ≡ pick (nat_le twice (owedy + 2 * l.magy)) (owedy + 2 * l.magy - twice) (owedy + 2 * l.magy) →
          Along b lastword l ps₀ from limit placesx placesy reach last upperx uppery twice ps' nextx.value nexty.value owedx' owedy' (done + 1) place'
      onwards w ox oy =
          let g = line_bounds a.far.good.motion.3 in
          record {
            axisx = parted_next a.axisx travelx l.minusx nx;
            axisy = parted_next a.axisy travely l.minusy ny;
            distanced = a.distanced;
            doubled = a.doubled;
            owesx = ox ∙ carries done l.magx l.moves (omega arith) a.owesx a.doubled g.0;
            owesy = oy ∙ carries done l.magy l.moves (omega arith) a.owesy a.doubled g.1;
            bounds = a.bounds;
            begun = omega (arith, a.begun);
            reached = omega arith;
            far = rw (line_on b lastword l done less) at (goes a.far some (next b lastword l done) plainly there_x there_y asked w);
          }
