-- The plain moves of increment bytes as the code makes them: which moves are plain, and how each way through a turn of the loop goes on. Assumes nothing.
use Prim.Native.Nat.{ℕ, suc, ◌+◌, ◌-◌, ◌%◌, ◌^◌, ◌≤◌, ◌<◌}
use mathlib.Core.Path.{◌≡◌, refl, ap, sym, subst, ◌∙◌}
use mathlib.Core.Bool.{Bool, true, false, not, ◌&&◌, ◌||◌}
use mathlib.Core.List.{List}
use native.Mathlib.Omega.{arith}
use lib.ListN.{length}
use Rattle.std.specs.Prelude.{Option}
use Rattle.words.proofs.Laws.{pick_case}
use Rattle.addresses.specs.declared.DisplayAddress.{DisplayAddress}
use Rattle.paper.specs.declared.Reached.{Reached}
use Rattle.paper.specs.DataWords.{distance, dimension}
use Rattle.paper.specs.Arithmetic.{wrapped}
use Rattle.paper.proofs.Moves.{distance_small}
use Rattle.paper.proofs.Axis.{Parted, parted, rejoined, parted_moved, parted_next}
use Rattle.registers.specs.declared.Base.{Base}
use Rattle.registers.specs.declared.ByteMotion.{ByteMotion}
use Rattle.registers.specs.declared.Motion.{Motion}
use Rattle.registers.specs.declared.Motion.TheVariants.{Bytes}
use Rattle.registers.specs.declared.Registers.{Registers}
use Rattle.registers.specs.Good.{Good}
use Rattle.beam.specs.DataWords.{field_x, field_y, beam_at, lit_at}
use Rattle.moves.specs.declared.Move.{Move}
use Rattle.moves.specs.declared.Moving.TheVariants.{Going}
use Rattle.moves.specs.DataWords.{byte_next, byte_move, next_move, moved_x, moved_y}
use Rattle.move_sequence.specs.PlainMoves.{goes_on, plain}
use Rattle.move_sequence.proofs.Plain.{onto, tested, Shown, PutAt, PutNowhere, Far, violates, fills, goes}

-- a move that the motion goes on behind is plain exactly where nothing is violated and nothing escapes
unescaped : (going escape continues x y : Bool) → going ≡ true → continues ≡ false →
    (going && not (escape && not continues) && not x && not y) ≡ not (x || y || escape)
unescaped going escape continues x y eg ec = rw (eg, ec) (by escape x y)
  where
    by : (escape x y : Bool) → (not (escape && true) && not x && not y) ≡ not (x || y || escape)
    by false true y = refl
    by false false true = refl
    by false false false = refl
    by true true y = refl
    by true false true = refl
    by true false false = refl

-- a byte's move is no longer than the distance
short : (a : DisplayAddress) (t : ByteMotion) (s : ℕ) → s ≤ 8 → ((byte_move a t s).travelx ≤ 255) × ((byte_move a t s).travely ≤ 255)
unfolding byte_move
short a t s h = (pick_case (λ (n : ℕ). n ≤ 255) _ (λ _. omega arith) (λ _. omega arith), pick_case (λ (n : ℕ). n ≤ 255) _ (λ _. omega arith) (λ _. omega arith))

not_continued : (a : DisplayAddress) (t : ByteMotion) (s : ℕ) → (byte_move a t s).continues ≡ false
unfolding byte_move
not_continued a t s = refl

-- it tells the motion's address, and the motion keeps it
told : (a : DisplayAddress) (t : ByteMotion) (s : ℕ) → (byte_move a t s).lastword ≡ a
unfolding byte_move
told a t s = refl

next_told : (a w : DisplayAddress) (t next : ByteMotion) (escape : Bool) → byte_next a t escape ≡ Bytes w next → a ≡ w
unfolding byte_next
next_told a w t next escape =
    let same : Motion → Type 0 = λ (m : Motion). m ≡ Bytes w next → a ≡ w in
    pick_case same _ (λ _ e. cc) (λ _. pick_case same _ (λ _ e. cc) (λ _ e. cc))

motion_told : (a w : DisplayAddress) (t next : ByteMotion) (s : ℕ) → (byte_move a t s).motion ≡ Bytes w next → a ≡ w
unfolding byte_move
motion_told a w t next s = next_told a w t next _

-- where no byte follows, nothing does
last : (a : DisplayAddress) (t : ByteMotion) (escape : Bool) → ((w : DisplayAddress) (next : ByteMotion) → byte_next a t escape ≡ Bytes w next → ⊥) →
    goes_on (byte_next a t escape) ≡ false
unfolding byte_next
last a t escape =
    let none : Motion → Type 0 = λ (m : Motion). ((w : DisplayAddress) (next : ByteMotion) → m ≡ Bytes w next → ⊥) → goes_on m ≡ false in
    pick_case none _ (λ _ h. absurd (h _ _ refl)) (λ _. pick_case none _ (λ _ _. refl) (λ _ h. absurd (h _ _ refl)))

motion_last : (a : DisplayAddress) (t : ByteMotion) (s : ℕ) → ((w : DisplayAddress) (next : ByteMotion) → (byte_move a t s).motion ≡ Bytes w next → ⊥) →
    goes_on (byte_move a t s).motion ≡ false
unfolding byte_move
motion_last a t s = last a t _

-- what the loop's head keeps: what was set before it, and how far it has come
pub record Along (n₀ : ℕ) (r₀ : Registers) (ps₀ : List ℕ) (place₀ : ℕ) (b : Base) (placesx placesy travel upperx uppery : ℕ) (lastword : DisplayAddress) (n lowx lowy : ℕ) (t : ByteMotion) (ps : List ℕ) (place : ℕ) : Type 0 where
  pub axisx : Parted (field_x b) placesx upperx lowx
  pub axisy : Parted (field_y b) placesy uppery lowy
  pub reach : travel ≡ distance b.scale
  pub far : Far n₀ r₀ ps₀ place₀ b n (upperx + lowx) (uppery + lowy) (Bytes lastword t) ps place

pub start : {n : ℕ} {b : Base} {lastword : DisplayAddress} {t : ByteMotion} {ps : List ℕ} {from placesx placesy travel : ℕ} →
    Good (record { base = b; motion = Bytes lastword t }) → from ≤ length ps → placesx ≡ 2 ^ dimension (field_x b) → placesy ≡ 2 ^ dimension (field_y b) →
    travel ≡ distance b.scale →
    Along n (record { base = b; motion = Bytes lastword t }) ps from b placesx placesy travel (b.x - b.x % placesx) (b.y - b.y % placesy) lastword n (b.x % placesx) (b.y % placesy) t ps from
start {b = b} {placesx = placesx} {placesy = placesy} g room px py e =
    record {
      axisx = parted (field_x b) placesx b.x px;
      axisy = parted (field_y b) placesy b.y py;
      reach = e;
      far = rw (rejoined placesx b.x, rejoined placesy b.y) (record { size = refl; room = room; good = g; whole = refl });
    }

module _ {n₀ : ℕ} {r₀ : Registers} {ps₀ : List ℕ} {place₀ : ℕ} {b : Base} {placesx placesy travel upperx uppery : ℕ} {lastword : DisplayAddress} {n lowx lowy : ℕ} {t : ByteMotion} {ps : List ℕ} {place : ℕ}
    (a : Along n₀ r₀ ps₀ place₀ b placesx placesy travel upperx uppery lastword n lowx lowy t ps place) (some : 0 < n) {v : Move} (moves : v ≡ byte_move lastword t travel) where
  -- a call that returns here shows the sequence
  abbrev Shows : Type 0
  Shows = Shown n₀ r₀ ps₀ place₀ b n (upperx + lowx) (uppery + lowy) (Bytes lastword t) ps place

  as_defined : v ≡ byte_move lastword t (distance b.scale)
  as_defined = moves ∙ ap (byte_move lastword t) a.reach

  next_move_lem : next_move (Bytes lastword t) b.mode b.scale ≡ Going v
  unfolding next_move
  next_move_lem = ap Going (sym as_defined)

  fewer : n ≡ suc (n - 1)
  fewer = omega arith

  near : (v.travelx ≤ 255) × (v.travely ≤ 255)
  near = rw as_defined (short lastword t (distance b.scale) (distance_small _))

  -- a move that no byte follows is not made
  pub ends : ((w : DisplayAddress) (next : ByteMotion) → v.motion ≡ Bytes w next → ⊥) → Shows
  unfolding plain
  ends h = violates a.far fewer next_move_lem (rw (ap (λ (w : Move). goes_on w.motion) moves ∙ motion_last lastword t travel (rw moves at h)))

  -- bytes follow, and the code has tried both axes
  module _ {w : DisplayAddress} {next : ByteMotion} (comes : v.motion ≡ Bytes w next) {nextx nexty : Reached}
      (nx : nextx ≡ wrapped placesx lowx v.travelx v.minusx) (ny : nexty ≡ wrapped placesy lowy v.travely v.minusy) where
    follows : v.motion ≡ Bytes lastword next
    follows = rw (motion_told lastword w t next travel (rw moves at comes)) comes

    there_x : moved_x (beam_at b (upperx + lowx) (uppery + lowy)) v ≡ onto upperx nextx
    there_x = parted_moved a.axisx v.travelx near.0 v.minusx nx

    there_y : moved_y (beam_at b (upperx + lowx) (uppery + lowy)) v ≡ onto uppery nexty
    there_y = parted_moved a.axisy v.travely near.1 v.minusy ny

    tests : plain (beam_at b (upperx + lowx) (uppery + lowy)) v ≡ not (nextx.violated || nexty.violated || v.escape)
    tests =
        tested (beam_at b (upperx + lowx) (uppery + lowy)) v there_x there_y
        ∙ unescaped (goes_on v.motion) v.escape v.continues nextx.violated nexty.violated (ap goes_on follows) (ap (λ (w : Move). w.continues) moves ∙ not_continued lastword t travel)

    -- a move that violates or escapes is not made
    pub stops : (nextx.violated || nexty.violated || v.escape) ≡ true → Shows
    stops e = violates a.far fewer next_move_lem (tests ∙ rw e)

    -- any other, with what it lights
    module _ (e : (nextx.violated || nexty.violated || v.escape) ≡ false) {lit : Option ℕ} (el : lit ≡ lit_at b lastword (upperx + nextx.value) (uppery + nexty.value) v.asked false) where
      plainly : plain (beam_at b (upperx + lowx) (uppery + lowy)) v ≡ true
      plainly = tests ∙ rw e

      lights : lit ≡ lit_at b v.lastword (upperx + nextx.value) (uppery + nexty.value) v.asked false
      lights = rw (ap (λ (m : Move). m.lastword) moves ∙ told lastword t travel) el

      -- without room for its point it is not made
      pub crammed : {ps' : List ℕ} {place' : ℕ} → PutNowhere lit ps place ps' place' →
          Shown n₀ r₀ ps₀ place₀ b n (upperx + lowx) (uppery + lowy) (Bytes lastword t) ps' place'
      crammed w = fills a.far fewer next_move_lem plainly there_x there_y lights w

      -- with room for it, it is made
      pub onwards : {ps' : List ℕ} {place' : ℕ} → PutAt lit ps place ps' place' →
          Along n₀ r₀ ps₀ place₀ b placesx placesy travel upperx uppery lastword (n - 1) nextx.value nexty.value next ps' place'
      onwards {ps'} {place'} put =
          record {
            axisx = parted_next a.axisx v.travelx v.minusx nx;
            axisy = parted_next a.axisy v.travely v.minusy ny;
            reach = a.reach;
            far =
                subst (λ (m : Motion). Far n₀ r₀ ps₀ place₀ b (n - 1) (upperx + nextx.value) (uppery + nexty.value) m ps' place') follows
                (goes a.far fewer next_move_lem plainly there_x there_y lights put);
          }
