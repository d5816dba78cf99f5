-- A turn keeps registers in range, and lights a point, of parts in range, only where there is room. The commands' own laws are in the crates below: here the dispatch is looked
-- at once, and the walk not at all. Assumes nothing.
use Prim.Native.Nat.{ℕ, ◌≤◌}
use mathlib.Core.Path.{◌≡◌, refl}
use mathlib.Core.Bool.{Bool, true, false, ◌&&◌}
use mathlib.Core.List.{List}
use native.Mathlib.Omega.{arith}
use Rattle.std.specs.Prelude.{nat_eq, nat_le}
use lib.ListN.{length}
use borrow.Author.Tests.{leb-true, eqb-true, eqb-false}
use Rattle.words.proofs.Laws.{pick_case}
use Rattle.registers.specs.declared.Base.{Base}
use Rattle.registers.specs.declared.Registers.{Registers}
use Rattle.registers.specs.Good.{GoodBase, Good}
use Rattle.beam.proofs.Kept.{GoodOutcome}
use Rattle.moves.specs.declared.Moving.{Moving}
use Rattle.moves.specs.declared.Moving.TheVariants.{Still, Going, Looks, Reads}
use Rattle.moves.specs.DataWords.{next_move}
use Rattle.moves.proofs.KeptCharacters.{displaced_good, looks_good, reads_good}
use Rattle.drawing.proofs.Kept.{point_good, increment_good, vector_good, short_vector_good, character_good, graphplot_good}
use Rattle.characters.proofs.Kept.{table_good, routine_good}
use Rattle.loan.specs.declared.Loan.{Loan}
use Rattle.touches.specs.declared.Act.{Act}
use Rattle.touches.specs.Touches.{Turn, Fails, Rests, Does, walk}
use Rattle.touches.proofs.Kept.{GoodRest, GoodAct, GoodBeat, GoodTurn, taking_good, walk_good}
use Rattle.control_beats.specs.ControlWords.{hold_ended, ready}
use Rattle.control_beats.proofs.Kept.{hold_ended_good, ready_good, control_good}
use Rattle.beam.specs.DataWords.{points}
use Rattle.turns.specs.OneTurn.{long_beat, data_beat, command_beat, unusable, idle_beat, table_beat, routine_beat, beat_by, beat, room_for, turn}

-- THE DISPATCH

-- data state in a mode that is usable
usable : (d x : Bool) → d ≡ true → (d && x) ≡ false → x ≡ false
usable true x d u = u
usable false x d u = cc

-- how a command beat begins makes no mode unusable
ready_usable : (b : Base) → unusable b ≡ false → unusable (ready b) ≡ false
unfolding unusable
ready_usable b u = u

data_good : (b : Base) (w : ℕ) → GoodBase b → b.datastate ≡ true → unusable b ≡ false → w ≤ 4095 → GoodBeat (data_beat b w)
unfolding data_beat long_beat unusable
data_good b w g d u h =
    let n = usable b.datastate (nat_eq b.mode 7) d u in
    pick_case GoodBeat (nat_eq b.mode 1) (λ e. increment_good b w g d (eqb-true _ _ e) h)
    (λ e1. pick_case GoodBeat (nat_eq b.mode 4)
    (λ e. let four = eqb-true b.mode 4 e in short_vector_good b w g d (omega arith) (omega arith))
    (λ e4. pick_case GoodBeat (nat_eq b.mode 5) (λ _. character_good b w g h)
    (λ e5. pick_case GoodBeat (nat_eq b.mode 6) (λ _. graphplot_good b w g)
    (λ e6 v _. pick_case GoodOutcome (nat_eq b.mode 0) (λ _. point_good b w v g)
    (λ e0.
    let t : (2 ≤ b.mode) × (b.mode ≤ 4) = omega (arith, eqb-false b.mode 0 e0, eqb-false b.mode 1 e1, eqb-false b.mode 4 e4, eqb-false b.mode 6 e6, eqb-false b.mode 5 e5, eqb-false b.mode 7 n, g.mode) in
    vector_good b w v g d t.0 t.1)))))

idle_good : (b : Base) → GoodBase b → GoodBeat (idle_beat b)
unfolding idle_beat command_beat
idle_good b g =
    let begun = ready_good b g in
    pick_case GoodBeat _ (λ _. taking_good b.address _ b.held g.held (λ _ h. h))
    (λ _. pick_case GoodBeat (unusable b) (λ _. tt)
    (λ u. taking_good b.address _ b.held g.held
    (λ w h. pick_case GoodBeat b.datastate (λ d. data_good (ready b) w begun d (ready_usable b u) h) (λ _. control_good (ready b) w begun))))

by_good : (r : Registers) → Good r → (v : Moving) → next_move r.motion r.base.mode r.base.scale ≡ v → GoodBeat (beat_by r.base v)
unfolding table_beat routine_beat
by_good r g Still e = idle_good r.base g.base
by_good r g (Going m) e = displaced_good r m g e
by_good r g (Looks c) e = λ w h. table_good (hold_ended r.base) c w (hold_ended_good r.base g.base) (looks_good r c g e)
by_good r g (Reads c short at) e =
    let k = reads_good r c short at g e in
    λ w h. routine_good (hold_ended r.base) c short at w (hold_ended_good r.base g.base) k.0 k.1 h

beat_good : (r : Registers) → Good r → GoodBeat (beat r)
beat_good r g = by_good r g _ refl

-- THE TURN

pub record Fine (room : ℕ) (c : Act) : Type 0 where
  pub good : GoodAct c
  pub fits : length (points c.lit) ≤ room

abbrev pub FineTurn : ℕ → Turn → Type 0
FineTurn room (Fails why) = Unit {0}
FineTurn room (Rests resting) = GoodRest resting
FineTurn room (Does c) = Fine room c

room_fine : (room : ℕ) (t : Turn) → GoodTurn t → FineTurn room (room_for room t)
unfolding room_for
room_fine room (Fails why) h = tt
room_fine room (Rests resting) h = h
room_fine room (Does c) h =
    pick_case (FineTurn room) (nat_le (length (points c.lit)) room)
    (λ e. record { good = h; fits = leb-true _ _ e })
    (λ _. tt)

pub turn_fine : (l : Loan) (room : ℕ) (r : Registers) → Good r → (m : List ℕ) → FineTurn room (turn l room r m)
unfolding turn
turn_fine l room r g m = room_fine room (walk l m (beat r)) (walk_good l m (beat r) (beat_good r g))
