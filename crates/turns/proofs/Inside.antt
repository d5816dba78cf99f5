-- A turn from registers in range tells an address of memory where a touch can't be made. Assumes nothing.
use Prim.Native.Nat.{ℕ}
use mathlib.Core.Path.{◌≡◌, refl}
use mathlib.Core.List.{List}
use native.Mathlib.Omega.{arith}
use Rattle.std.specs.Prelude.{nat_eq, nat_le}
use lib.ListN.{length}
use Rattle.words.proofs.Laws.{pick_case}
use Rattle.addresses.specs.Addresses.{address_after}
use Rattle.registers.specs.declared.Base.{Base}
use Rattle.registers.specs.declared.Registers.{Registers}
use Rattle.registers.specs.Good.{GoodBase, Good}
use Rattle.beam.specs.DataWords.{points}
use Rattle.moves.specs.declared.Moving.{Moving}
use Rattle.moves.specs.declared.Moving.TheVariants.{Still, Going, Looks, Reads}
use Rattle.moves.specs.DataWords.{next_move}
use Rattle.moves.proofs.KeptCharacters.{reads_good}
use Rattle.characters.specs.Characters.{table_address}
use Rattle.loan.specs.declared.Loan.{Loan}
use Rattle.touches.specs.Touches.{Turn, Fails, Rests, Does, walk}
use Rattle.touches.proofs.Inside.{Inside, InsideTurn, taking_inside, walk_inside}
use Rattle.control_beats.specs.ControlWords.{ready}
use Rattle.control_beats.proofs.Inside.{control_inside}
use Rattle.turns.specs.OneTurn.{long_beat, data_beat, command_beat, unusable, idle_beat, table_beat, routine_beat, beat_by, beat, room_for, turn}

data_inside : (b : Base) (w : ℕ) → Inside (data_beat b w)
unfolding data_beat long_beat address_after
data_inside b w =
    pick_case Inside (nat_eq b.mode 1) (λ _. tt)
    (λ _. pick_case Inside (nat_eq b.mode 4) (λ _. tt)
    (λ _. pick_case Inside (nat_eq b.mode 5) (λ _. tt)
    (λ _. pick_case Inside (nat_eq b.mode 6) (λ _. tt) (λ _. (omega arith, λ _. tt)))))

idle_inside : (b : Base) → GoodBase b → Inside (idle_beat b)
unfolding idle_beat command_beat
idle_inside b g =
    pick_case Inside _ (λ _. taking_inside b.address _ b.held g.address (λ _. tt))
    (λ _. pick_case Inside (unusable b) (λ _. tt)
    (λ _. taking_inside b.address _ b.held g.address
    (λ w. pick_case Inside b.datastate (λ _. data_inside (ready b) w) (λ _. control_inside (ready b) w))))

by_inside : (r : Registers) → Good r → (v : Moving) → next_move r.motion r.base.mode r.base.scale ≡ v → Inside (beat_by r.base v)
unfolding table_beat table_address routine_beat
by_inside r g Still e = idle_inside r.base g.base
by_inside r g (Going v) e = tt
by_inside r g (Looks c) e = (omega arith, λ _. tt)
by_inside r g (Reads c short at) e = ((reads_good r c short at g e).1, λ _. tt)

beat_inside : (r : Registers) → Good r → Inside (beat r)
beat_inside r g = by_inside r g _ refl

room_inside : (room : ℕ) (t : Turn) → InsideTurn t → InsideTurn (room_for room t)
unfolding room_for
room_inside room (Fails why) h = h
room_inside room (Rests resting) h = tt
room_inside room (Does c) h = pick_case InsideTurn (nat_le (length (points c.lit)) room) (λ _. tt) (λ _. tt)

pub turn_inside : (l : Loan) (room : ℕ) (r : Registers) → Good r → (m : List ℕ) → InsideTurn (turn l room r m)
unfolding turn
turn_inside l room r g m = room_inside room (walk l m (beat r)) (walk_inside l m (beat r) (beat_inside r g))
