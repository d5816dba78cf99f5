-- Section 'One turn of a run' of 01, with Nos. 4 and 6 of 02: the beat that the registers make, and tests 2 to 5 of a turn. How a beat's touches are made is in
-- touches, the beats of control words are in control_beats. Assumes nothing.
use Rattle.std.specs.Prelude.{ℕ, Bool, ◌&&◌, List, nat_eq, nat_le, length}
use Rattle.words.specs.Words.{pick}
use Rattle.addresses.specs.declared.DisplayAddress.{DisplayAddress}
use Rattle.addresses.specs.Addresses.{address_after}
use Rattle.registers.specs.declared.Base.{Base}
use Rattle.registers.specs.declared.CharacterMotion.{CharacterMotion}
use Rattle.registers.specs.declared.Registers.{Registers}
use Rattle.moves.specs.declared.Moving.{Moving}
use Rattle.moves.specs.declared.Moving.TheVariants.{Still, Going, Looks, Reads}
use Rattle.beam.specs.DataWords.{points}
use Rattle.moves.specs.DataWords.{next_move, displaced}
use Rattle.drawing.specs.DataWords.{point, increment, vector, short_vector, character, graphplot}
use Rattle.characters.specs.Characters.{table_address, table_word, routine_word}
use Rattle.loan.specs.declared.Loan.{Loan}
use Rattle.touches.specs.declared.Why.TheVariants.{Full}
use Rattle.touches.specs.declared.Resting.TheVariants.{External, Unusable}
use Rattle.touches.specs.Touches.{Beat, fetch, act, rest, taking, Turn, Fails, Rests, Does, whole, walk}
use Rattle.control_beats.specs.ControlWords.{hold_ended, ready, control_beat}

-- DATA WORDS

-- modes 0, 2 and 3 take a second word, at the next address
abbrev pub longer : Base → ℕ → ℕ → Beat
longer b w v = act (whole (pick (nat_eq b.mode 0) (point b w v) (vector b w v)))

unfoldable pub long_beat : Base → ℕ → Beat
long_beat b w = fetch (address_after b.address 1) (longer b w)

-- a data word by the mode; mode 7 rests before (test 3 of the turn)
unfoldable pub data_beat : Base → ℕ → Beat
data_beat b w =
    pick (nat_eq b.mode 1) (act (whole (increment b w)))
    (pick (nat_eq b.mode 4) (act (whole (short_vector b w)))
    (pick (nat_eq b.mode 5) (act (whole (character b w))) (pick (nat_eq b.mode 6) (act (whole (graphplot b w))) (long_beat b w))))

-- A BEAT AND A TURN

-- a command beat ends pen hold, uses the held word up and does the command: a data word or a control word
abbrev pub command_by : Base → ℕ → Bool → Beat
command_by b w datastate = pick datastate (data_beat b w) (control_beat b w)

unfoldable pub command_beat : Base → ℕ → Beat
command_beat b w = command_by (ready b) w b.datastate

-- test 3: no motion, data state, mode 7; mode 5 has the character generator (02, No. 6)
unfoldable pub unusable : Base → Bool
unusable b = b.datastate && nat_eq b.mode 7

-- no motion: test 2, a stop request, at which "the word at the display address is fetched and held", while "a second stop keeps the held word and fetches
-- nothing" (02, No. 4); test 3, an unusable mode; else the command whose first word is held or at the display address
abbrev pub idle_by : Base → Bool → Bool → Beat
idle_by b request wrong =
    pick request (taking b (λ w. rest (External w))) (pick wrong (rest Unusable) (taking b (command_beat b)))

unfoldable pub idle_beat : Base → Beat
idle_beat b = idle_by b b.request (unusable b)

-- an unfinished character's beats that fetch: "one table word fetched, one routine word fetched"; "these fetches are touches in demand 3, and each ends pen
-- hold" (02, No. 6)
unfoldable pub table_beat : Base → CharacterMotion → Beat
table_beat b c = fetch (table_address c b.starting b.upper) (λ w. act (whole (table_word (hold_ended b) c w)))

unfoldable pub routine_beat : Base → CharacterMotion → Bool → DisplayAddress → Beat
routine_beat b c short at = fetch at (λ w. act (whole (routine_word (hold_ended b) c short at w)))

-- one move beat makes one move
abbrev pub beat_by : Base → Moving → Beat
beat_by b (Going v) = act (whole (displaced b v))
beat_by b Still = idle_beat b
beat_by b (Looks c) = table_beat b c
beat_by b (Reads c short at) = routine_beat b c short at

abbrev pub beat : Registers → Beat
beat r = beat_by r.base (next_move r.motion r.base.mode r.base.scale)

-- test 5: the beat would light a point and the list is full: 18
unfoldable pub room_for : ℕ → Turn → Turn
room_for room (Fails why) = Fails why
room_for room (Rests resting) = Rests resting
room_for room (Does c) = pick (nat_le (length (points c.lit)) room) (Does c) (Fails Full)

-- tests 2 to 5 of a turn, in order
unfoldable pub turn : Loan → ℕ → Registers → List ℕ → Turn
turn l room r m = room_for room (walk l m (beat r))
