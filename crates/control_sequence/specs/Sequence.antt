-- No reader has to believe this file: control words one after another, as the code makes them ahead of a turn, as long as no motion is under way, no stop is
-- asked for and the state is control state. That the turns of a run make the same is proved in runs (proofs/MadeAhead.antt). Assumes nothing.
use Rattle.std.specs.Prelude.{ℕ, zero, suc, ◌||◌, List, Option, None, Some}
use Rattle.words.specs.Words.{pick}
use Rattle.registers.specs.declared.Base.{Base}
use Rattle.loan.specs.declared.Loan.{Loan}
use Rattle.touches.specs.declared.Act.{Act}
use Rattle.touches.specs.Touches.{Beat, taking, Turn, Fails, Rests, Does, walk, store}
use Rattle.endings.specs.declared.Ending.TheVariants.{Failed}
use Rattle.endings.specs.Endings.{halted}
use Rattle.control_beats.specs.ControlWords.{ready, control_beat}
use Rattle.control_sequence.specs.declared.Obeyed.{Obeyed}
use Rattle.endings.specs.declared.Ending.{Ending}

-- the beat of the next control word
abbrev pub next_word : Base → Beat
next_word b = taking b (control_beat (ready b))

-- what a sequence leaves, with the memory
pub record ObeyedLeft : Type 0 where
  pub obeyed : Obeyed
  pub memory : List ℕ

abbrev pub leaves : Obeyed → List ℕ → ObeyedLeft
leaves o m = record { obeyed = o; memory = m }

-- the sequence ends here, with so many beats not made
abbrev pub stays : ℕ → Base → List ℕ → Option Ending → ObeyedLeft
stays n b m h = leaves (record { base = b; left = n; halt = h }) m

-- how a sequence goes on, by the registers and the memory
abbrev pub Go : Type 0
Go = Base → List ℕ → ObeyedLeft

abbrev pub follow : Go → ℕ → List ℕ → Act → Option Ending → ObeyedLeft
follow go n m c None = go c.registers.base (store c.stores m)
follow go n m c (Some ending) = stays n c.registers.base (store c.stores m) (Some ending)

-- no control word rests the display
abbrev pub on_turn : Go → ℕ → Base → List ℕ → Turn → ObeyedLeft
on_turn go n b m (Fails why) = stays (suc n) b m (Some (Failed why))
on_turn go n b m (Rests resting) = stays (suc n) b m None
on_turn go n b m (Does c) = follow go n m c (halted c.stop)

-- at most so many control words
unfoldable pub obey : ℕ → Loan → Base → List ℕ → ObeyedLeft
obey zero l b m = stays 0 b m None
obey (suc k) l b m =
    pick (b.datastate || b.request) (stays (suc k) b m None) (on_turn (obey k l) k b m (walk l m (next_word b)))
