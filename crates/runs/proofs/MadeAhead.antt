-- A run goes on from what was made ahead of a turn as it would have from the turns one by one: plain moves are the turns of a motion, control words those of a
-- display in control state. Assumes nothing.
use Prim.Native.Nat.{ℕ, zero, suc, ◌+◌, ◌-◌, ◌≤◌, ◌<◌}
use mathlib.Core.Path.{◌≡◌, refl, sym, ap, ◌∙◌, subst}
use mathlib.Core.Bool.{Bool, true, false, ◌&&◌, ◌||◌}
use mathlib.Core.List.{List}
use lib.Dec.{leb-zero}
use Rattle.std.specs.Prelude.{nat_eq, nat_le, Option, None, Some}
use lib.ListN.{length}
use lib.Seq.{sets}
use native.Mathlib.Omega.{arith}
use borrow.Author.Tests.{leb-true, le-leb}
use Rattle.words.specs.Words.{pick}
use Rattle.words.proofs.Laws.{pick_case, both}
use Rattle.registers.specs.declared.Base.{Base}
use Rattle.registers.specs.declared.Motion.{Motion}
use Rattle.registers.specs.declared.Motion.TheVariants.{Nothing, Line, Bytes, Character}
use Rattle.registers.specs.declared.Registers.{Registers}
use Rattle.moves.specs.declared.Move.{Move}
use Rattle.beam.specs.declared.Outcome.{Outcome}
use Rattle.moves.specs.declared.Moving.{Moving}
use Rattle.moves.specs.declared.Moving.TheVariants.{Still, Going, Looks, Reads}
use Rattle.beam.specs.DataWords.{points}
use Rattle.moves.specs.DataWords.{next_move, displaced}
use Rattle.moves.proofs.Kept.{neither}
use Rattle.move_sequence.specs.PlainMoves.{plain, SequenceLeft, on_move, sequence}
use Rattle.move_sequence.proofs.Plain.{plainly}
use Rattle.loan.specs.declared.Loan.{Loan}
use Rattle.touches.specs.declared.Act.{Act}
use Rattle.touches.specs.Touches.{taking, Turn, Fails, Rests, Does, whole, allowed, walk, store}
use Rattle.control_beats.specs.ControlWords.{ready}
use Rattle.turns.specs.OneTurn.{command_by, command_beat, unusable, room_for, turn}
use Rattle.turns.proofs.Walk.{walk_idle}
use Rattle.turns.specs.Drawing.{Drawing}
use Rattle.endings.specs.declared.Ending.{Ending}
use Rattle.endings.specs.declared.Ending.TheVariants.{Failed}
use Rattle.endings.specs.Endings.{halted}
use Rattle.control_sequence.specs.Sequence.{next_word, ObeyedLeft, follow, on_turn, obey}
use Rattle.control_sequence.proofs.Bare.{Bare, next_bare, reached}
use Rattle.runs.specs.declared.Ahead.{Ahead}
use Rattle.runs.specs.Ahead.{AheadLeft, leaves, after_moves, ahead_by, make_ahead}
use Rattle.runs.specs.Runs.{ended, run}
use Rattle.runs.proofs.Loop.{Far, Within, Beaten, length-drawn, fails, goes, stops}

-- a move for whose point there is room is the turn's beat
moves_turn : (l : Loan) (m : List ℕ) (room : ℕ) (r : Registers) (v : Move) → next_move r.motion r.base.mode r.base.scale ≡ Going v →
    nat_le (length (points (displaced r.base v).lit)) room ≡ true → turn l room r m ≡ Does (whole (displaced r.base v))
unfolding turn walk allowed room_for pick
moves_turn l m room r v e t = rw (e, t)

-- what is bare asks for no room
room_bare : (room : ℕ) (t : Turn) → Bare t → room_for room t ≡ t
unfolding room_for pick
room_bare room (Fails why) h = refl
room_bare room (Rests resting) h = refl
room_bare room (Does c) h = rw (h.0, leb-zero)

-- in control state without a motion and without a stop request a turn makes the next word of a sequence, whatever the room
turn_control : (l : Loan) (m : List ℕ) (room : ℕ) (b : Base) → b.datastate ≡ false → b.request ≡ false →
    turn l room (record { base = b; motion = Nothing }) m ≡ walk l m (next_word b)
unfolding turn next_move unusable command_beat pick
turn_control l m room b d q =
    ap (room_for room)
    (walk_idle l m b q (ap (λ (t : Bool). t && nat_eq b.mode 7) d)
    ∙ ap (λ (t : Bool). walk l m (taking b (λ w. command_by (ready b) w t))) d)
    ∙ room_bare room _ (next_bare l m b)

-- NO MORE IS LEFT THAN WAS GIVEN

pub moves_left : (n : ℕ) (r : Registers) (ps : List ℕ) (place : ℕ) → (sequence n r ps place).sequence.left ≤ n
unfolding sequence
moves_left zero r ps place = omega arith
moves_left (suc k) r ps place = by (λ r ps place. moves_left k r ps place) (next_move r.motion r.base.mode r.base.scale)
  where
    by : ((r : Registers) (ps : List ℕ) (place : ℕ) → (sequence k r ps place).sequence.left ≤ k) → (v : Moving) →
        (on_move (sequence k) (suc k) r ps place v).sequence.left ≤ suc k
    by ih Still = omega arith
    by ih (Looks c) = omega arith
    by ih (Reads c short at) = omega arith
    by ih (Going v) =
        pick_case (λ (s : SequenceLeft). s.sequence.left ≤ suc k) _
        (λ _.
        let c = displaced r.base v in
        omega (arith, ih c.registers (sets ps place (points c.lit)) (place + length (points c.lit))))
        (λ _. omega arith)

words_left : (n : ℕ) (l : Loan) (b : Base) (m : List ℕ) → (obey n l b m).obeyed.left ≤ n
unfolding obey
words_left zero l b m = omega arith
words_left (suc k) l b m =
    pick_case (λ (w : ObeyedLeft). w.obeyed.left ≤ suc k) _ (λ _. omega arith) (λ _. by (λ b m. words_left k l b m) (walk l m (next_word b)))
  where
    by : ((b : Base) (m : List ℕ) → (obey k l b m).obeyed.left ≤ k) → (t : Turn) → (on_turn (obey k l) k b m t).obeyed.left ≤ suc k
    by ih (Fails why) = omega arith
    by ih (Rests resting) = omega arith
    by ih (Does c) = on (ih c.registers.base (store c.stores m)) (halted c.stop)
      where
        on : (obey k l c.registers.base (store c.stores m)).obeyed.left ≤ k → (x : Option Ending) → (follow (obey k l) k m c x).obeyed.left ≤ suc k
        on h None = omega arith
        on h (Some ending) = omega arith

module _ (l : Loan) (m₀ ps₀ : List ℕ) (k : ℕ) (r₀ : Registers) where
  -- the loop's head
  abbrev pub Head : List ℕ → List ℕ → Registers → ℕ → ℕ → Type 0
  Head m ps r b n = Far l m₀ ps₀ k r₀ m ps r b n (run (k - b) l (length ps₀ - n) r m)

  -- PLAIN MOVES

  -- how far the run has come with them, in data state
  abbrev MovesCome : List ℕ → SequenceLeft → Type 0
  MovesCome m s =
      Head m s.points s.sequence.registers (k - (s.sequence.left + 1)) s.place
      × (s.sequence.registers.base.datastate ≡ true)

  moves_stay : (j : ℕ) (m ps : List ℕ) (r : Registers) (b n : ℕ) → Head m ps r b n → r.base.datastate ≡ true → k - b ≡ suc j →
      MovesCome m (record { sequence = record { registers = r; left = j }; place = n; points = ps })
  moves_stay j m ps r b n h d e =
      let q : b ≡ k - (j + 1) = omega (arith, h.spent) in
      (subst (λ (t : ℕ). Head m ps r t n) q h, d)

  plain_beat : {m ps : List ℕ} {r : Registers} {b n : ℕ} (w : Within l m₀ ps₀ k r₀ m ps r b n) (v : Move) →
      next_move r.motion r.base.mode r.base.scale ≡ Going v →
      let c = displaced r.base v in
      length (points c.lit) ≤ length ps₀ - n →
      Beaten w c.registers m (sets ps n (points c.lit)) (n + length (points c.lit)) (halted c.stop)
  plain_beat {m} {r = r} {n = n} w v q fit =
      record {
        act = whole (displaced r.base v);
        turned = moves_turn l m (length ps₀ - n) r v q (le-leb _ _ fit);
        registers = refl;
        stored = refl;
        drawn = refl;
        place = refl;
        halt = refl;
      }

  moves_made : (j : ℕ) (m ps : List ℕ) (r : Registers) (b n : ℕ) → Head m ps r b n → r.base.datastate ≡ true → k - b ≡ suc j →
      MovesCome m (sequence j r ps n)
  unfolding sequence halted
  moves_made zero m ps r b n h d e = moves_stay zero m ps r b n h d e
  moves_made (suc j) m ps r b n h d e = by (λ ps r b n. moves_made j m ps r b n) (next_move r.motion r.base.mode r.base.scale) refl
    where
      by : ((ps : List ℕ) (r : Registers) (b n : ℕ) → Head m ps r b n → r.base.datastate ≡ true → k - b ≡ suc j → MovesCome m (sequence j r ps n)) →
          (v : Moving) → next_move r.motion r.base.mode r.base.scale ≡ v → MovesCome m (on_move (sequence j) (suc j) r ps n v)
      by ih Still q = moves_stay (suc j) m ps r b n h d e
      by ih (Looks c) q = moves_stay (suc j) m ps r b n h d e
      by ih (Reads c short at) q = moves_stay (suc j) m ps r b n h d e
      by ih (Going v) q =
          pick_case (MovesCome m) (plain r.base v && nat_le (n + length (points (displaced r.base v).lit)) (length ps))
          (λ t.
          let p = both (plain r.base v) _ t in
          let c = displaced r.base v in
          let fit : length (points c.lit) ≤ length ps₀ - n = omega (arith, leb-true (n + length (points c.lit)) (length ps) p.1, length-drawn h) in
          let on : halted c.stop ≡ None = ap (λ (q : Outcome). halted q.stop) (plainly r.base v p.0) in
          ih (sets ps n (points c.lit)) c.registers (b + 1) (n + length (points c.lit))
          (goes (plain_beat (record { far = h; some = omega arith }) v q fit) on)
          (ap (λ (q : Outcome). q.registers.base.datastate) (plainly r.base v p.0) ∙ d)
          (omega arith))
          (λ _. moves_stay (suc j) m ps r b n h d e)

  -- CONTROL WORDS

  -- how far the run has come with them, by whether it goes on
  abbrev pub Come : List ℕ → List ℕ → Registers → ℕ → ℕ → Option Ending → Type 0
  Come m ps r b n None = Head m ps r b n
  Come m ps r b n (Some ending) = Far l m₀ ps₀ k r₀ m ps r b n (ended r m ending)

  abbrev WordsCome : List ℕ → ℕ → ObeyedLeft → Type 0
  WordsCome ps n w =
      Come w.memory ps (record { base = w.obeyed.base; motion = Nothing }) (k - w.obeyed.left) n w.obeyed.halt

  words_stay : (j : ℕ) (m ps : List ℕ) (c : Base) (b n : ℕ) (x : Option Ending) → Come m ps (record { base = c; motion = Nothing }) b n x → b ≤ k → k - b ≡ j →
      WordsCome ps n (record { obeyed = record { base = c; left = j; halt = x }; memory = m })
  words_stay j m ps c b n x h s e =
      let q : b ≡ k - j = omega arith in subst (λ (t : ℕ). Come m ps (record { base = c; motion = Nothing }) t n x) q h

  -- a control word's beat lights nothing
  obeyed : {m ps : List ℕ} {r : Registers} {b n : ℕ} (w : Within l m₀ ps₀ k r₀ m ps r b n) {a : Act} → turn l (length ps₀ - n) r m ≡ Does a →
      a.lit ≡ None → {x : Option Ending} → halted a.stop ≡ x → Beaten w a.registers (store a.stores m) ps n x
  obeyed {ps = ps} {n = n} w {a} q dark p =
      record {
        act = a;
        turned = q;
        registers = refl;
        stored = refl;
        drawn = ap (λ (t : Option ℕ). sets ps n (points t)) (sym dark);
        place = omega (arith, ap (λ (t : Option ℕ). length (points t)) dark);
        halt = sym p;
      }

  -- a control word obeyed, and how the sequence goes on behind it
  act_obeyed : (j : ℕ) (m ps : List ℕ) (c : Base) (b n : ℕ) → Within l m₀ ps₀ k r₀ m ps (record { base = c; motion = Nothing }) b n → k - b ≡ suc j →
      (a : Act) → turn l (length ps₀ - n) (record { base = c; motion = Nothing }) m ≡ Does a → a.lit ≡ None → a.registers.motion ≡ Nothing →
      (Head (store a.stores m) ps (record { base = a.registers.base; motion = Nothing }) (b + 1) n →
      WordsCome ps n (obey j l a.registers.base (store a.stores m))) →
      (x : Option Ending) → halted a.stop ≡ x → WordsCome ps n (follow (obey j l) j m a x)
  act_obeyed j m ps c b n w e a q dark still ih None p =
      ih (subst (λ (t : Motion). Head (store a.stores m) ps (record { base = a.registers.base; motion = t }) (b + 1) n) still
      (goes (obeyed w q dark p) refl))
  act_obeyed j m ps c b n w e a q dark still ih (Some ending) p =
      words_stay j (store a.stores m) ps a.registers.base (b + 1) n (Some ending)
      (subst (λ (t : Motion). Come (store a.stores m) ps (record { base = a.registers.base; motion = t }) (b + 1) n (Some ending)) still
      (stops (obeyed w q dark p) refl))
      (omega (arith, w.some))
      (omega arith)

  words_obeyed : (j : ℕ) (m ps : List ℕ) (c : Base) (b n : ℕ) → Head m ps (record { base = c; motion = Nothing }) b n → k - b ≡ j → WordsCome ps n (obey j l c m)
  unfolding obey
  words_obeyed zero m ps c b n h e = words_stay zero m ps c b n None h h.spent e
  words_obeyed (suc j) m ps c b n h e =
      pick_case (WordsCome ps n) (c.datastate || c.request) (λ _. words_stay (suc j) m ps c b n None h h.spent e)
      (λ t.
      let f = neither c.datastate c.request t in
      by (λ m c b. words_obeyed j m ps c b n) (walk l m (next_word c)) (turn_control l m (length ps₀ - n) c f.0 f.1) (next_bare l m c))
    where
      by : ((m : List ℕ) (c : Base) (b : ℕ) → Head m ps (record { base = c; motion = Nothing }) b n → k - b ≡ j → WordsCome ps n (obey j l c m)) →
          (t : Turn) → turn l (length ps₀ - n) (record { base = c; motion = Nothing }) m ≡ t → Bare t → WordsCome ps n (on_turn (obey j l) j c m t)
      by ih (Fails why) q g = words_stay (suc j) m ps c b n (Some (Failed why)) (fails (record { far = h; some = omega arith }) q) h.spent e
      by ih (Rests resting) q g = absurd g
      by ih (Does a) q g =
          act_obeyed j m ps c b n (record { far = h; some = omega arith }) e a q g.0 g.1
          (λ p. ih (store a.stores m) a.registers.base (b + 1) p (omega arith))
          (halted a.stop)
          refl

  -- BOTH

  pub record Made (b : ℕ) (a : AheadLeft) : Type 0 where
    pub comes : Come a.memory a.points a.ahead.registers (k - a.ahead.left) a.place a.ahead.halt
    pub drawing : a.ahead.halt ≡ None → 0 < a.ahead.left → Drawing a.ahead.registers
    pub left : a.ahead.left ≤ k - b

  either : (a c : Bool) → (a || c) ≡ true → c ≡ false → a ≡ true
  either true c h e = refl
  either false c h e = sym e ∙ h

  moved : (m ps : List ℕ) (b n : ℕ) (r : Registers) → Head m ps r b n → r.base.datastate ≡ true → b < k → Made b (after_moves (sequence (k - b - 1) r ps n) m)
  moved m ps b n r h d lt =
      let s = moves_made (k - b - 1) m ps r b n h d (omega arith) in
      record { comes = s.0; drawing = λ _ _ _ _. s.1; left = omega (arith, moves_left (k - b - 1) r ps n) }

  made_by : (m ps : List ℕ) (b n : ℕ) (c : Base) (v : Motion) → Head m ps (record { base = c; motion = v }) b n → b < k →
      Made b (ahead_by (k - b) l c m ps n v)
  made_by m ps b n c Nothing h lt =
      record {
        comes = words_obeyed (k - b) m ps c b n h refl;
        drawing = λ e p _ q. either _ _ (reached (k - b) l c m e p) q;
        left = words_left (k - b) l c m;
      }
  made_by m ps b n c (Line lastword line) h lt = moved m ps b n (record { base = c; motion = Line lastword line }) h h.good.motion.0 lt
  made_by m ps b n c (Bytes lastword bytes) h lt = moved m ps b n (record { base = c; motion = Bytes lastword bytes }) h h.good.motion.0 lt
  made_by m ps b n c (Character v) h lt =
      let q : b ≡ k - (k - b) = omega (arith, h.spent) in
      record {
        comes = subst (λ (t : ℕ). Head m ps (record { base = c; motion = Character v }) t n) q h;
        drawing = λ _ _ e _. cc;
        left = omega arith;
      }

  -- what the code made ahead of a turn
  pub made : {m ps : List ℕ} {b n : ℕ} {r : Registers} → Head m ps r b n → b < k → {a : Ahead} {m' : List ℕ} {n' : ℕ} {ps' : List ℕ} →
      leaves a m' n' ps' ≡ make_ahead (k - b) l r m ps n → Made b (leaves a m' n' ps')
  made {m} {ps} {b} {n} {r} h lt e = subst (Made b) (sym e) (made_by m ps b n r.base r.motion h lt)

  -- by whether the run goes on from there
  module _ {b : ℕ} {a : Ahead} {m' : List ℕ} {n' : ℕ} {ps' : List ℕ} (h : Made b (leaves a m' n' ps')) where
    pub goes_on : a.halt ≡ None → Head m' ps' a.registers (k - a.left) n'
    goes_on e = subst (Come m' ps' a.registers (k - a.left) n') e h.comes

    pub ends_at : {ending : Ending} → a.halt ≡ Some ending → Far l m₀ ps₀ k r₀ m' ps' a.registers (k - a.left) n' (ended a.registers m' ending)
    ends_at e = subst (Come m' ps' a.registers (k - a.left) n') e h.comes
