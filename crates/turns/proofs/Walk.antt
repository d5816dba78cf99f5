-- How the walk of a beat goes on at the tests of an idle display and of a command, taken one by one, and which display is idle. Assumes nothing.
use Prim.Native.Nat.{ℕ}
use mathlib.Core.Path.{◌≡◌, refl, sym, ap, ap₂, ◌∙◌}
use mathlib.Core.Bool.{Bool}
use mathlib.Core.List.{List}
use Rattle.std.specs.Prelude.{Result, Ok, Err}
use Rattle.registers.specs.declared.Base.{Base}
use Rattle.registers.specs.declared.Motion.{Motion}
use Rattle.registers.specs.declared.Motion.TheVariants.{Nothing, Line, Bytes, Character}
use Rattle.registers.specs.declared.Stage.{Stage}
use Rattle.registers.specs.declared.Stage.TheVariants.{Table, Routine, Increments, Short}
use Rattle.registers.specs.declared.CharacterMotion.{CharacterMotion}
use Rattle.moves.specs.declared.Moving.TheVariants.{Still}
use Rattle.moves.specs.DataWords.{character_next, next_move}
use Rattle.loan.specs.declared.Loan.{Loan}
use Rattle.touches.specs.declared.Why.{Why}
use Rattle.touches.specs.Touches.{Beat, taking, Fails, walk}
use Rattle.touches.specs.Taken.{taken}
use Rattle.touches.proofs.Walk.{walk_taken, walk_not_taken}
use Rattle.control_beats.specs.ControlWords.{ready}
use Rattle.turns.specs.OneTurn.{command_by, command_beat, unusable, idle_by, idle_beat, room_for}

module _ (l : Loan) (m : List ℕ) (b : Base) where
  pub walk_idle : {request wrong : Bool} → b.request ≡ request → unusable b ≡ wrong → walk l m (idle_beat b) ≡ walk l m (idle_by b request wrong)
  unfolding idle_beat
  walk_idle p q = ap₂ (λ (t u : Bool). walk l m (idle_by b t u)) p q

  pub walk_command : (w : ℕ) {c : Base} {datastate : Bool} → c ≡ ready b → b.datastate ≡ datastate →
      walk l m (command_beat b w) ≡ walk l m (command_by c w datastate)
  unfolding command_beat
  walk_command w e p = ap₂ (λ (z : Base) (t : Bool). walk l m (command_by z w t)) (sym e) p

-- an idle beat that takes the next word up, for a stop or for a command, by what is got
module _ (l : Loan) (m : List ℕ) (room : ℕ) (b : Base) (k : ℕ → Beat) (e : walk l m (idle_beat b) ≡ walk l m (taking b k)) {g : Result ℕ Why} (p : g ≡ taken l m b) where
  pub idle_word : {w : ℕ} → g ≡ Ok w → room_for room (walk l m (idle_beat b)) ≡ room_for room (walk l m (k w))
  idle_word q = ap (room_for room) (e ∙ walk_taken l m b.address k b.held p q)

  pub idle_not : {why : Why} → g ≡ Err why → room_for room (walk l m (idle_beat b)) ≡ Fails why
  unfolding room_for
  idle_not q = ap (room_for room) (e ∙ walk_not_taken l m b.address k b.held p q)

-- a character makes a move or fetches
moving : (c : CharacterMotion) (s : ℕ) (stage : Stage) (m : Motion) → character_next c s stage ≡ Still → m ≡ Nothing
unfolding character_next
moving c s Table m e = cc
moving c s (Routine short next) m e = cc
moving c s (Increments from t) m e = cc
moving c s (Short from l) m e = cc

-- a display whose motion makes no move has none
pub still : (m : Motion) (mode scale : ℕ) → next_move m mode scale ≡ Still → m ≡ Nothing
unfolding next_move
still Nothing mode scale e = refl
still (Line lastword t) mode scale e = cc
still (Bytes lastword t) mode scale e = cc
still (Character c) mode scale e = moving c _ c.stage (Character c) e
