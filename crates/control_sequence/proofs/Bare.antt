-- The beat of a control word is bare: it lights nothing, begins no motion and never rests the display. So a sequence that goes on before its limit has
-- reached data state or a stop request. Assumes nothing.
use Prim.Native.Nat.{ℕ, zero, suc, ◌<◌}
use mathlib.Core.Path.{◌≡◌, refl}
use mathlib.Core.Bool.{true, ◌||◌}
use mathlib.Core.List.{List}
use native.Mathlib.Omega.{arith}
use Rattle.std.specs.Prelude.{nat_eq, Option, None, Some, Result, Ok, Err}
use Rattle.words.specs.Words.{bit, bits}
use Rattle.words.proofs.Laws.{pick_case}
use Rattle.addresses.specs.declared.DisplayAddress.{DisplayAddress}
use Rattle.registers.specs.declared.Base.{Base}
use Rattle.registers.specs.declared.Motion.TheVariants.{Nothing}
use Rattle.touches.specs.declared.Why.{Why}
use Rattle.loan.specs.declared.Loan.{Loan}
use Rattle.loan.specs.Loan.{may_store}
use Rattle.touches.specs.declared.Act.{Act}
use Rattle.touches.specs.declared.Push.{Push}
use Rattle.touches.specs.Touches.{Beat, fetch, act, rest, taking_by, Turn, Fails, Rests, Does, fetched, on_got, allowed, walk, store}
use Rattle.endings.specs.Endings.{halted}
use Rattle.control_beats.specs.ControlWords.{ready, push_act, jump_beat, pop_beat, control_beat}
use Rattle.control_sequence.specs.Sequence.{next_word, ObeyedLeft, Go, follow, on_turn, obey}
use Rattle.endings.specs.declared.Ending.{Ending}

-- WHAT A CONTROL WORD DOES

abbrev pub BareAct : Act → Type 0
BareAct c = (c.lit ≡ None) × (c.registers.motion ≡ Nothing)

abbrev BareBeat : Beat → Type 0
BareBeat (fetch a k) = (w : ℕ) → BareBeat (k w)
BareBeat (act c) = BareAct c
BareBeat (rest resting) = ⊥

taking_bare : (a : DisplayAddress) (k : ℕ → Beat) (h : Option ℕ) → ((w : ℕ) → BareBeat (k w)) → BareBeat (taking_by a k h)
taking_bare a k None i = i
taking_bare a k (Some word) i = i word

abbrev pub Bare : Turn → Type 0
Bare (Fails why) = Unit {0}
Bare (Rests resting) = ⊥
Bare (Does c) = BareAct c

jump_bare : (b : Base) (w : ℕ) → BareBeat (jump_beat b w)
unfolding jump_beat push_act
jump_bare b w v = pick_case BareAct (bit w 8) (λ _. (refl, refl)) (λ _. (refl, refl))

pop_bare : (b : Base) (w : ℕ) → BareBeat (pop_beat b w)
unfolding pop_beat
pop_bare b w first second = (refl, refl)

control_bare : (b : Base) (w : ℕ) → BareBeat (control_beat b w)
unfolding control_beat
control_bare b w =
    let operation = bits w 0 2 in
    pick_case BareBeat (nat_eq operation 0) (λ _. (refl, refl))
    (λ _. pick_case BareBeat (nat_eq operation 1) (λ _. (refl, refl))
    (λ _. pick_case BareBeat (nat_eq operation 2) (λ _. jump_bare b w)
    (λ _. pick_case BareBeat (nat_eq operation 3) (λ _. pop_bare b w)
    (λ _. pick_case BareBeat (nat_eq operation 4) (λ _. (refl, refl))
    (λ _. pick_case BareBeat (nat_eq operation 5) (λ _. (refl, refl))
    (λ _. pick_case BareBeat (nat_eq operation 6) (λ _. (refl, refl)) (λ _. (refl, refl))))))))

module _ (l : Loan) (m : List ℕ) where
  allowed_bare : (c : Act) → BareAct c → (s : Option Push) → Bare (allowed l c s)
  unfolding allowed
  allowed_bare c h None = h
  allowed_bare c h (Some push) =
      pick_case Bare (may_store l push.at) (λ _. pick_case Bare (may_store l push.next) (λ _. h) (λ _. tt)) (λ _. tt)

  beat_bare : (b : Beat) → BareBeat b → Bare (walk l m b)
  unfolding walk
  beat_bare (fetch a k) h = by (λ w. beat_bare (k w) (h w)) (fetched l m a)
    where
      by : ((w : ℕ) → Bare (walk l m (k w))) → (g : Result ℕ Why) → Bare (on_got (λ w. walk l m (k w)) g)
      by ih (Ok w) = ih w
      by ih (Err why) = tt
  beat_bare (act c) h = allowed_bare c h c.stores
  beat_bare (rest resting) h = absurd h

  pub next_bare : (b : Base) → Bare (walk l m (next_word b))
  next_bare b = beat_bare (next_word b) (taking_bare b.address _ b.held (control_bare (ready b)))

-- WHERE A SEQUENCE GOES ON

abbrev Reached : ObeyedLeft → Type 0
Reached f = f.obeyed.halt ≡ None → 0 < f.obeyed.left → (f.obeyed.base.datastate || f.obeyed.base.request) ≡ true

turn_reached : (go : Go) → ((b : Base) (m : List ℕ) → Reached (go b m)) → (n : ℕ) (b : Base) (m : List ℕ) (t : Turn) → Bare t → Reached (on_turn go n b m t)
turn_reached go ih n b m (Fails why) h = λ e. absurd (let z : ◌≡◌ {A = ℕ} 0 1 = cc in omega arith)
turn_reached go ih n b m (Rests resting) h = absurd h
turn_reached go ih n b m (Does c) h = by (halted c.stop)
  where
    by : (s : Option Ending) → Reached (follow go n m c s)
    by None = ih c.registers.base (store c.stores m)
    by (Some ending) = λ e. absurd (let z : ◌≡◌ {A = ℕ} 0 1 = cc in omega arith)

pub reached : (n : ℕ) (l : Loan) (b : Base) (m : List ℕ) → (obey n l b m).obeyed.halt ≡ None → 0 < (obey n l b m).obeyed.left →
    ((obey n l b m).obeyed.base.datastate || (obey n l b m).obeyed.base.request) ≡ true
unfolding obey
reached zero l b m = λ _ h. absurd (omega arith)
reached (suc k) l b m =
    pick_case Reached (b.datastate || b.request) (λ e _ _. e)
    (λ _. turn_reached (obey k l) (λ c n. reached k l c n) k b m (walk l m (next_word b)) (next_bare l m b))
