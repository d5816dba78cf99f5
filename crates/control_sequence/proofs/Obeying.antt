-- How far the loop has come: the definition's sequence from here is the definition's sequence from the start. Assumes nothing.
use Prim.Native.Nat.{ℕ, zero, suc, ◌-◌, ◌<◌}
use mathlib.Core.Path.{◌≡◌, refl, sym, ap, ◌∙◌}
use mathlib.Core.Bool.{Bool, true, false, not, ◌&&◌, ◌||◌}
use mathlib.Core.List.{List}
use native.Mathlib.Omega.{arith}
use Rattle.std.specs.Prelude.{nat_lt, Option, None, Some, Result, Ok}
use lib.ListN.{length}
use borrow.Author.Tests.{ltb-true, lt-ltb}
use Rattle.words.specs.Words.{pick}
use Rattle.registers.specs.declared.Base.{Base}
use Rattle.beam.specs.declared.Stop.{Stop}
use Rattle.loan.specs.declared.Loan.{Loan}
use Rattle.touches.specs.declared.Act.{Act}
use Rattle.touches.specs.declared.Resting.{Resting}
use Rattle.touches.specs.declared.Why.{Why}
use Rattle.touches.specs.declared.Turn.{Turn as Told}
use Rattle.touches.specs.Touches.{Turn, Fails, Rests, Does, walk, store}
use Rattle.touches.specs.Said.{said}
use Rattle.touches.proofs.Walk.{length-store}
use Rattle.endings.specs.declared.Ending.{Ending}
use Rattle.endings.specs.declared.Ending.TheVariants.{Failed}
use Rattle.endings.specs.Endings.{halted}
use Rattle.control_sequence.specs.Sequence.{next_word, ObeyedLeft, stays, follow, on_turn, obey}

-- the loop's test
abbrev pub onward : ℕ → Base → Bool
onward n b = nat_lt 0 n && not b.datastate && not b.request

-- k, l, b₀, m₀ are the call's; n, b, m are the loop's, and f is what the rest of the sequence leaves
pub record Far (k : ℕ) (l : Loan) (b₀ : Base) (m₀ : List ℕ) (n : ℕ) (b : Base) (m : List ℕ) (f : ObeyedLeft) : Type 0 where
  pub size : length m ≡ length m₀
  pub whole : obey k l b₀ m₀ ≡ f

-- in a turn of the loop
pub record Within (k : ℕ) (l : Loan) (b₀ : Base) (m₀ : List ℕ) (n : ℕ) (b : Base) (m : List ℕ) : Type 0 where
  pub far : Far k l b₀ m₀ n b m (obey n l b m)
  pub on : onward n b ≡ true

-- a beat that it made: b' and m' are the registers and the memory that the beat left, and h what its stop comes to
pub record Beaten {k : ℕ} {l : Loan} {b₀ : Base} {m₀ : List ℕ} {n : ℕ} {b : Base} {m : List ℕ}
    (w : Within k l b₀ m₀ n b m) (b' : Base) (m' : List ℕ) (h : Option Ending) : Type 0 where
  pub act : Act
  pub turned : walk l m (next_word b) ≡ Does act
  pub based : b' ≡ act.registers.base
  pub stored : m' ≡ store act.stores m
  pub halt : h ≡ halted act.stop

-- the tests of the definition, by the loop's
some : (p d r : Bool) → (p && not d && not r) ≡ true → (p ≡ true) × ((d || r) ≡ false)
some true false false o = (refl, refl)
some true false true o = (refl, sym o)
some true true r o = (refl, sym o)
some false d r o = (o, cc)

none : (p d r : Bool) → (p && not d && not r) ≡ false → p ≡ true → (d || r) ≡ true
none true false false o e = sym o
none true false true o e = refl
none true true r o e = refl
none false d r o e = cc

shut : (n : ℕ) (l : Loan) (b : Base) (m : List ℕ) → onward n b ≡ false → obey n l b m ≡ stays n b m None
unfolding obey pick
shut zero l b m o = refl
shut (suc j) l b m o = rw (none (nat_lt 0 (suc j)) b.datastate b.request o (lt-ltb 0 (suc j) (omega arith)))

-- what the code made of the word is the definition's
pub word_told : (l : Loan) (m : List ℕ) (b : Base) {t : Result Told Why} {u v : Told} → said t ≡ walk l m (next_word b) → t ≡ Ok u → u ≡ v →
    walk l m (next_word b) ≡ said (Ok v)
word_told l m b p q e = sym p ∙ ap said (q ∙ ap Ok e)

module _ {k : ℕ} {l : Loan} {b₀ : Base} {m₀ : List ℕ} {n : ℕ} {b : Base} {m : List ℕ} where
  pub ends : Far k l b₀ m₀ n b m (obey n l b m) → onward n b ≡ false → obey k l b₀ m₀ ≡ stays n b m None
  ends h o = h.whole ∙ shut n l b m o

  module _ (h : Within k l b₀ m₀ n b m) where
    tested : (nat_lt 0 n ≡ true) × ((b.datastate || b.request) ≡ false)
    tested = some (nat_lt 0 n) b.datastate b.request h.on

    pub left_some : 0 < n
    left_some = ltb-true 0 n tested.0

    one_more : suc (n - 1) ≡ n
    one_more = omega (arith, left_some)

    made : {t : Turn} → walk l m (next_word b) ≡ t → obey k l b₀ m₀ ≡ on_turn (obey (n - 1) l) (n - 1) b m t
    unfolding obey pick
    made q = h.far.whole ∙ ap (λ (j : ℕ). obey j l b m) (sym one_more) ∙ rw (tested.1, q)

    pub fails : {why : Why} → walk l m (next_word b) ≡ Fails why → obey k l b₀ m₀ ≡ stays n b m (Some (Failed why))
    fails {why} q = made q ∙ ap (λ (j : ℕ). stays j b m (Some (Failed why))) one_more

    pub rests : {resting : Resting} → walk l m (next_word b) ≡ Rests resting → obey k l b₀ m₀ ≡ stays n b m None
    rests q = made q ∙ ap (λ (j : ℕ). stays j b m None) one_more

  -- after a beat, whether it stops the display or not
  pub beats : {w : Within k l b₀ m₀ n b m} {b' : Base} {m' : List ℕ} {h : Option Ending} {stop : Option Stop} →
      h ≡ halted stop → (c : Act) → walk l m (next_word b) ≡ Does c → b' ≡ c.registers.base → m' ≡ store c.stores m → stop ≡ c.stop → Beaten w b' m' h
  beats halts c turned based stored e = record { act = c; turned = turned; based = based; stored = stored; halt = halts ∙ ap halted e }

  module _ {w : Within k l b₀ m₀ n b m} {b' : Base} {m' : List ℕ} {h : Option Ending} (d : Beaten w b' m' h) where
    beaten : {t : Option Ending} → h ≡ t → Far k l b₀ m₀ (n - 1) d.act.registers.base m' (follow (obey (n - 1) l) (n - 1) m d.act t)
    beaten e =
        record {
          size = rw d.stored (length-store d.act.stores m ∙ w.far.size);
          whole = made w d.turned ∙ ap (follow (obey (n - 1) l) (n - 1) m d.act) (sym d.halt ∙ e);
        }

    pub goes : h ≡ None → Far k l b₀ m₀ (n - 1) b' m' (obey (n - 1) l b' m')
    goes e = rw (d.based, d.stored) (rw d.stored at (beaten e))

    pub stops : {ending : Ending} → h ≡ Some ending → Far k l b₀ m₀ (n - 1) b' m' (stays (n - 1) b' m' (Some ending))
    stops e = rw (d.based, d.stored) (rw d.stored at (beaten e))
