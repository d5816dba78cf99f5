-- How far the loop has come: what was done so far, followed by the definition's run from here, is the definition's run from the start. Assumes nothing.
use Prim.Native.Nat.{ℕ, suc, ◌+◌, ◌-◌, ◌≤◌, ◌<◌}
use mathlib.Core.Path.{◌≡◌, refl, sym, ap, ◌∙◌}
use mathlib.Core.List.{List, [], ◌++◌, append_assoc, append-nil}
use lib.ListN.{length, drop, length-append, length-drop}
use lib.Seq.{sets, sets-eq, take_at, drop-append-add, drop-drop}
use native.Mathlib.Nat.{sub-zero, zero-add, add-zero}
use native.Mathlib.Omega.{arith}
use mir.Syntax.{w32}
use mir.Val.{Fits}
use Rattle.std.specs.Prelude.{Option, None, Some, Result, Ok}
use Rattle.registers.specs.declared.Registers.{Registers}
use Rattle.registers.specs.Good.{Good}
use Rattle.loan.specs.declared.Loan.{Loan}
use Rattle.touches.specs.declared.Act.{Act}
use Rattle.touches.specs.declared.Resting.{Resting}
use Rattle.touches.specs.declared.Why.{Why}
use Rattle.touches.specs.declared.Turn.{Turn as Told}
use Rattle.touches.specs.Said.{said}
use Rattle.touches.specs.Touches.{Fails, Rests, Does, store}
use Rattle.beam.specs.declared.Stop.{Stop}
use Rattle.beam.specs.DataWords.{points}
use Rattle.turns.specs.OneTurn.{turn}
use Rattle.turns.proofs.Fine.{Fine, turn_fine}
use Rattle.endings.specs.declared.Ending.{Ending}
use Rattle.endings.specs.declared.Ending.TheVariants.{BudgetSpent, Failed}
use Rattle.runs.specs.declared.Answer.TheVariants.{Ended}
use Rattle.runs.specs.declared.Ran.{Ran}
use Rattle.endings.specs.Endings.{halted, rested, rest_ending}
use Rattle.touches.proofs.Walk.{length-store}
use Rattle.endings.proofs.Kept.{rested_good}
use Rattle.move_sequence.proofs.Plain.{PutAt}
use Rattle.runs.specs.Runs.{Run, ended, made, follow, onward, run, leaves, left}

-- a run after points and beats that were made before it
abbrev pub after : List ℕ → ℕ → Run → Run
after lit b f =
    record { registers = f.registers; memory = f.memory; lit = lit ++ f.lit; beats = b + f.beats; ending = f.ending }

-- l, m₀, ps₀, k, r₀ are the call's; m, ps, r, b, n are the loop's, and f is the rest of the run
pub record Far (l : Loan) (m₀ ps₀ : List ℕ) (k : ℕ) (r₀ : Registers) (m ps : List ℕ) (r : Registers) (b n : ℕ) (f : Run) : Type 0 where
  pub lit : List ℕ
  pub count : length lit ≡ n
  pub room : n ≤ length ps₀
  pub drawn : ps ≡ lit ++ drop n ps₀
  pub size : length m ≡ length m₀
  pub good : Good r
  pub spent : b ≤ k
  pub whole : run k l (length ps₀) r₀ m₀ ≡ after lit b f

-- at a turn: the run has come to it, and there is a beat for it
pub record Within (l : Loan) (m₀ ps₀ : List ℕ) (k : ℕ) (r₀ : Registers) (m ps : List ℕ) (r : Registers) (b n : ℕ) : Type 0 where
  pub far : Far l m₀ ps₀ k r₀ m ps r b n (run (k - b) l (length ps₀ - n) r m)
  pub some : b < k

-- a beat that it made: r' is what it left of the registers, m', ps' and n' are what store and put left, and h is what its stop comes to
pub record Beaten {l : Loan} {m₀ ps₀ : List ℕ} {k : ℕ} {r₀ : Registers} {m ps : List ℕ} {r : Registers} {b n : ℕ}
    (w : Within l m₀ ps₀ k r₀ m ps r b n) (r' : Registers) (m' ps' : List ℕ) (n' : ℕ) (h : Option Ending) : Type 0 where
  pub act : Act
  pub turned : turn l (length ps₀ - n) r m ≡ Does act
  pub registers : r' ≡ act.registers
  pub stored : m' ≡ store act.stores m
  pub drawn : ps' ≡ sets ps n (points act.lit)
  pub place : n' ≡ n + length (points act.lit)
  pub halt : h ≡ halted act.stop

-- the points so far, with those of one beat more
drawn_more : (lit ps₀ ps : List ℕ) (n : ℕ) → length lit ≡ n → n + length ps ≤ length ps₀ →
    sets (lit ++ drop n ps₀) n ps ≡ lit ++ ps ++ drop (n + length ps) ps₀
drawn_more lit ps₀ ps n e h =
    sets-eq ps (lit ++ drop n ps₀) n (rw (length-append, length-drop) (omega arith))
    ∙ rw (take_at lit (drop n ps₀) n e) (ap (λ (t : List ℕ). lit ++ ps ++ t) tail)
  where
    tail : drop (n + length ps) (lit ++ drop n ps₀) ≡ drop (n + length ps) ps₀
    tail = rw (← e) (drop-append-add lit (drop (length lit) ps₀) (length ps) ∙ drop-drop (length ps) (length lit) ps₀)

after_made : (lit ps : List ℕ) (b : ℕ) (f : Run) → after lit b (made ps f) ≡ after (lit ++ ps) (b + 1) f
after_made lit ps b f = let e : b + suc f.beats ≡ b + 1 + f.beats = omega arith in rw (append_assoc, e)

pub start : {l : Loan} {m₀ ps₀ : List ℕ} {k : ℕ} {r₀ : Registers} → Good r₀ → Far l m₀ ps₀ k r₀ m₀ ps₀ r₀ 0 0 (run (k - 0) l (length ps₀ - 0) r₀ m₀)
start {l} {m₀} {ps₀} {k} {r₀} g =
    record {
      lit = [];
      count = refl;
      room = omega arith;
      drawn = refl;
      size = refl;
      good = g;
      spent = omega arith;
      whole = rw (sub-zero k, sub-zero, zero-add);
    }

-- of a budget k some is left where fewer beats are made; the a left behind what is made ahead are no more than the budget, and fewer behind a turn
pub some_left : (k b : ℕ) → b < k → 1 ≤ k - b
some_left k b h = omega arith

pub left_some : (k a : ℕ) → k - a < k → 0 < a
left_some k a h = omega arith

pub left_budget : (k a b : ℕ) → a ≤ k - b → a ≤ k
left_budget k a b h = omega arith

pub left_less : (k a b : ℕ) → k - a < k → b < k → a ≤ k - b → k - (k - a + 1) < k - b
left_less k a b h t e = omega arith

pub counts : {k b : ℕ} → b < k → Fits w32 k → Fits w32 (b + 1)
counts h f = record { fits = omega (arith, f.fits) }

module _ {l : Loan} {m₀ ps₀ : List ℕ} {k : ℕ} {r₀ : Registers} {m ps : List ℕ} {r : Registers} {b n : ℕ} where
  pub length-drawn : {f : Run} → Far l m₀ ps₀ k r₀ m ps r b n f → length ps ≡ length ps₀
  length-drawn h = rw (h.drawn, length-append, length-drop) (omega (arith, h.count, h.room))

  pub inside : {f : Run} → Far l m₀ ps₀ k r₀ m ps r b n f → n ≤ length ps
  inside h = rw (length-drawn h) h.room

  -- where the run ends here, the call shows it
  pub shows : {e : Ending} → Far l m₀ ps₀ k r₀ m ps r b n (ended r m e) → (t : Ran) → t ≡ record { registers = r; answer = Ended e b n } →
      leaves t m ps ≡ left (run k l (length ps₀) r₀ m₀) ps₀
  shows h t q = rw (h.whole, q, add-zero, append-nil, h.count) (ap (leaves _ m) h.drawn)

  pub spends : Far l m₀ ps₀ k r₀ m ps r b n (run (k - b) l (length ps₀ - n) r m) → k ≤ b → Far l m₀ ps₀ k r₀ m ps r b n (ended r m BudgetSpent)
  unfolding run
  spends h le = let e : k - b ≡ 0 = omega arith in rw e at h

  -- at a turn
  module _ (w : Within l m₀ ps₀ k r₀ m ps r b n) where
    one : run (k - b) l (length ps₀ - n) r m ≡ onward (run (k - (b + 1)) l) (length ps₀ - n) r m (turn l (length ps₀ - n) r m)
    unfolding run
    one = let e : k - b ≡ suc (k - (b + 1)) = omega (arith, w.some) in rw e

    -- what the code made of the turn is the definition's
    pub turn_told : {t : Result Told Why} → said t ≡ turn l (length ps - n) r m → {u : Result Told Why} → t ≡ u → turn l (length ps₀ - n) r m ≡ said u
    turn_told e q = rw (← length-drawn w.far) (sym e ∙ ap said q)

    pub turn_made : {t : Result Told Why} → said t ≡ turn l (length ps - n) r m → {u v : Told} → t ≡ Ok u → u ≡ v → turn l (length ps₀ - n) r m ≡ said (Ok v)
    turn_made e q q' = turn_told e (q ∙ ap (λ (u : Told). Ok u) q')

    pub fails : {why : Why} → turn l (length ps₀ - n) r m ≡ Fails why → Far l m₀ ps₀ k r₀ m ps r b n (ended r m (Failed why))
    fails q = rw (one, q) at w.far

    pub rests : {resting : Resting} → turn l (length ps₀ - n) r m ≡ Rests resting →
        Far l m₀ ps₀ k r₀ m ps (rested r resting) b n (ended (rested r resting) m (rest_ending resting))
    rests {resting} q =
        record {
          lit = w.far.lit;
          count = w.far.count;
          room = w.far.room;
          drawn = w.far.drawn;
          size = w.far.size;
          good = rested_good r resting w.far.good (rw q at (turn_fine l (length ps₀ - n) r w.far.good m));
          spent = w.far.spent;
          whole = w.far.whole ∙ ap (after w.far.lit b) (one ∙ rw q);
        }

    fine : {c : Act} → turn l (length ps₀ - n) r m ≡ Does c → Fine (length ps₀ - n) c
    fine q = rw q at (turn_fine l (length ps₀ - n) r w.far.good m)

    pub fits : {c : Act} → turn l (length ps₀ - n) r m ≡ Does c → n + length (points c.lit) ≤ length ps
    fits q = omega (arith, (fine q).fits, w.far.room, length-drawn w.far)

    -- after a beat, whether it stops the display or not
    beaten : {c : Act} → turn l (length ps₀ - n) r m ≡ Does c →
        Far l m₀ ps₀ k r₀ (store c.stores m) (sets ps n (points c.lit)) c.registers (b + 1) (n + length (points c.lit))
        (follow (run (k - (b + 1)) l) (length ps₀ - n) m c (halted c.stop))
    beaten {c} q =
        let fit : n + length (points c.lit) ≤ length ps₀ = omega (arith, fits q, length-drawn w.far) in
        record {
          lit = w.far.lit ++ points c.lit;
          count = rw (length-append, w.far.count);
          room = fit;
          drawn = rw w.far.drawn (drawn_more w.far.lit ps₀ (points c.lit) n w.far.count fit);
          size = length-store c.stores m ∙ w.far.size;
          good = (fine q).good.registers;
          spent = omega (arith, w.some);
          whole = w.far.whole ∙ ap (after w.far.lit b) (one ∙ rw q) ∙ after_made w.far.lit (points c.lit) b _;
        }

  pub beats : {w : Within l m₀ ps₀ k r₀ m ps r b n} {r' : Registers} {m' ps' : List ℕ} {n' : ℕ} {h : Option Ending} {stop : Option Stop} →
      h ≡ halted stop → (c : Act) → turn l (length ps₀ - n) r m ≡ Does c → r' ≡ c.registers → m' ≡ store c.stores m →
      PutAt c.lit ps n ps' n' → stop ≡ c.stop → Beaten w r' m' ps' n' h
  beats halts c turned e stored put q =
      record { act = c; turned = turned; registers = e; stored = stored; drawn = put.list; place = put.next; halt = halts ∙ ap halted q }

  module _ {w : Within l m₀ ps₀ k r₀ m ps r b n} {r' : Registers} {m' ps' : List ℕ} {n' : ℕ} {h : Option Ending} (d : Beaten w r' m' ps' n' h) where
    pub goes : h ≡ None → Far l m₀ ps₀ k r₀ m' ps' r' (b + 1) n' (run (k - (b + 1)) l (length ps₀ - n') r' m')
    goes e =
        let room : length ps₀ - n - length (points d.act.lit) ≡ length ps₀ - (n + length (points d.act.lit)) = omega arith in
        rw (d.registers, d.stored, d.drawn, d.place) (rw (sym d.halt ∙ e, room) at (beaten w d.turned))

    pub stops : {ending : Ending} → h ≡ Some ending → Far l m₀ ps₀ k r₀ m' ps' r' (b + 1) n' (ended r' m' ending)
    stops e = rw (d.registers, d.stored, d.drawn, d.place) (rw (sym d.halt ∙ e) at (beaten w d.turned))
