-- A beat that leaves registers in range and lights a good point for whatever good words it fetches does so wherever its touches are made. Which beats are so is
-- shown where they are defined. Assumes nothing.
use Prim.Native.Nat.{ℕ, ◌≤◌}
use mathlib.Core.List.{List}
use Rattle.std.specs.Prelude.{nat_le, Option, None, Some, Result, Ok, Err}
use lib.ListN.{get_or}
use borrow.Author.Tests.{leb-true}
use Rattle.words.proofs.Laws.{pick_case}
use Rattle.addresses.specs.declared.DisplayAddress.{DisplayAddress}
use Rattle.registers.specs.Good.{GoodHeld}
use Rattle.beam.proofs.Kept.{GoodLeft}
use Rattle.touches.specs.declared.Why.{Why}
use Rattle.loan.specs.declared.Loan.{Loan}
use Rattle.loan.specs.Loan.{may_fetch, may_store}
use Rattle.touches.specs.declared.Act.{Act}
use Rattle.touches.specs.declared.Resting.{Resting}
use Rattle.touches.specs.declared.Resting.TheVariants.{External, Unusable}
use Rattle.touches.specs.declared.Push.{Push}
use Rattle.touches.specs.Touches.{Beat, fetch, act, rest, taking_by, Turn, Fails, Rests, Does, fetched, on_got, allowed, walk}

-- a rest is good if the word that it holds is
abbrev pub GoodRest : Resting → Type 0
GoodRest (External word) = word ≤ 4095
GoodRest Unusable = Unit {0}

-- what a beat does is good if it leaves good registers and lights a good point
abbrev pub GoodAct : Act → Type 0
GoodAct c = GoodLeft c.registers c.lit

-- a beat is good if what it does is, or it holds a good word, for whatever good words it fetches
abbrev pub GoodBeat : Beat → Type 0
GoodBeat (fetch a k) = (w : ℕ) → w ≤ 4095 → GoodBeat (k w)
GoodBeat (act c) = GoodAct c
GoodBeat (rest resting) = GoodRest resting

-- what is good with every good word is good with the next command's first word
pub taking_good : (a : DisplayAddress) (k : ℕ → Beat) (h : Option ℕ) → GoodHeld h → ((w : ℕ) → w ≤ 4095 → GoodBeat (k w)) → GoodBeat (taking_by a k h)
taking_good a k None g i = i
taking_good a k (Some word) g i = i word g

-- a turn is good if what it does is, or the rest is
abbrev pub GoodTurn : Turn → Type 0
GoodTurn (Fails why) = Unit {0}
GoodTurn (Rests resting) = GoodRest resting
GoodTurn (Does c) = GoodAct c

-- a word that is got is good
abbrev GoodGot : Result ℕ Why → Type 0
GoodGot (Ok w) = w ≤ 4095
GoodGot (Err why) = Unit {0}

fetched_good : (l : Loan) (m : List ℕ) (a : DisplayAddress) → GoodGot (fetched l m a)
unfolding fetched
fetched_good l m a =
    pick_case GoodGot (may_fetch l a) (λ _. pick_case GoodGot (nat_le (get_or m a.0 0) 4095) (λ e. leb-true _ _ e) (λ _. tt)) (λ _. tt)

allowed_good : (l : Loan) (c : Act) → GoodAct c → (s : Option Push) → GoodTurn (allowed l c s)
unfolding allowed
allowed_good l c g None = g
allowed_good l c g (Some push) =
    pick_case GoodTurn (may_store l push.at) (λ _. pick_case GoodTurn (may_store l push.next) (λ _. g) (λ _. tt)) (λ _. tt)

pub walk_good : (l : Loan) (m : List ℕ) (b : Beat) → GoodBeat b → GoodTurn (walk l m b)
unfolding walk
walk_good l m (fetch a k) h = by (λ w q. walk_good l m (k w) (h w q)) (fetched l m a) (fetched_good l m a)
  where
    by : ((w : ℕ) → w ≤ 4095 → GoodTurn (walk l m (k w))) → (g : Result ℕ Why) → GoodGot g → GoodTurn (on_got (λ w. walk l m (k w)) g)
    by ih (Ok w) q = ih w q
    by ih (Err why) q = tt
walk_good l m (act c) h = allowed_good l c h c.stores
walk_good l m (rest resting) h = h
