-- A beat whose touches all lie in memory tells an address of memory where one of them can't be made. Which beats are so is shown where they are defined.
-- Assumes nothing.
use Prim.Native.Nat.{ℕ, ◌<◌}
use mathlib.Core.List.{List}
use Rattle.std.specs.Prelude.{nat_le, Option, None, Some, Result, Ok, Err}
use lib.ListN.{get_or}
use Rattle.words.proofs.Laws.{pick_case}
use Rattle.addresses.specs.declared.DisplayAddress.{DisplayAddress}
use Rattle.loan.specs.declared.Loan.{Loan}
use Rattle.loan.specs.Loan.{may_fetch, may_store}
use Rattle.touches.specs.declared.Act.{Act}
use Rattle.touches.specs.declared.Push.{Push}
use Rattle.touches.specs.declared.Why.{Why}
use Rattle.touches.specs.declared.Why.TheVariants.{Fetch, Store, Wide, Full}
use Rattle.touches.specs.Touches.{Beat, fetch, act, rest, taking_by, Turn, Fails, Rests, Does, fetched, on_got, allowed, walk}

-- an address of 15 bits
abbrev pub Within : DisplayAddress → Type 0
Within a = a.0 < 32768

abbrev pub InsideStores : Option Push → Type 0
InsideStores None = Unit {0}
InsideStores (Some push) = Within push.at × Within push.next

-- a beat is inside if its touches are, whatever words it fetches
abbrev pub Inside : Beat → Type 0
Inside (fetch a k) = Within a × ((w : ℕ) → Inside (k w))
Inside (act c) = InsideStores c.stores
Inside (rest resting) = Unit {0}

-- a held word is no touch
pub taking_inside : (a : DisplayAddress) (k : ℕ → Beat) (h : Option ℕ) → Within a → ((w : ℕ) → Inside (k w)) → Inside (taking_by a k h)
taking_inside a k None q i = (q, i)
taking_inside a k (Some word) q i = i word

-- the touch that could not be made is inside
abbrev pub InsideWhy : Why → Type 0
InsideWhy (Fetch a) = Within a
InsideWhy (Store a) = Within a
InsideWhy (Wide a) = Within a
InsideWhy Full = Unit {0}

abbrev pub InsideTurn : Turn → Type 0
InsideTurn (Fails why) = InsideWhy why
InsideTurn (Rests resting) = Unit {0}
InsideTurn (Does c) = Unit {0}

abbrev InsideGot : Result ℕ Why → Type 0
InsideGot (Ok w) = Unit {0}
InsideGot (Err why) = InsideWhy why

fetched_inside : (l : Loan) (m : List ℕ) (a : DisplayAddress) → Within a → InsideGot (fetched l m a)
unfolding fetched
fetched_inside l m a h =
    pick_case InsideGot (may_fetch l a) (λ _. pick_case InsideGot (nat_le (get_or m a.0 0) 4095) (λ _. tt) (λ _. h)) (λ _. h)

allowed_inside : (l : Loan) (c : Act) (s : Option Push) → InsideStores s → InsideTurn (allowed l c s)
unfolding allowed
allowed_inside l c None h = tt
allowed_inside l c (Some push) h =
    pick_case InsideTurn (may_store l push.at) (λ _. pick_case InsideTurn (may_store l push.next) (λ _. tt) (λ _. h.1)) (λ _. h.0)

pub walk_inside : (l : Loan) (m : List ℕ) (b : Beat) → Inside b → InsideTurn (walk l m b)
unfolding walk
walk_inside l m (fetch a k) h = by (λ w. walk_inside l m (k w) (h.1 w)) (fetched l m a) (fetched_inside l m a h.0)
  where
    by : ((w : ℕ) → InsideTurn (walk l m (k w))) → (g : Result ℕ Why) → InsideGot g → InsideTurn (on_got (λ w. walk l m (k w)) g)
    by ih (Ok w) q = ih w
    by ih (Err why) q = q
walk_inside l m (act c) h = allowed_inside l c c.stores h
walk_inside l m (rest resting) h = tt
