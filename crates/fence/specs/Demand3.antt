-- What demand 3 says, each sentence with the statement that says it, over demand 2's machine and nothing else: `entered` is the run of an accepted call,
-- `call` the whole call, refused or run (calls' Calls.antt). The proofs look at no instruction. Assumes nothing.
use Rattle.std.specs.Prelude.{ℕ, ◌-◌, ◌≡◌, Bool, true, false, List, length, slice_index, take}
use Rattle.addresses.specs.declared.DisplayAddress.{DisplayAddress}
use Rattle.addresses.specs.Addresses.{address}
use Rattle.registers.specs.declared.Registers.{Registers}
use Rattle.loan.specs.declared.Loan.{Loan}
use Rattle.loan.specs.Loan.{may_fetch, may_store, fair_loan, all}
use Rattle.touches.specs.declared.Why.{Why}
use Rattle.touches.specs.declared.Why.TheVariants.{Fetch, Store, Wide, Full}
use Rattle.touches.specs.Touches.{Fails}
use Rattle.turns.specs.OneTurn.{turn}
use Rattle.endings.specs.declared.Ending.{Ending}
use Rattle.endings.specs.declared.Ending.TheVariants.{BudgetSpent, Failed}
use Rattle.endings.specs.Endings.{ending_number, ending_address, at_fence}
use Rattle.runs.specs.declared.Answer.TheVariants.{Ended}
use Rattle.runs.specs.Runs.{Run, CallLeft}
use Rattle.calls.specs.Calls.{entered, call, numbered}

-- "two memories that agree on every word lent"
abbrev pub Agree : Loan → List ℕ → List ℕ → Type 0
Agree l m n = (length m ≡ length n) × ((a : DisplayAddress) → may_fetch l a ≡ true → slice_index m a.0 ≡ slice_index n a.0)

-- "the same registers, ending, beats, points and lent words", "and the address is among the things that agree" (02, No. 1); "the held word is a register" (02,
-- No. 4), and the address that a motion remembers and its points tell is one, too (02, No. 5)
pub record Same (l : Loan) (f g : Run) : Type 0 where
  pub registers : f.registers ≡ g.registers
  pub ending : f.ending ≡ g.ending
  pub address : ending_address f.ending ≡ ending_address g.ending
  pub beats : f.beats ≡ g.beats
  pub lit : f.lit ≡ g.lit
  pub words : Agree l f.memory g.memory

-- "no word outside the list range changes" from a memory m to what is left of it, n; nor does the memory grow or shrink
pub record Kept (l : Loan) (m n : List ℕ) : Type 0 where
  pub size : length n ≡ length m
  pub words : (a : DisplayAddress) → may_store l a ≡ false → slice_index n a.0 ≡ slice_index m a.0

-- "a run ends at the fence if it ends with 16 or 19" (02, No. 1)
unfoldable pub fenced : Ending → Bool
fenced e = at_fence (ending_number e)

-- the registers, words and points of a run, with a budget of just its beats
abbrev pub cut : Run → Run
cut f = record { registers = f.registers; memory = f.memory; lit = f.lit; beats = f.beats; ending = BudgetSpent }

-- "one the loan doesn't allow"
abbrev pub Outside : Loan → Why → Type 0
Outside l (Fetch a) = may_fetch l a ≡ false
Outside l (Store a) = may_store l a ≡ false
Outside l (Wide a) = ⊥
Outside l Full = ⊥

-- of the room, registers and memory that are left at an ending: "its next beat's first touch that can't be made is one the loan doesn't allow", and the
-- ending bears that touch. So the address that is answered is of a word that the loan does not let be fetched, with 16, or written, with 19. The turn that would
-- stop the display fetches its word: "the stop's fetch counts as the next beat's touch" (02, No. 4)
pub record AtFence (l : Loan) (room : ℕ) (r : Registers) (m : List ℕ) (e : Ending) : Type 0 where
  pub why : Why
  pub ending : e ≡ Failed why
  pub stopped : turn l room r m ≡ Fails why
  pub outside : Outside l why
  pub fetches : ending_number e ≡ 16 → may_fetch l (address (ending_address e)) ≡ false
  pub writes : ending_number e ≡ 19 → may_store l (address (ending_address e)) ≡ false

-- what two calls answer alike: the registers and the answer, its numbers, the lent words, and the points lit
pub record SameCall (l : Loan) (t u : CallLeft) : Type 0 where
  pub ran : t.ran ≡ u.ran
  pub numbers : numbered t.ran.answer ≡ numbered u.ran.answer
  pub words : Agree l t.memory u.memory
  pub lit : take (numbered t.ran.answer).points t.points ≡ take (numbered u.ran.answer).points u.points

-- what a call leaves, with the answer of a budget that is spent
abbrev pub spent : CallLeft → ℕ → ℕ → CallLeft
spent t b p =
    record {
      ran = record { registers = t.ran.registers; answer = Ended BudgetSpent b p };
      memory = t.memory;
      points = t.points;
    }

-- DEMAND 3, over every loan, or with `fair_loan` every loan that 3 does not refuse, and every budget, room, registers and memory
pub record Isolated : Type 0 where
  -- "Take two memories that agree on every word lent, with equal registers, loan, budget and point-list length. Their accepted runs give the same"
  pub agrees : (l : Loan) (k room : ℕ) (r : Registers) (m n : List ℕ) → Agree l m n → Same l (entered k l room r m) (entered k l room r n)
  -- "and no word outside the list range changes in either"
  pub keeps : (l : Loan) (k room : ℕ) (r : Registers) (m : List ℕ) → Kept l m (entered k l room r m).memory
  -- "A run that doesn't end at the fence is the run with all of memory lent"
  pub free : (l : Loan) → fair_loan l ≡ true → (k room : ℕ) (r : Registers) (m : List ℕ) → fenced (entered k l room r m).ending ≡ false →
      entered k l room r m ≡ entered k all room r m
  -- "One that ends there after b beats has the registers, words and points of that other run with budget b"
  pub before : (l : Loan) → fair_loan l ≡ true → (k room : ℕ) (r : Registers) (m : List ℕ) → fenced (entered k l room r m).ending ≡ true →
      let f = entered k l room r m in
      entered f.beats all room r m ≡ cut f
  -- "and its next beat's first touch that can't be made is one the loan doesn't allow"
  pub stopped : (l : Loan) → fair_loan l ≡ true → (k room : ℕ) (r : Registers) (m : List ℕ) → fenced (entered k l room r m).ending ≡ true →
      let f = entered k l room r m in
      AtFence l (room - length f.lit) f.registers f.memory f.ending
  -- the same of whole calls, with two point lists of one length; refused calls answer alike
  pub calls_agree : (k : ℕ) (l : Loan) (r : Registers) (m n ps qs : List ℕ) → Agree l m n → length ps ≡ length qs →
      SameCall l (call k l r m ps) (call k l r n qs)
  pub calls_keep : (k : ℕ) (l : Loan) (r : Registers) (m ps : List ℕ) → Kept l m (call k l r m ps).memory
  pub calls_free : (k : ℕ) (l : Loan) (r : Registers) (m ps : List ℕ) {e : Ending} {b p : ℕ} →
      (call k l r m ps).ran.answer ≡ Ended e b p → fenced e ≡ false → call k l r m ps ≡ call k all r m ps
  pub calls_before : (k : ℕ) (l : Loan) (r : Registers) (m ps : List ℕ) {e : Ending} {b p : ℕ} →
      (call k l r m ps).ran.answer ≡ Ended e b p → fenced e ≡ true → call b all r m ps ≡ spent (call k l r m ps) b p
  pub calls_stopped : (k : ℕ) (l : Loan) (r : Registers) (m ps : List ℕ) {e : Ending} {b p : ℕ} →
      (call k l r m ps).ran.answer ≡ Ended e b p → fenced e ≡ true →
      let t = call k l r m ps in
      AtFence l (length ps - p) t.ran.registers t.memory e
