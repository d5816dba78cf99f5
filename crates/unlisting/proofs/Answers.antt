-- What a reading answers: where 1, 3 or 6 refuses, and behind them by what its first pass found. Assumes nothing.
use Prim.Native.Nat.{ℕ, ◌+◌, ◌-◌}
use mathlib.Core.Path.{◌≡◌, sym}
use mathlib.Core.Bool.{◌&&◌}
use mathlib.Core.List.{List}
use Rattle.std.specs.Prelude.{nat_eq, Result, Ok, Err}
use lib.ListN.{length}
use lib.Seq.{sets}
use Rattle.words.specs.Words.{pick}
use Rattle.words.proofs.Laws.{pick_case}
use Rattle.listed_lines.specs.declared.Standing.{Standing}
use Rattle.listed_lines.specs.ListedLines.{starting}
use Rattle.listing.specs.declared.Refusal.{Refusal}
use Rattle.listing.specs.declared.Refusal.TheVariants.{Line}
use Rattle.listing.specs.Listing.{refusal, unless_refused}
use Rattle.listing.proofs.Unrefused.{not_refused}
use Rattle.unlisting.specs.Unlisting.{read_lines, leaves, reading}
use Rattle.unlisting.specs.Passes.{checked}

pub refused : (s m : List ℕ) (low high state mode : ℕ) {r : Refusal} → Err r ≡ refusal (length m) low high state mode →
    leaves (Err r) m ≡ reading s m low high state mode
unfolding reading unless_refused
refused s m low high state mode e = rw (← e)

module _ (s m : List ℕ) (low high state mode : ℕ) {from : Standing} (accepted : refusal (length m) low high state mode ≡ Ok tt) (begun : from ≡ starting state mode) where
  pub unformed : {r : Refusal} → Err r ≡ checked (high - low) (read_lines (high - low) low from s) → leaves (Err r) m ≡ reading s m low high state mode
  unfolding reading unless_refused pick
  unformed {r} =
      let found = read_lines (high - low) low from s in
      let test = nat_eq (length found.words) (high - low) && nat_eq (length found.left) 0 in
      pick_case (λ (q : Result (Unit {0}) Refusal). Err r ≡ q → leaves (Err r) m ≡ reading s m low high state mode) test
      (λ _ e. absurd (not_refused e))
      (λ h (e : ◌≡◌ {A = Result (Unit {0}) Refusal} (Err r) (Err (Line (length found.words + 1)))). let line : r ≡ Line (length found.words + 1) = cc in rw (accepted, ← begun, h, line))

  pub accepts : {o : List ℕ} → o ≡ sets m low (read_lines (high - low) low from s).words → Ok tt ≡ checked (high - low) (read_lines (high - low) low from s) →
      leaves (Ok tt) o ≡ reading s m low high state mode
  unfolding reading unless_refused pick
  accepts {o} laid =
      let found = read_lines (high - low) low from s in
      let test = nat_eq (length found.words) (high - low) && nat_eq (length found.left) 0 in
      pick_case (λ (q : Result (Unit {0}) Refusal). Ok tt ≡ q → leaves (Ok tt) o ≡ reading s m low high state mode) test
      (λ h _. rw (accepted, ← begun, h, laid))
      (λ _ e. absurd (not_refused (sym e)))
