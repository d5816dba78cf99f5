-- What a listing answers: where 1, 3 or 6 refuses, and behind them by what was measured. Assumes nothing.
use Prim.Native.Nat.{ℕ, ◌≤◌, ◌<◌}
use mathlib.Core.Path.{◌≡◌, sym, ◌∙◌, ap}
use mathlib.Core.Bool.{true}
use mathlib.Core.List.{List}
use Rattle.std.specs.Prelude.{Result, Ok, Err}
use lib.ListN.{length}
use lib.Seq.{slice}
use borrow.Author.Tests.{lt-ltb, le-ltb}
use Rattle.words.specs.Words.{pick}
use Rattle.words.proofs.Laws.{pick_case}
use Rattle.text.specs.Text.{Filled, filled, puts, whole}
use Rattle.text.proofs.Puts.{puts_whole}
use Rattle.listed_lines.specs.declared.Standing.{Standing}
use Rattle.listed_lines.specs.ListedLines.{starting}
use Rattle.listing.specs.declared.Refusal.{Refusal}
use Rattle.listing.specs.declared.Refusal.TheVariants.{Word, Room}
use Rattle.listing.specs.Listing.{lines_of, text, good, refusal, leaves, unless_refused, listed}
use Rattle.listing.specs.Measuring.{measured}
use Rattle.listing.proofs.Unrefused.{not_refused}

pub refused : (m : List ℕ) (low high state mode : ℕ) (t : List ℕ) {r : Refusal} → Err r ≡ refusal (length m) low high state mode →
    leaves (Err r) t ≡ listed m low high state mode t
unfolding listed unless_refused
refused m low high state mode t e = rw (← e)

-- words whose lines were measured
record Sized (ws lines : List ℕ) (n : ℕ) : Type 0 where
  goodness : good ws ≡ true
  size : length lines ≡ n

module _ (m : List ℕ) (low high state mode : ℕ) (t : List ℕ) {from : Standing} (accepted : refusal (length m) low high state mode ≡ Ok tt)
    (begun : from ≡ starting state mode) where
  pub wide : {r : Refusal} → Err r ≡ measured low from (slice low high m) → leaves (Err r) t ≡ listed m low high state mode t
  unfolding listed unless_refused pick
  wide {r} =
      pick_case (λ (q : Result ℕ Refusal). Err r ≡ q → leaves (Err r) t ≡ listed m low high state mode t) (good (slice low high m))
      (λ _ e. absurd (not_refused e))
      (λ h e. let word : r ≡ Word = cc in rw (accepted, h, word))

  sized : {n : ℕ} → Ok n ≡ measured low from (slice low high m) → Sized (slice low high m) (text m low high state mode) n
  sized {n} =
      pick_case (λ (q : Result ℕ Refusal). Ok n ≡ q → Sized (slice low high m) (text m low high state mode) n) (good (slice low high m))
      (λ h e. let size : length (lines_of low from (slice low high m)) ≡ n = cc in record { goodness = h; size = rw begun at size })
      (λ _ e. absurd (not_refused (sym e)))

  pub short : {n : ℕ} → Ok n ≡ measured low from (slice low high m) → length t < n → leaves (Err Room) t ≡ listed m low high state mode t
  unfolding listed unless_refused pick
  short e k = let s = sized e in rw (accepted, s.goodness, lt-ltb (length t) (length (text m low high state mode)) (rw s.size k))

  pub done : {n : ℕ} → Ok n ≡ measured low from (slice low high m) → n ≤ length t → {f : Filled} → f ≡ puts (lines_of low from (slice low high m)) (filled 0 t) →
      leaves (Ok f.place) f.bytes ≡ listed m low high state mode t
  unfolding listed unless_refused pick whole
  done e k p =
      let s = sized e in
      rw (accepted, s.goodness, le-ltb (length t) (length (text m low high state mode)) (rw s.size k))
      (ap (λ (g : Filled). leaves (Ok g.place) g.bytes) (rw begun at p ∙ puts_whole (text m low high state mode) t (rw s.size k)))
