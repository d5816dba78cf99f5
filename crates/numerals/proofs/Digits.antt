-- How the reading of digits goes on byte by byte, and where the hyphen is found. Assumes nothing.
use Rattle.std.proofs.Common.{◌≡◌, ℕ, suc, ◌+◌, ◌-◌, ◌<◌, ◌≤◌, Bool, true, false, cond, List, Option, Some, None, nat_lt, nat_eq, length, get_or, drop, take, length-drop, refl, sym, ◌∙◌, ap, arith}
use Rattle.std.specs.Prelude.{position}
use Rattle.std.specs.List.{position_or_len}
use Rattle.std.proofs.lemmas.List.Recursion.{is_position_or_len}
use lib.Seq.{drop-cons, drop-length, take_all}
use Rattle.words.specs.Words.{pick}
use Rattle.numerals.specs.Numerals.{grown, digits, hyphen, limited, ordered, range}

-- one byte more
pub digits_next : (base : ℕ) (s : List ℕ) (i : ℕ) (n : ℕ) {m : Option ℕ} → i < length s → m ≡ grown base n (get_or s i 0) →
    digits base m (drop (i + 1) s) ≡ digits base (Some n) (drop i s)
unfolding digits
digits_next base s i n h p =
    let e : i + 1 ≡ suc i = omega arith in
    rw (e, p, drop-cons s i 0 h)

-- and none is left
pub digits_done : (base : ℕ) (s : List ℕ) (i : ℕ) (n : ℕ) → i ≤ length s → length s ≤ i → digits base (Some n) (drop i s) ≡ Some n
unfolding digits
digits_done base s i n h k = let e : i ≡ length s = omega arith in rw (e, drop-length s)

picked : {A : Type 0} (b : Bool) (x y : A) → pick b x y ≡ cond b x y
unfolding pick
picked true x y = refl
picked false x y = refl

-- the search finds the hyphen
hyphen_found : (s : List ℕ) → position (λ (byte : ℕ). nat_eq byte 45) s ≡ pick (nat_lt (hyphen s) (length s)) (Some (hyphen s)) None
unfolding hyphen
hyphen_found s =
    let p : ℕ → Bool = λ byte. nat_eq byte 45 in
    let e : hyphen s ≡ position_or_len p s = is_position_or_len hyphen p refl (λ x xs. picked (nat_eq x 45) 0 (suc (hyphen xs)) ∙ ap (cond (nat_eq x 45) 0) (omega arith)) s in
    ap (λ k. cond (nat_lt k (length s)) (Some k) None) (sym e) ∙ sym (picked (nat_lt (hyphen s) (length s)) (Some (hyphen s)) None)

-- without one there is no range
pub range_none : (s : List ℕ) → position (λ (byte : ℕ). nat_eq byte 45) s ≡ None → range s ≡ None
unfolding range pick
range_none s h = by (nat_lt (hyphen s) (length s)) refl
  where
    by : (t : Bool) → nat_lt (hyphen s) (length s) ≡ t → range s ≡ None
    by true p = let e : Some (hyphen s) ≡ None = rw p at (sym (hyphen_found s) ∙ h) in cc
    by false p = rw p refl

-- the two numbers stand before and behind it
at_hyphen : (s : List ℕ) (k : ℕ) → position (λ (byte : ℕ). nat_eq byte 45) s ≡ Some k →
    range s ≡ ordered (limited 8 32768 (take k s)) (limited 8 32768 (drop (k + 1) s))
unfolding range pick
at_hyphen s k h = by (nat_lt (hyphen s) (length s)) refl
  where
    by : (t : Bool) → nat_lt (hyphen s) (length s) ≡ t → range s ≡ ordered (limited 8 32768 (take k s)) (limited 8 32768 (drop (k + 1) s))
    by true p = let e : Some (hyphen s) ≡ Some k = rw p at (sym (hyphen_found s) ∙ h) in let q : hyphen s ≡ k = cc in rw (p, q) refl
    by false p = let e : None ≡ Some k = rw p at (sym (hyphen_found s) ∙ h) in cc

pub range_at : (s : List ℕ) (k : ℕ) {low high : Option ℕ} → Some k ≡ position (λ (byte : ℕ). nat_eq byte 45) s → low ≡ limited 8 32768 (take k s) →
    high ≡ limited 8 32768 (take (length s - (k + 1)) (drop (k + 1) s)) → ordered low high ≡ range s
range_at s k h p q =
    let whole : take (length s - (k + 1)) (drop (k + 1) s) ≡ drop (k + 1) s = take_all (length s - (k + 1)) (drop (k + 1) s) (rw (length-drop (k + 1) s) (omega arith)) in
    rw (p, q, whole, at_hyphen s k (sym h)) refl
