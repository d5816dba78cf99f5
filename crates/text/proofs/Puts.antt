-- Text put behind text is the text of both; where there is room, the list begins with the text and goes on as it was; and how long a number is. Assumes
-- nothing.
use Prim.Native.Nat.{ℕ, suc, ◌+◌, ◌≤◌, ◌<◌}
use mathlib.Core.Path.{◌≡◌, refl, sym, ◌∙◌, ap}
use mathlib.Core.List.{List, [], ◌∷◌, ◌++◌}
use native.Mathlib.Nat.{add-zero, zero-add}
use native.Mathlib.Omega.{arith}
use Rattle.std.specs.Prelude.{nat_le}
use lib.ListN.{length, set, get_or, drop, length-append, length-set}
use lib.Seq.{sets, sets-eq, drop-cons, drop-length}
use borrow.Author.Tests.{lt-ltb}
use Rattle.words.specs.Words.{pick}
use Rattle.words.proofs.Laws.{pick_case}
use Rattle.text.specs.declared.Text.{Text}
use Rattle.text.specs.Text.{Filled, filled, put, puts, whole, figure, decimal, octal, number}
use Rattle.text.specs.Adds.{Adds}

puts_append : (a b : List ℕ) (f : Filled) → puts (a ++ b) f ≡ puts b (puts a f)
unfolding puts
puts_append [] b f = refl
puts_append (x ∷ a) b f = puts_append a b (put x f)

pub behind : (a b : List ℕ) (f : Filled) {g h : Filled} → g ≡ puts a f → h ≡ puts b g → h ≡ puts (a ++ b) f
behind a b f p q = q ∙ ap (puts b) p ∙ sym (puts_append a b f)

-- a text that goes on twice goes on with both
pub adds_behind : (a b : List ℕ) {f g h : Text} → Adds f g a → Adds g h b → Adds f h (a ++ b)
adds_behind a b p q = record { same = q.same ∙ p.same; put = behind a b _ p.put q.put }

-- one byte more
pub puts_next : (bytes : List ℕ) (i : ℕ) (f : Filled) {g : Filled} → i < length bytes → g ≡ puts (get_or bytes i 0 ∷ []) f →
    puts (drop (i + 1) bytes) g ≡ puts (drop i bytes) f
unfolding puts
puts_next bytes i f h p =
    let s : i + 1 ≡ suc i = omega arith in
    rw s (ap (puts (drop (suc i) bytes)) p ∙ ap (λ (t : List ℕ). puts t f) (sym (drop-cons bytes i 0 h)))

-- and none is left
pub puts_last : (bytes : List ℕ) (i : ℕ) (f : Filled) → i ≤ length bytes → length bytes ≤ i → f ≡ puts (drop i bytes) f
unfolding puts
puts_last bytes i f h k = let e : i ≡ length bytes = omega arith in rw (e, drop-length bytes)

puts_sets : (bytes : List ℕ) (n : ℕ) (text : List ℕ) → n + length bytes ≤ length text →
    puts bytes (filled n text) ≡ filled (n + length bytes) (sets text n bytes)
unfolding puts put pick
puts_sets [] n text h = rw (add-zero n)
puts_sets (b ∷ bytes) n text h =
    let e : n + 1 + length bytes ≡ n + suc (length bytes) = omega arith in
    let s : n + 1 ≡ suc n = omega arith in
    rw (lt-ltb n (length text) (omega arith), ← e, s)
    (rw s at (puts_sets bytes (n + 1) (set text n b) (rw (length-set) (omega arith))))

-- text that has room
pub puts_whole : (bytes text : List ℕ) → length bytes ≤ length text →
    puts bytes (filled 0 text) ≡ whole bytes text
unfolding whole
puts_whole bytes text h =
    puts_sets bytes 0 text (omega arith)
    ∙ rw (zero-add (length bytes)) (ap (filled (length bytes)) (sets-eq bytes text 0 (omega arith) ∙ rw (zero-add (length bytes))))

length-figure : (base n weight : ℕ) → length (figure base n weight) ≤ 1
unfolding figure
length-figure base n weight =
    pick_case (λ (t : List ℕ). length t ≤ 1) (nat_le weight n) (λ _. omega arith) (λ _. omega arith)

pub length-decimal : (n : ℕ) → length (decimal n) ≤ 5
unfolding decimal
length-decimal n =
    simp length-append
    (omega (arith, length-figure 10 n 10000, length-figure 10 n 1000, length-figure 10 n 100, length-figure 10 n 10))

pub length-octal : (n : ℕ) → length (octal n) ≤ 4
unfolding octal
length-octal n =
    simp length-append (omega (arith, length-figure 8 n 512, length-figure 8 n 64, length-figure 8 n 8))

pub length-number : (n end : ℕ) → length (number n end) ≤ 6
unfolding number
length-number n end = simp length-append (omega (arith, length-decimal n))

-- a list that begins with the text is filled no further than it is long
pub whole_inside : (bytes text : List ℕ) {f : Filled} → f ≡ whole bytes text → f.place ≤ length f.bytes
unfolding whole
whole_inside bytes text e =
    rw (ap (λ (t : Filled). t.place) e, ap (λ (t : Filled). t.bytes) e, length-append) (omega arith)
