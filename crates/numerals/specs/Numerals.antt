-- Numbers and ranges as people write them: digits in octal or decimal, and LOW-HIGH. Assumes nothing.
use Rattle.std.specs.Prelude.{ℕ, suc, ◌+◌, ◌*◌, ◌%◌, Bool, ◌&&◌, List, [], ◌∷◌, Option, Some, None, option_and_then, nat_le, nat_lt, nat_eq, length, take, drop}
use Rattle.words.specs.Words.{pick}
use Rattle.numerals.specs.declared.Bounds.{Bounds}

abbrev pub is_digit : ℕ → ℕ → Bool
is_digit base byte = nat_le 48 byte && nat_lt byte (48 + base)

-- one digit more, whose value is its last four bits; from a million on a number grows no more, for no limit is as large
unfoldable pub grown : ℕ → ℕ → ℕ → Option ℕ
grown base n byte =
    let value = base * n + byte % 16 in
    pick (is_digit base byte) (Some (pick (nat_lt value 1000000) value 1000000)) None

unfoldable pub digits : ℕ → Option ℕ → List ℕ → Option ℕ
digits base None s = None
digits base (Some n) [] = Some n
digits base (Some n) (byte ∷ s) = digits base (grown base n byte) s

-- digits of a base and nothing else, at least one
abbrev pub numeral : ℕ → List ℕ → Option ℕ
numeral base s = digits base (pick (nat_lt 0 (length s)) (Some 0) None) s

-- and a number that passes no limit
unfoldable pub limited : ℕ → ℕ → List ℕ → Option ℕ
limited base most s = option_and_then (λ n. pick (nat_le n most) (Some n) None) (numeral base s)

-- how many bytes stand before the first hyphen, which is 45
unfoldable pub hyphen : List ℕ → ℕ
hyphen [] = 0
hyphen (byte ∷ s) = pick (nat_eq byte 45) 0 (suc (hyphen s))

-- a range of memory: low not above high, high not above 32,768, as 01 has a loan's
unfoldable pub ordered : Option ℕ → Option ℕ → Option Bounds
ordered (Some low) (Some high) = pick (nat_le low high) (Some (record { low = low % 65536; high = high % 65536 })) None
ordered (Some low) None = None
ordered None high = None

-- LOW-HIGH in octal
unfoldable pub range : List ℕ → Option Bounds
range s =
    pick (nat_lt (hyphen s) (length s)) (ordered (limited 8 32768 (take (hyphen s) s)) (limited 8 32768 (drop (hyphen s + 1) s))) None
