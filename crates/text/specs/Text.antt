-- Text as a list of bytes, what it is to put it into a lent list, and a number in decimal and in octal. Assumes nothing.
use Rattle.std.specs.Prelude.{ℕ, ◌+◌, ◌/◌, ◌%◌, List, [], ◌∷◌, ◌++◌, nat_le, nat_lt, length, set, drop}
use Prim.Native.Char.{code}
use Prim.Native.String.{String, [] as none, ◌∷◌ as joined}
use Rattle.words.specs.Words.{pick}

-- a quoted text: each character's byte
unfoldable pub bytes : String → List ℕ
bytes none = []
bytes (joined c cs) = code c ∷ bytes cs

-- a lent list, and how far it is filled
pub record Filled : Type 0 where
  pub place : ℕ
  pub bytes : List ℕ

abbrev pub filled : ℕ → List ℕ → Filled
filled place bytes = record { place = place; bytes = bytes }

-- a byte at the place, and the place behind it; nothing where the list is full
unfoldable pub put : ℕ → Filled → Filled
put byte f = pick (nat_lt f.place (length f.bytes)) (filled (f.place + 1) (set f.bytes f.place byte)) f

-- bytes one behind the other
unfoldable pub puts : List ℕ → Filled → Filled
puts [] f = f
puts (byte ∷ bytes) f = puts bytes (put byte f)

-- the list begins with the text and goes on as it was
unfoldable pub whole : List ℕ → List ℕ → Filled
whole bytes text = filled (length bytes) (bytes ++ drop (length bytes) text)

-- one figure in a base as a byte: 0 is 48
abbrev pub digit : ℕ → ℕ → ℕ
digit base n = 48 + n % base

-- the figure of this weight; none in the place of a leading zero
unfoldable pub figure : ℕ → ℕ → ℕ → List ℕ
figure base n weight = pick (nat_le weight n) (digit base (n / weight) ∷ []) []

-- a number below 100,000 in decimal, without leading zeros
unfoldable pub decimal : ℕ → List ℕ
decimal n = figure 10 n 10000 ++ figure 10 n 1000 ++ figure 10 n 100 ++ figure 10 n 10 ++ digit 10 n ∷ []

-- a number below 4,096 in octal, without leading zeros
unfoldable pub octal : ℕ → List ℕ
octal n = figure 8 n 512 ++ figure 8 n 64 ++ figure 8 n 8 ++ digit 8 n ∷ []

-- a number and the byte that ends it
unfoldable pub number : ℕ → ℕ → List ℕ
number n end = decimal n ++ end ∷ []

-- the digit of this weight in octal
abbrev pub octal_digit : ℕ → ℕ → ℕ
octal_digit n weight = digit 8 (n / weight)

-- a word in four octal digits, and an address in five
unfoldable pub octal_word : ℕ → List ℕ
octal_word n = octal_digit n 512 ∷ octal_digit n 64 ∷ octal_digit n 8 ∷ octal_digit n 1 ∷ []

unfoldable pub octal_address : ℕ → List ℕ
octal_address n = octal_digit n 4096 ∷ octal_word n
