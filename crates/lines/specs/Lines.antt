-- The lines of section 'A practice program' of 01: what a line is, and the memory that lines make. Assumes nothing.
use Rattle.std.specs.Prelude.{ℕ, zero, suc, ◌+◌, ◌*◌, ◌%◌, Bool, false, ◌&&◌, List, nat_le, nat_eq, length, set, slice_index}
use Rattle.words.specs.Words.{pick}

abbrev pub is_octal : ℕ → Bool
is_octal byte = nat_le 48 byte && nat_le byte 55

-- four octal digits from a place on
unfoldable pub octals : List ℕ → ℕ → Bool
octals s at =
    is_octal (slice_index s at) && is_octal (slice_index s (at + 1)) && is_octal (slice_index s (at + 2)) && is_octal (slice_index s (at + 3))

-- five octal digits, a space, four octal digits, a newline
unfoldable pub is_line : List ℕ → ℕ → Bool
is_line s at =
    pick (nat_le (at + 11) (length s))
    (octals s at && is_octal (slice_index s (at + 4)) && nat_eq (slice_index s (at + 5)) 32 && octals s (at + 6) && nat_eq (slice_index s (at + 10)) 10)
    false

-- the value of an octal digit: 0 is 60o
abbrev pub digit : ℕ → ℕ
digit byte = byte % 8

unfoldable pub four : List ℕ → ℕ → ℕ
four s at =
    512 * digit (slice_index s at) + 64 * digit (slice_index s (at + 1)) + 8 * digit (slice_index s (at + 2)) + digit (slice_index s (at + 3))

-- the five digits of the line that begins at a place, and its last four
unfoldable pub address : List ℕ → ℕ → ℕ
address s at = 8 * four s at + digit (slice_index s (at + 4))

abbrev pub word : List ℕ → ℕ → ℕ
word s at = four s (at + 6)

-- how many lines were read, and the memory that they make
pub record Read : Type 0 where
  pub count : ℕ
  pub memory : List ℕ

abbrev pub reads : ℕ → List ℕ → Read
reads count memory = record { count = count; memory = memory }

-- at most k lines from a place on, up to the first that is none; a later line for an address wins
unfoldable pub read : ℕ → List ℕ → ℕ → List ℕ → Read
read zero s at m = reads 0 m
read (suc k) s at m =
    pick (is_line s at)
    (let rest = read k s (at + 11) (set m (address s at) (word s at)) in reads (suc rest.count) rest.memory)
    (reads 0 m)

-- the first line's address
unfoldable pub start : List ℕ → ℕ
start s = pick (nat_le 11 (length s)) (address s 0) 0
