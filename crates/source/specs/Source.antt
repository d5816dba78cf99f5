-- A lesson as people write it, read byte by byte: on a line an address in five octal digits, blanks, a word in four; a comment from a slash on; blank lines;
-- blanks, tabs and carriage returns wherever a blank may stand. The last line needs no newline. Assumes nothing.
use Rattle.std.specs.Prelude.{ℕ, ◌+◌, ◌*◌, ◌%◌, Bool, not, ◌&&◌, ◌||◌, List, [], ◌∷◌, Option, Some, None, nat_le, nat_lt, nat_eq, set}
use Rattle.words.specs.Words.{pick}
use Rattle.lines.specs.Lines.{is_octal, digit}
use Rattle.source.specs.declared.Span.{Span}
use Rattle.source.specs.declared.Source.{Source}

-- A LINE: how far it is read. 0 is nothing yet, 1 to 5 are digits of its address, 6 the blanks behind it, 7 to 10 digits of its word, 11 a comment, 12 what
-- is no line

abbrev pub is_blank : ℕ → Bool
is_blank byte = nat_eq byte 32 || nat_eq byte 9 || nat_eq byte 13

-- nothing yet, or a whole word
abbrev pub at_rest : ℕ → Bool
at_rest place = nat_eq place 0 || nat_eq place 10

-- a digit stands in all other places but between address and word
unfoldable pub after_digit : ℕ → ℕ → ℕ
after_digit place byte = pick (is_octal byte && nat_lt place 10 && not (nat_eq place 5)) (place + 1) 12

-- a comment goes on to the line's end; so does a line that is none, for good
unfoldable pub after_comment : ℕ → ℕ → ℕ
after_comment place byte = pick (nat_eq place 11 && nat_eq byte 10) 0 place

unfoldable pub next : ℕ → ℕ → ℕ
next place byte =
    pick (nat_le 11 place) (after_comment place byte)
    (pick (nat_eq byte 10) (pick (at_rest place) 0 12)
    (pick (nat_eq byte 47) (pick (at_rest place) 11 12)
    (pick (is_blank byte) (pick (at_rest place) place (pick (nat_le 5 place && nat_le place 6) 6 12))
    (after_digit place byte))))

-- A LESSON: the line that is being read with its address and word, and where the words before it stand, if there was one: the first one's address, the
-- lowest address and the one behind the highest

abbrev pub unread : Source
unread = record { place = 0; address = 0; word = 0; span = None }

-- one digit more: the last five digits make an address, the last four a word
abbrev pub address_with : ℕ → ℕ → ℕ
address_with address byte = 8 * (address % 4096) + digit byte

abbrev pub word_with : ℕ → ℕ → ℕ
word_with word byte = 8 * (word % 512) + digit byte

-- where the words stand with one more, at an address
unfoldable pub spanned : Option Span → ℕ → Span
spanned None address = record { start = address; low = address; high = address % 32768 + 1 }
spanned (Some p) address =
    record {
      start = p.start;
      low = pick (nat_le p.low address) p.low address;
      high = pick (nat_lt address p.high) p.high (address % 32768 + 1);
    }

-- the word is whole: it counts among the lesson's own
abbrev pub noted : Source → Source
noted s = record s { span = Some (spanned s.span s.address) }

-- whether a byte makes the word whole
abbrev pub fills : Source → ℕ → Bool
fills s byte = nat_eq s.place 9 && is_octal byte

unfoldable pub moved : Source → ℕ → Source
moved s byte =
    record s {
      place = next s.place byte;
      address = pick (is_octal byte && nat_lt s.place 5) (address_with s.address byte) s.address;
      word = pick (is_octal byte && nat_le 6 s.place && nat_lt s.place 10) (word_with s.word byte) s.word;
    }

abbrev pub step : Source → ℕ → Source
step s byte = pick (fills s byte) (noted (moved s byte)) (moved s byte)

-- what was read, and the memory that its words make
pub record Read : Type 0 where
  pub source : Source
  pub memory : List ℕ

abbrev pub reads : Source → List ℕ → Read
reads source memory = record { source = source; memory = memory }

-- the word that a byte makes whole is laid into the memory; a later one for an address wins
abbrev pub laid : Source → ℕ → List ℕ → List ℕ
laid s byte m = let t = moved s byte in pick (fills s byte) (set m (t.address % 32768) t.word) m

unfoldable pub read : Source → List ℕ → List ℕ → Read
read s m [] = reads s m
read s m (byte ∷ bytes) = read (step s byte) (laid s byte m) bytes

-- whether the line is none, for good
abbrev pub is_broken : Source → Bool
is_broken s = nat_eq s.place 12

-- a lesson: at least one word, and no line that is none or unfinished
abbrev pub whole : Source → Option Span
whole s = pick (at_rest s.place || nat_eq s.place 11) s.span None
