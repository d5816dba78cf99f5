-- No. 2 of 02, a line of a listing, and how the listing goes from word to word: which words are control words, and which are data or second words and show
-- as octal only. Assumes nothing.
use Rattle.std.specs.Prelude.{ℕ, Bool, true, false, not, ◌&&◌, ◌||◌, List, [], ◌∷◌, ◌++◌, nat_eq}
use Rattle.words.specs.Words.{bit, bits, pick}
use Rattle.registers.specs.Registers.{byte_at, escapes as byte_escapes}
use Rattle.text.specs.Text.{octal_word, octal_address}
use Rattle.mnemonics.specs.Mnemonics.{mnemonics}
use Rattle.listed_lines.specs.declared.Standing.{Standing}

-- before the first word of a range: a state, 0 control or 1 data, and a mode
abbrev pub starting : ℕ → ℕ → Standing
starting state mode = record { datastate = nat_eq state 1; mode = mode; second = false }

-- DATA STATE lasts to the escape

-- in data modes 5 and 7 the rest is octal
abbrev pub endless : ℕ → Bool
endless mode = nat_eq mode 5 || nat_eq mode 7

-- a point, a vector and a vector continue have two words (manual 2.2)
abbrev pub long : ℕ → Bool
long mode = nat_eq mode 0 || nat_eq mode 2 || nat_eq mode 3

-- a command's last word escapes by either byte in mode 1, by bit 6 in mode 4, else by bit 0 (manual 2.2)
unfoldable pub escapes : ℕ → ℕ → Bool
escapes mode w =
    pick (nat_eq mode 1) (byte_escapes (byte_at w false) || byte_escapes (byte_at w true)) (pick (nat_eq mode 4) (bit w 6) (bit w 0))

-- behind a word of data
unfoldable pub drawn : Standing → ℕ → Standing
drawn s w =
    pick (endless s.mode) s
    (pick (long s.mode && not s.second) (record { datastate = true; mode = s.mode; second = true })
    (record { datastate = not (escapes s.mode w); mode = s.mode; second = false }))

-- CONTROL STATE: data state begins at an enter-data bit, bit 11 of a mode word or a pop; no jump is followed, and no pop

-- behind the first word of a command: a mode word sets the mode if bit 5 is 1, a jump has a second word
unfoldable pub obeyed : Standing → ℕ → Standing
obeyed s w =
    let operation = bits w 0 2 in
    record {
      datastate = (nat_eq operation 1 || nat_eq operation 3) && bit w 11;
      mode = pick (nat_eq operation 1 && bit w 5) (bits w 6 8) s.mode;
      second = nat_eq operation 2;
    }

-- behind any word
unfoldable pub after : Standing → ℕ → Standing
after s w =
    pick s.datastate (drawn s w)
    (pick s.second (record { datastate = false; mode = s.mode; second = false }) (obeyed s w))

-- A LINE

-- second words and data words show as octal only
abbrev pub shown : Standing → Bool
shown s = not s.datastate && not s.second

abbrev pub fields_of : ℕ → Bool → List ℕ
fields_of w shown = pick shown (mnemonics w) []

-- the address in five octal digits, the word in four, its mnemonics and the rest; one space between fields (32), a newline last (10)
unfoldable pub line_of : ℕ → ℕ → Bool → List ℕ
line_of a w shown = octal_address a ++ 32 ∷ octal_word w ++ fields_of w shown ++ 10 ∷ []
