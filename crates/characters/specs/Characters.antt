-- The character generator (02, No. 6; manual, appendix 1), in the appendix's order: where the table word of a character lies, what it does once it is fetched,
-- where a routine begins, and what a routine word does. Pen hold is ended before. Assumes nothing.
use Rattle.std.specs.Prelude.{ℕ, ◌+◌, ◌*◌, ◌%◌, Bool, true, false, nat_eq}
use Rattle.std.specs.Int.Bits.{bit_or}
use Rattle.words.specs.Words.{bit, bits, pick}
use Rattle.addresses.specs.declared.DisplayAddress.{DisplayAddress}
use Rattle.addresses.specs.Addresses.{address_at}
use Rattle.registers.specs.declared.Base.{Base}
use Rattle.registers.specs.declared.Stage.TheVariants.{Routine, Increments, Short}
use Rattle.registers.specs.declared.CharacterMotion.{CharacterMotion}
use Rattle.registers.specs.declared.Motion.{Motion}
use Rattle.registers.specs.Registers.{byte_at, moves_asked}
use Rattle.beam.specs.declared.Outcome.{Outcome}
use Rattle.moves.specs.DataWords.{at_stage, after_routine_word}
use Rattle.drawing.specs.DataWords.{unlit, short_line}
use Rattle.control_characters.specs.ControlCharacters.{control_character}

-- THE TABLE

-- the six bits of the starting address register are "gated to the upper six bits" of the address: 512 times the register
unfoldable pub gated : ℕ → ℕ
gated starting = starting % 64 * 512

-- "the seven-bit code, or plus 64 times the case plus the six-bit code": the low seven bits of the word, or its left or its right six
unfoldable pub code : CharacterMotion → Bool → ℕ
code c upper = pick c.seven (bits c.word 5 11) (pick upper 64 0 + byte_at c.word c.right)

-- "the table word lies at 512 times that register plus" the code
unfoldable pub table_address : CharacterMotion → ℕ → Bool → DisplayAddress
table_address c starting upper = address_at (gated starting + code c upper)

-- "a routine begins at 512 times the register, OR'd bit by bit with the dispatch word's ten low bits"
unfoldable pub routine_start : ℕ → ℕ → DisplayAddress
routine_start starting w = address_at (bit_or (gated starting) (bits w 2 11))

-- bit 0 is 1 in a control character; else the word dispatches to a routine, of short vectors where bit 1 is 1, of increments where it is 0
unfoldable pub table_word : Base → CharacterMotion → ℕ → Outcome
table_word b c w =
    pick (bit w 0) (control_character b c w) (unlit b (at_stage c (Routine (bit w 1) (routine_start b.starting w))))

-- ROUTINES

-- an increment word: the left byte's moves come first (01, Data words, Increment)
unfoldable pub routine_increments : CharacterMotion → DisplayAddress → ℕ → Motion
routine_increments c at w = at_stage c (Increments at (record { word = w; moves = moves_asked (byte_at w false); right = false }))

-- a short vector word; if both magnitudes are 0, the fetch ends it with no point (01, Data words, H), and its escape takes effect with it
unfoldable pub routine_short : CharacterMotion → DisplayAddress → ℕ → Motion
routine_short c at w =
    let line = short_line w in
    pick (nat_eq line.moves 0) (after_routine_word c true at line.escape) (at_stage c (Short at line))

-- a routine word, "in increment mode" or "in short vector mode": its moves are to come
unfoldable pub routine_word : Base → CharacterMotion → Bool → DisplayAddress → ℕ → Outcome
routine_word b c short at w = unlit b (pick short (routine_short c at w) (routine_increments c at w))
