-- No. 2 of 02, the manual's mnemonics: the table of its names and values, kept once, and what of it stands on the line of a control word. Assumes nothing.
use Rattle.std.specs.Prelude.{ℕ, ◌+◌, ◌-◌, ◌%◌, ◌≡◌, Bool, true, false, not, ◌&&◌, ◌||◌, List, [], ◌∷◌, ◌++◌, nat_eq, nat_lt, drop}
use Prim.Native.String.{String}
use Rattle.std.specs.Int.Bits.{bit_and}
use Rattle.words.specs.Words.{bit, bits, weight, pick}
use Rattle.text.specs.Text.{bytes, octal}
use Rattle.mnemonics.specs.declared.Row.{Row}

-- THE KINDS OF CONTROL WORD (01, Control words): 0 to 5 are the op codes 0 to 5, then 60, 61, 62, 63, and in one the words 64 to 67 of slave tubes; 11 are
-- the words of op code 7, which have no mnemonic

unfoldable pub kind : ℕ → ℕ
kind w =
    let operation = bits w 0 2 in
    let minor = bits w 3 5 in
    pick (nat_lt operation 6) operation (pick (nat_eq operation 7) 11 (pick (nat_lt minor 4) (6 + minor) 10))

-- a set of kinds: the bits of these places are 1
abbrev parameters : ℕ
parameters = weight 0

abbrev modes : ℕ
modes = weight 1

abbrev jumps : ℕ
jumps = weight 2

abbrev pops : ℕ
pops = weight 3

abbrev first_bank : ℕ
first_bank = weight 4

abbrev second_bank : ℕ
second_bank = weight 5

abbrev first_compare : ℕ
first_compare = weight 6

abbrev second_compare : ℕ
second_compare = weight 7

abbrev flags : ℕ
flags = weight 8

abbrev counts : ℕ
counts = weight 9

abbrev slaves : ℕ
slaves = weight 10

-- words that set scale and pen
abbrev settings : ℕ
settings = parameters + jumps + pops

-- words that skip on buttons and set them
abbrev buttons : ℕ
buttons = first_bank + second_bank

-- THE TABLE (manual, table A3-3): a name, filled up with spaces to five bytes; its octal value, whose 1 bits it covers; the bits of a word that are looked
-- at, the enable bit of a scale, pen, mode or intensity among them; and the kinds of word that it stands in. The 11 base names come first, then the modifiers
-- by falling bit (02, No. 2)

abbrev row : String → ℕ → ℕ → ℕ → Row
row name value mask kinds = record { name = bytes name; value = value; mask = mask; kinds = kinds }

unfoldable pub rows : List Row
rows =
    row "JUMP " 0o2000 0o0010 jumps
    ∷ row "PJMP " 0o2010 0o0010 jumps
    ∷ row "POP  " 0o3000 0o0000 pops
    ∷ row "SK1  " 0o4000 0o0000 first_bank
    ∷ row "SK2  " 0o5000 0o0000 second_bank
    ∷ row "SK3  " 0o6000 0o0000 first_compare
    ∷ row "SK4  " 0o6100 0o0000 second_compare
    ∷ row "SG0  " 0o6400 0o0300 slaves
    ∷ row "SG1  " 0o6500 0o0300 slaves
    ∷ row "SG2  " 0o6600 0o0300 slaves
    ∷ row "SG3  " 0o6700 0o0300 slaves
    ∷ row "SC1  " 0o0400 0o0700 settings
    ∷ row "SC2  " 0o0500 0o0700 settings
    ∷ row "SC4  " 0o0600 0o0700 settings
    ∷ row "SC8  " 0o0700 0o0700 settings
    ∷ row "LPOF " 0o0040 0o0060 settings
    ∷ row "LPON " 0o0060 0o0060 settings
    ∷ row "INT  " 0o0010 0o0010 parameters
    ∷ row "STOP " 0o1400 0o0400 modes
    ∷ row "CLDF " 0o1200 0o0200 modes
    ∷ row "POINT" 0o1100 0o0170 modes
    ∷ row "INCR " 0o1110 0o0170 modes
    ∷ row "VEC  " 0o1120 0o0170 modes
    ∷ row "VECON" 0o1130 0o0170 modes
    ∷ row "SVEC " 0o1140 0o0170 modes
    ∷ row "CHAR " 0o1150 0o0170 modes
    ∷ row "GRAPH" 0o1160 0o0170 modes
    ∷ row "CSB  " 0o1004 0o0004 modes
    ∷ row "CCB  " 0o1002 0o0002 modes
    ∷ row "EDS  " 0o1001 0o0001 modes
    ∷ row "PNM  " 0o3010 0o0010 pops
    ∷ row "PNLS " 0o3004 0o0004 pops
    ∷ row "PNI  " 0o3002 0o0002 pops
    ∷ row "PEDS " 0o3001 0o0001 pops
    ∷ row "INV  " 0o0400 0o0400 buttons
    ∷ row "CLAT " 0o0200 0o0200 buttons
    ∷ row "COAT " 0o0100 0o0100 buttons
    ∷ row "SKIP " 0o6240 0o0040 flags
    ∷ row "SNSZ " 0o6220 0o0020 flags
    ∷ row "SPB1 " 0o6210 0o0010 flags
    ∷ row "SPB2 " 0o6204 0o0004 flags
    ∷ row "SLPSI" 0o6202 0o0002 flags
    ∷ row "CLPSI" 0o6201 0o0001 flags
    ∷ row "SCUP " 0o6340 0o0060 counts
    ∷ row "SCDN " 0o6360 0o0060 counts
    ∷ row "INTUP" 0o6310 0o0014 counts
    ∷ row "INTDN" 0o6314 0o0014 counts
    ∷ row "BKON " 0o6302 0o0002 counts
    ∷ row "BKOF " 0o6301 0o0001 counts
    ∷ row "SU0  " 0o0040 0o0070 slaves
    ∷ row "LP0  " 0o0060 0o0060 slaves
    ∷ row "IT0  " 0o0050 0o0050 slaves
    ∷ row "SU1  " 0o0004 0o0007 slaves
    ∷ row "LP1  " 0o0006 0o0006 slaves
    ∷ row "IT1  " 0o0005 0o0005 slaves
    ∷ []

-- TESTS OVER ALL ROWS: each row passes a test with each row behind it

unfoldable pub each_behind : (Row → Row → Bool) → Row → List Row → Bool
each_behind test r [] = true
each_behind test r (q ∷ qs) = test r q && each_behind test r qs

unfoldable pub each_pair : (Row → Row → Bool) → List Row → Bool
each_pair test [] = true
each_pair test (r ∷ rs) = each_behind test r rs && each_pair test rs

unfoldable pub same : List ℕ → List ℕ → Bool
same [] [] = true
same [] (b ∷ bs) = false
same (a ∷ more) [] = false
same (a ∷ more) (b ∷ bs) = nat_eq a b && same more bs

-- a kind of word that both stand in
abbrev pub meet : Row → Row → Bool
meet r q = not (nat_eq (bit_and r.kinds q.kinds) 0)

-- no two rows are alike: not one name, and not one value in one kind of word
unfoldable pub unlike : Row → Row → Bool
unlike r q = not (same r.name q.name) && not (nat_eq r.value q.value && meet r q)

abbrev pub Distinct : Type 0
Distinct = each_pair unlike rows ≡ true

-- some word has both: a kind in common, and no bit that both look at and want otherwise
unfoldable pub together : Row → Row → Bool
together r q =
    let looked = bit_and r.mask q.mask in
    meet r q && nat_eq (bit_and r.value looked) (bit_and q.value looked)

-- modifiers by falling bit: of two that some word has, the value without its op code falls from the first to the other
unfoldable pub falls : Row → Row → Bool
falls r q = not (together r q) || nat_lt (q.value % 512) (r.value % 512)

abbrev pub Falling : Type 0
Falling = each_pair falls (drop 11 rows) ≡ true

-- WHAT STANDS ON THE LINE OF A CONTROL WORD

-- the mnemonic of a row stands there if the word's kind is one of the row's and the bits looked at are those of its value
unfoldable pub applies : Row → ℕ → Bool
applies r w = bit r.kinds (kind w) && nat_eq (bit_and w r.mask) (bit_and r.value r.mask)

-- a name without what fills it up: 32 is a space
unfoldable pub letters : List ℕ → List ℕ
letters [] = []
letters (byte ∷ bytes) = pick (nat_eq byte 32) (letters bytes) (byte ∷ letters bytes)

-- one space, and the name of a row that stands there
unfoldable pub name : ℕ → Row → List ℕ
name w r = pick (applies r w) (32 ∷ letters r.name) []

unfoldable pub names_in : List Row → ℕ → List ℕ
names_in [] w = []
names_in (r ∷ rs) w = name w r ++ names_in rs w

abbrev pub names : ℕ → List ℕ
names w = names_in rows w

-- a name that stands there covers the 1 bits of its value
unfoldable pub uncovered : Row → ℕ → ℕ → ℕ
uncovered r w left = pick (applies r w) (left - bit_and left r.value) left

unfoldable pub rest_in : List Row → ℕ → ℕ → ℕ
rest_in [] w left = left
rest_in (r ∷ rs) w left = rest_in rs w (uncovered r w left)

-- the bits that no name covers
abbrev pub rest : ℕ → ℕ
rest w = rest_in rows w w

-- they end the line as one octal number, unless 0
unfoldable pub rest_field : ℕ → List ℕ
rest_field left = pick (nat_eq left 0) [] (32 ∷ octal left)

unfoldable pub mnemonics : ℕ → List ℕ
mnemonics w = names w ++ rest_field (rest w)
