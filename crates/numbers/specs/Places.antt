-- The places of the registers in a row of numbers, from 0, in the order of the replay format; those of the motion behind them are named in motion_numbers. Then
-- which of them are flags, and which have 8 bits. Assumes nothing.
use Rattle.std.specs.Prelude.{ℕ, List, [], ◌∷◌}

abbrev pub ADDRESS : ℕ
ADDRESS = 0

abbrev pub POINTER : ℕ
POINTER = 1

abbrev pub X : ℕ
X = 2

abbrev pub Y : ℕ
Y = 3

abbrev pub STATE : ℕ
STATE = 4

abbrev pub MODE : ℕ
MODE = 5

abbrev pub SCALE : ℕ
SCALE = 6

abbrev pub INTENSITY : ℕ
INTENSITY = 7

abbrev pub PEN_ENABLE : ℕ
PEN_ENABLE = 8

abbrev pub PEN_HOLD : ℕ
PEN_HOLD = 9

abbrev pub PEN_SENSE : ℕ
PEN_SENSE = 10

abbrev pub BLINK : ℕ
BLINK = 11

abbrev pub IDLE : ℕ
IDLE = 12

abbrev pub BUTTONS : ℕ
BUTTONS = 13

abbrev pub HIT_1 : ℕ
HIT_1 = 14

abbrev pub HIT_2 : ℕ
HIT_2 = 15

abbrev pub INTERNAL_STOP_FLAG : ℕ
INTERNAL_STOP_FLAG = 16

abbrev pub EXTERNAL_STOP_FLAG : ℕ
EXTERNAL_STOP_FLAG = 17

abbrev pub VERTICAL_EDGE_FLAG : ℕ
VERTICAL_EDGE_FLAG = 18

abbrev pub HORIZONTAL_EDGE_FLAG : ℕ
HORIZONTAL_EDGE_FLAG = 19

abbrev pub PEN_FLAG : ℕ
PEN_FLAG = 20

abbrev pub MANUAL_INTERRUPT_FLAG : ℕ
MANUAL_INTERRUPT_FLAG = 21

abbrev pub CONDITIONS : ℕ
CONDITIONS = 22

abbrev pub RUNNING : ℕ
RUNNING = 23

abbrev pub STOP_REQUEST : ℕ
STOP_REQUEST = 24

-- whether a word is held, and the held word
abbrev pub HELD : ℕ
HELD = 25

abbrev pub HELD_WORD : ℕ
HELD_WORD = 26

-- the character generator's case, code size and starting address register
abbrev pub CASE : ℕ
CASE = 27

abbrev pub CODE_SIZE : ℕ
CODE_SIZE = 28

abbrev pub STARTING_ADDRESS : ℕ
STARTING_ADDRESS = 29

-- FLAGS AND NUMBERS OF 8 BITS

-- the state and the flags of the registers
abbrev pub flags : List ℕ
flags =
    STATE
    ∷ PEN_ENABLE
    ∷ PEN_HOLD
    ∷ PEN_SENSE
    ∷ BLINK
    ∷ IDLE
    ∷ HIT_1
    ∷ HIT_2
    ∷ INTERNAL_STOP_FLAG
    ∷ EXTERNAL_STOP_FLAG
    ∷ VERTICAL_EDGE_FLAG
    ∷ HORIZONTAL_EDGE_FLAG
    ∷ PEN_FLAG
    ∷ MANUAL_INTERRUPT_FLAG
    ∷ RUNNING
    ∷ STOP_REQUEST
    ∷ HELD
    ∷ CASE
    ∷ CODE_SIZE
    ∷ []

abbrev pub narrows : List ℕ
narrows = MODE ∷ SCALE ∷ INTENSITY ∷ STARTING_ADDRESS ∷ []
