-- Section 'Control words' of 01, words 0 to 3, on the registers other than the motion; hold is ended before (01, One turn of a run). Words 4 to 7 are in
-- the files of this name of skips and button_skips. Assumes nothing.
use Rattle.std.specs.Prelude.{ℕ, ◌+◌, ◌*◌, ◌/◌, ◌%◌, ◌^◌, Bool, not, ◌&&◌, ◌||◌}
use Rattle.words.specs.Words.{bit, bits, pick}
use Rattle.addresses.specs.Addresses.{address_after, address_in, break_field, low_bits, pointer_after, pointer_before}
use Rattle.registers.specs.declared.Base.{Base}
use Rattle.registers.specs.With.{with_x, with_y, with_address, with_pointer, with_scale, with_intensity, with_mode, with_datastate, with_running, with_pen, with_hit1, with_hit2, with_internal}
use Rattle.status.specs.Status.{flag, settings}

-- scale and pen by enable bits, in words 0, 2 and 3 alike (manual 2.1.1, 2.1.3, 2.1.4)
unfoldable pub scale_by : ℕ → ℕ → ℕ
scale_by w old = pick (bit w 3) (bits w 4 5) old

unfoldable pub pen_by : ℕ → Bool → Bool
pen_by w old = pick (bit w 6) (bit w 7) old

-- intensity by its enable bit (manual 2.1.1)
unfoldable pub intensity_by : ℕ → ℕ → ℕ
intensity_by w old = pick (bit w 8) (bits w 9 11) old

abbrev pub scale_and_pen : Base → ℕ → Base
scale_and_pen b w = with_pen (with_scale b (scale_by w b.scale)) (pen_by w b.pen)

-- 0: scale, pen, intensity by enable bits
unfoldable pub parameter : Base → ℕ → Base
parameter b w =
    with_intensity (scale_and_pen (with_address b (address_after b.address 1)) w) (intensity_by w b.intensity)

-- 1: bit 4 clears both hit flags
abbrev pub unhit : Base → ℕ → Base
unhit b w = with_hit2 (with_hit1 b (b.hit1 && not (bit w 4))) (b.hit2 && not (bit w 4))

-- mode if bit 5
abbrev pub moded : Base → ℕ → Base
moded b w = with_mode b (pick (bit w 5) (bits w 6 8) b.mode)

-- bit 9 clears the high 3 bits of x and y, bit 10 the low 10
unfoldable pub coordinate : ℕ → ℕ → ℕ
coordinate w v =
    let low = pick (bit w 9) (v % 1024) v in
    pick (bit w 10) (low / 1024 * 1024) low

abbrev pub coordinates : Base → ℕ → Base
coordinates b w = with_y (with_x b (coordinate w b.x)) (coordinate w b.y)

-- bit 11 enters data state, in words 1 and 3 alike
abbrev pub entering : Base → ℕ → Base
entering b w = with_datastate b (b.datastate || bit w 11)

-- bit 3 stops
abbrev pub stopping : Base → ℕ → Base
stopping b w = with_internal (with_running b (b.running && not (bit w 3))) (b.internal || bit w 3)

-- all take effect, also together with a stop
unfoldable pub mode : Base → ℕ → Base
mode b w = stopping (entering (coordinates (moded (unhit (with_address b (address_after b.address 1)) w) w) w) w) w

-- 2: two words; the new address, scale and pen
unfoldable pub jump : Base → ℕ → ℕ → Base
jump b w v = scale_and_pen (with_address b (address_in (bits w 9 11) v)) w

-- a push stores first (break field, pen, scale, mode, intensity) of the return address and old status (layout: manual 1.1.6)
unfoldable pub pushed_first : Base → ℕ
pushed_first b = break_field (address_after b.address 2) * 2 ^ 9 + flag b.pen 3 + settings b

-- then its low 12 bits
unfoldable pub pushed_second : Base → ℕ
pushed_second b = low_bits (address_after b.address 2)

-- pointer +2; then the new address, scale and pen
unfoldable pub push : Base → ℕ → ℕ → Base
push b w v = jump (with_pointer b (pointer_after b.pointer 2)) w v

-- 3: pointer -2; address restored
abbrev pub returned : Base → ℕ → ℕ → Base
returned b first second = with_address (with_pointer b (pointer_before b.pointer 2)) (address_in (bits first 0 2) second)

-- status too unless inhibited by bits 8, 9, 10: mode by 8, scale and pen by 9, intensity by 10 (manual 2.1.4)
abbrev pub restored : Base → ℕ → ℕ → Base
restored b w first =
    let by_eight = with_mode b (pick (not (bit w 8)) (bits first 6 8) b.mode) in
    let by_nine = with_pen (with_scale by_eight (pick (not (bit w 9)) (bits first 4 5) b.scale)) (pick (not (bit w 9)) (bit first 3) b.pen) in
    with_intensity by_nine (pick (not (bit w 10)) (bits first 9 11) b.intensity)

-- then its own scale and pen; bit 11 enters data state
unfoldable pub pop : Base → ℕ → ℕ → ℕ → Base
pop b w first second = entering (scale_and_pen (restored (returned b first second) w first) w) w
