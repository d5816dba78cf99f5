-- Section 'Control words' of 01, with their touches of 'One turn of a run': the beat of each control word, and how every command beat begins. What the words
-- set is in the files of this name of control, skips and button_skips. Assumes nothing.
use Rattle.std.specs.Prelude.{ℕ, true, false, ◌||◌, nat_eq, Option, None, Some}
use Rattle.words.specs.Words.{bit, bits, pick}
use Rattle.addresses.specs.Addresses.{address_after, pointer_after, pointer_before, field_zero}
use Rattle.registers.specs.declared.Base.{Base}
use Rattle.registers.specs.declared.Motion.TheVariants.{Nothing}
use Rattle.registers.specs.With.{with_pen, with_hold, with_held}
use Rattle.control.specs.ControlWords.{parameter, mode, jump, push, pushed_first, pushed_second, pop}
use Rattle.skips.specs.ControlWords.{flag_skip, count, sync, skipping}
use Rattle.button_skips.specs.ControlWords.{button_skip, compare}
use Rattle.beam.specs.declared.Stop.{Stop}
use Rattle.beam.specs.declared.Stop.TheVariants.{Internal}
use Rattle.beam.specs.declared.Outcome.{Outcome}
use Rattle.touches.specs.declared.Act.{Act}
use Rattle.touches.specs.Touches.{Beat, fetch, act, whole}

-- pen hold ends if it is on: pen enable on, hold off
abbrev pub hold_ended : Base → Base
hold_ended b = with_hold (with_pen b (b.pen || b.hold)) false

-- a command beat, of a control word or a data word, first ends pen hold; the held word is used up (02, No. 4)
abbrev pub ready : Base → Base
ready b = with_held (hold_ended b) None

-- a control word that stores nothing: registers, no motion, no point
abbrev pub done : Base → Option Stop → Outcome
done b stop = record { registers = record { base = b; motion = Nothing }; lit = None; stop = stop }

abbrev pub acted : Base → Option Stop → Act
acted b stop = whole (done b stop)

-- a push jump writes at the pointer and pointer+1
unfoldable pub push_act : Base → ℕ → ℕ → Act
push_act b w v =
    record {
      registers = record { base = push b w v; motion = Nothing };
      stores =
          Some (record {
            at = field_zero b.pointer;
            word = pushed_first b;
            next = field_zero (pointer_after b.pointer 1);
            second = pushed_second b;
          });
      lit = None;
      stop = None;
    }

-- 2: its words are at the display address and the next; bit 8 pushes
abbrev pub jumped : Base → ℕ → ℕ → Beat
jumped b w v = act (pick (bit w 8) (push_act b w v) (acted (jump b w v) None))

unfoldable pub jump_beat : Base → ℕ → Beat
jump_beat b w = fetch (address_after b.address 1) (jumped b w)

-- 3: a pop fetches at pointer-2 and pointer-1
abbrev pub popped : Base → ℕ → ℕ → Beat
popped b w first = fetch (field_zero (pointer_before b.pointer 1)) (λ second. act (acted (pop b w first second) None))

unfoldable pub pop_beat : Base → ℕ → Beat
pop_beat b w = fetch (field_zero (pointer_before b.pointer 2)) (popped b w)

-- 60 to 63; the slave words 64 to 67 do nothing
unfoldable pub miscellaneous : Base → ℕ → Base
miscellaneous b w =
    let kind = bits w 3 5 in
    pick (nat_eq kind 0) (compare b w false)
    (pick (nat_eq kind 1) (compare b w true) (pick (nat_eq kind 2) (flag_skip b w) (pick (nat_eq kind 3) (count b w) (skipping b false))))

-- a control word by its operation code, bits 0 to 2
unfoldable pub control_beat : Base → ℕ → Beat
control_beat b w =
    let operation = bits w 0 2 in
    pick (nat_eq operation 0) (act (acted (parameter b w) None))
    (pick (nat_eq operation 1) (act (acted (mode b w) (pick (bit w 3) (Some Internal) None)))
    (pick (nat_eq operation 2) (jump_beat b w)
    (pick (nat_eq operation 3) (pop_beat b w)
    (pick (nat_eq operation 4) (act (acted (button_skip b w false) None))
    (pick (nat_eq operation 5) (act (acted (button_skip b w true) None))
    (pick (nat_eq operation 6) (act (acted (miscellaneous b w) None)) (act (acted (sync b w) None))))))))
