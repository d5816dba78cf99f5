-- What a command line asks of a run: which words are lent, where the display starts, how far it may go, and what is shown. Assumes nothing.
use Rattle.std.specs.Prelude.{ℕ, ◌%◌, Bool, true, false, List, Option, Some, None, option_map, bytes_eq}
use Prim.Native.String.{String}
use Rattle.words.specs.Words.{pick}
use Rattle.text.specs.Text.{bytes}
use Rattle.numerals.specs.declared.Bounds.{Bounds}
use Rattle.numerals.specs.Numerals.{limited, range}
use Rattle.arguments.specs.declared.Awaited.{Awaited}
use Rattle.arguments.specs.declared.Awaited.TheVariants.{FileRange, ListRange, Start, Pointer, Budget, Room}
use Rattle.arguments.specs.declared.Shown.{Shown}
use Rattle.arguments.specs.declared.Asked.{Asked}

-- nothing asked for: the lesson's own words may be fetched and none written, the display starts at the lesson's first word with an empty pushdown list at
-- 0, for at most 65,535 beats and 1,024 points
abbrev pub nothing : Asked
nothing =
    record {
      file = None;
      list = record { low = 0; high = 0 };
      address = None;
      pointer = 0;
      budget = 65535;
      room = 1024;
      shown = record { registers = false; changed = false; trace = false; hint = false };
      awaited = None;
    }

-- WHAT ONE ARGUMENT CHANGES. What was waited for is there then

abbrev pub with_shown : Asked → Shown → Asked
with_shown a s = record a { shown = s; awaited = None }

-- VALUES

abbrev pub file_lent : Asked → Bounds → Asked
file_lent a b = record a { file = Some b; awaited = None }

abbrev pub list_lent : Asked → Bounds → Asked
list_lent a b = record a { list = b; awaited = None }

abbrev pub starts_at : Asked → ℕ → Asked
starts_at a n = record a { address = Some (n % 65536); awaited = None }

abbrev pub points_at : Asked → ℕ → Asked
points_at a n = record a { pointer = n % 65536; awaited = None }

abbrev pub beats_at_most : Asked → ℕ → Asked
beats_at_most a n = record a { budget = n; awaited = None }

abbrev pub points_at_most : Asked → ℕ → Asked
points_at_most a n = record a { room = n; awaited = None }

-- NAMES

abbrev pub is : String → List ℕ → Bool
is name s = bytes_eq s (bytes name)

-- the options whose value is the next argument
unfoldable pub awaited : List ℕ → Option Awaited
awaited s =
    pick (is "--file" s) (Some FileRange)
    (pick (is "--list" s) (Some ListRange)
    (pick (is "--start" s) (Some Start)
    (pick (is "--pointer" s) (Some Pointer)
    (pick (is "--budget" s) (Some Budget)
    (pick (is "--room" s) (Some Room) None)))))

-- an option that there is not is a fault, with nothing to wait for
abbrev pub waiting : Asked → Option Awaited → Option Asked
waiting a w = option_map (λ v. record a { awaited = Some v }) w

-- all of memory
abbrev pub all_lent : Asked → Asked
all_lent a = record a { file = Some (record { low = 0; high = 32768 }); list = record { low = 0; high = 32768 }; awaited = None }

-- the options that have none
unfoldable pub named : Asked → List ℕ → Option Asked
named a s =
    let h = a.shown in
    pick (is "--all" s) (Some (all_lent a))
    (pick (is "--registers" s) (Some (with_shown a (record h { registers = true })))
    (pick (is "--changed" s) (Some (with_shown a (record h { changed = true })))
    (pick (is "--trace" s) (Some (with_shown a (record h { trace = true })))
    (pick (is "--hint" s) (Some (with_shown a (record h { hint = true })))
    (waiting a (awaited s))))))

-- one argument more: an address is octal and lies in the memory, the pushdown pointer in its first 4,096 words; 01's largest budget is 65,535
unfoldable pub taken_by : Option Awaited → Asked → List ℕ → Option Asked
taken_by None a s = named a s
taken_by (Some FileRange) a s = option_map (file_lent a) (range s)
taken_by (Some ListRange) a s = option_map (list_lent a) (range s)
taken_by (Some Start) a s = option_map (starts_at a) (limited 8 32767 s)
taken_by (Some Pointer) a s = option_map (points_at a) (limited 8 4095 s)
taken_by (Some Budget) a s = option_map (beats_at_most a) (limited 10 65535 s)
taken_by (Some Room) a s = option_map (points_at_most a) (limited 10 65536 s)

-- none where the argument cannot be taken: what waits for it says which
abbrev pub taken : Asked → List ℕ → Option Asked
taken a s = taken_by a.awaited a s
