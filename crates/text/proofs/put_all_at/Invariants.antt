-- What the loop of `text::put_all_at` keeps: the rest of the bytes, put behind what was put, is all of them put. Assumes nothing.
use Rattle.std.proofs.Common.{◌≡◌, drop}
use Rattle.text.specs.Text.{filled, puts}
use Rattle.text.proofs.put_all_at.Given as goal

abbrev pub invariant-loop-byte : goal.invariant-loop-byte
invariant-loop-byte l = puts (drop l.byte-index l.bytes) (filled l.at l.list) ≡ puts l.bytes (filled l.fn.place l.fn.list)
