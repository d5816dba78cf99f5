-- `paper::moved` meets its promise: what is made of the low bits is the move (wrapped_moved), and the upper ones stand above them. Assumes nothing.
use Rattle.std.proofs.Common.{◌^◌, sym, arith, pow_pos}
use Rattle.paper.specs.DataWords.{dimension}
use Rattle.paper.proofs.Moves.{upper, kept, wrapped_small, wrapped_moved}
use Rattle.paper.proofs.moved.Goals as goal

pub overflow_add-result : goal.overflow_add-result
overflow_add-result c = let d = dimension c.args.field in
    record {
      fits = rw (c.wrapped-end.ensures, c.places-size.ensures) (kept 16 d c.args.coordinate _ (omega arith)
          c.ranges.coordinate.fits (wrapped_small (2 ^ d) _ _ _ (pow_pos d)));
    }

pub returns : goal.returns
returns c = let a = c.args in
    rw (c.wrapped-end.ensures, c.places-size.ensures, upper (dimension a.field) a.coordinate) (sym (wrapped_moved a.field a.coordinate a.travel (omega arith) a.minus))
