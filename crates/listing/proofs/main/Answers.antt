-- `listing::main` is safe: the output lies in its buffer.
use mathlib.Core.Path.{sym}
use lib.Seq.{length-take-le}
use Rattle.listing.proofs.main.Goals as goal

pub slice_bounds-write_all-end : goal.slice_bounds-write_all-end
slice_bounds-write_all-end c = let l = c.list-count in sym (length-take-le l.result _ l.ensures.1)
