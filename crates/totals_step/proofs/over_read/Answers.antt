-- `totals_step::over_read` meets its contract.
use Rattle.std.proofs.Common.{sym, arith, length-take-le}
use Rattle.record.specs.Record.{size}
use Rattle.totals_step.proofs.over_read.Goals as goal

pub slice_bounds-takes_read-end : goal.slice_bounds-takes_read-end
slice_bounds-takes_read-end c = sym (length-take-le size c.args.rec.now (omega arith))
