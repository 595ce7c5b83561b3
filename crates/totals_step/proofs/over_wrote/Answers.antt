-- `totals_step::over_wrote` meets its contract.
use Rattle.std.proofs.Common.{sym, arith, length-take-le}
use Rattle.record.specs.Record.{size}
use Rattle.totals_step.proofs.over_wrote.Goals as goal

pub slice_bounds-takes_wrote-end : goal.slice_bounds-takes_wrote-end
slice_bounds-takes_wrote-end c = sym (length-take-le size c.args.rec.now (omega arith))
