-- `calendar_date::date_of` meets its contract.
use mathlib.Core.Path.{ap, ◌∙◌}
use native.Mathlib.Omega.{arith}
use Rattle.protocol.specs.Bytes.{put}
use Rattle.calendar.specs.Calendar.{date}
use Rattle.calendar_date.proofs.Laws.{cross_short, cross_long, five-words}
use Rattle.calendar_date.proofs.date_of.Goals as goal

pub returns-then-out-lt-REPLY : goal.returns-then-out-lt-REPLY
returns-then-out-lt-REPLY c = let a = c.args in cross_short a.moment a.out.now (omega arith)

pub returns : goal.returns
returns c =
    let a = c.args in
    let d = c.month_of-d.result in
    cross_long a.moment a.out.now (date d.year d.month d.day) (omega arith) (c.month_of-d.ensures ∙ c.year_of-y.ensures.0) (c.put_u64s.ensures ∙ ap (put a.out.now 0) (five-words d.year d.month d.day _ _))
