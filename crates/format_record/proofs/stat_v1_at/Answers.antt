-- `format_record::stat_v1_at` meets its contract.
use mathlib.Core.Path.{sym, ◌∙◌}
use lib.Dec.{lit≤}
use Rattle.protocol.specs.Records.{stat_at}
use Rattle.protocol.proofs.Bytes.{whole_in}
use Rattle.protocol.proofs.Records.{u32_field}
use Rattle.format_record.specs.Told.{zero_stat}
use Rattle.format_record.proofs.stat_v1_at.Goals as goal

pub returns : goal.returns
unfolding stat_at
returns c =
    let a = c.args in
    let e = c.in-Some.ensures in
    let at = u32_field 16 c.in-Some.r.now 0 e.1 in
    rw (
      c.u32_at.ensures ∙ at 4 (lit≤ tt),
      c.u32_at-2.ensures ∙ at 8 (lit≤ tt),
      c.u32_at-3.ensures ∙ at 12 (lit≤ tt),
      e.2,
    )
    (sym (whole_in 16 zero_stat stat_at a.s.now a.off e.0))
