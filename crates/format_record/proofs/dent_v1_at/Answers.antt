-- `format_record::dent_v1_at` meets its contract.
use mathlib.Core.Path.{sym, ◌∙◌}
use native.Mathlib.Omega.{arith}
use lib.Dec.{lit≤}
use Rattle.protocol.specs.Records.{stat_at, dent_at}
use Rattle.protocol.proofs.Bytes.{whole_in}
use Rattle.protocol.proofs.Records.{u32_field}
use Rattle.format_record.specs.Told.{zero_stat, zero_dent}
use Rattle.format_record.proofs.dent_v1_at.Goals as goal

pub returns : goal.returns
unfolding dent_at
returns c =
    let a = c.args in
    let r = c.in-Some.r.now in
    let e = c.in-Some.ensures in
    rw (
      c.stat_v1_at.ensures ∙ whole_in 16 zero_stat stat_at r 0 (omega arith),
      c.u32_at.ensures ∙ u32_field 20 r 0 e.1 16 (lit≤ tt),
      e.2,
    )
    (sym (whole_in 20 zero_dent dent_at a.s.now a.off e.0))
