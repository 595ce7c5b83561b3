-- `format_record::dent_v2_at` meets its contract.
use mathlib.Core.Path.{sym, ◌∙◌}
use native.Mathlib.Omega.{arith}
use lib.Dec.{lit≤}
use Rattle.protocol.specs.Records.{stat2_at, dent2_at}
use Rattle.protocol.proofs.Bytes.{whole_in}
use Rattle.protocol.proofs.Records.{u32_field}
use Rattle.format_record.specs.Told.{zero_stat2, zero_dent2}
use Rattle.format_record.proofs.dent_v2_at.Goals as goal

pub returns : goal.returns
unfolding dent2_at
returns c =
    let a = c.args in
    let r = c.in-Some.r.now in
    let e = c.in-Some.ensures in
    rw (
      c.stat_v2_at.ensures ∙ whole_in 72 zero_stat2 stat2_at r 0 (omega arith),
      c.u32_at.ensures ∙ u32_field 76 r 0 e.1 72 (lit≤ tt),
      e.2,
    )
    (sym (whole_in 76 zero_dent2 dent2_at a.s.now a.off e.0))
