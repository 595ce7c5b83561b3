-- `format_record::header_at` meets its contract.
use mathlib.Core.Path.{sym, ◌∙◌}
use native.Mathlib.Omega.{arith}
use lib.Dec.{lit≤}
use Rattle.protocol.proofs.Bytes.{whole_in}
use Rattle.protocol.proofs.Records.{id-in, u32_field}
use Rattle.format_record.specs.Told.{header_at, zero_header}
use Rattle.format_record.proofs.header_at.Goals as goal

pub returns : goal.returns
returns c =
    let a = c.args in
    let r = c.in-Some.r.now in
    let e = c.in-Some.ensures in
    rw (c.u32_at.ensures ∙ u32_field 8 r 0 e.1 4 (lit≤ tt), ← (id-in r 0 (omega arith)), e.2)
    (sym (whole_in 8 zero_header header_at a.s.now a.off e.0))
