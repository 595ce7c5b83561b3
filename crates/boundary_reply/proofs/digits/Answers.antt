-- `boundary_reply::digits` meets its contract.
use mathlib.Core.Path.{sym, ◌∙◌}
use native.Mathlib.Omega.{arith}
use Rattle.protocol.specs.Decimal.{decimal}
use Rattle.protocol.proofs.Decimal.{decimal-length}
use Rattle.decimal.proofs.Fitted.{some-some}
use Rattle.request_message.proofs.Laws.{placed-read}
use Rattle.boundary_reply.proofs.digits.Goals as goal

-- at most ten, which fit
pub unwrap-requires : goal.unwrap-requires
unwrap-requires c =
    let m = c.args.mode.0 in
    let f = c.format_u32 in
    rw (placed-read _ (decimal m) f.new.out f.result f.ensures (decimal-length m (omega arith))).0

pub returns : goal.returns
returns c =
    let m = c.args.mode.0 in
    let f = c.format_u32 in
    let most = decimal-length m (omega arith) in
    let n = some-some (sym c.unwrap.ensures ∙ (placed-read _ (decimal m) f.new.out f.result f.ensures most).0) in
    (n, omega (arith, n, most))
