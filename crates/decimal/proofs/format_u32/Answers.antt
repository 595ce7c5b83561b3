-- `decimal::format_u32` meets its contract.
use Prim.Native.Nat.{◌+◌, ◌<◌, ◌≤◌}
use native.Mathlib.Omega.{arith}
use lib.ListN.{length}
use Rattle.protocol.specs.Decimal.{decimal}
use Rattle.protocol.proofs.Bytes.{put_in, put-out}
use Rattle.decimal.proofs.Fitted.{fitted-in, fitted-out}
use Rattle.decimal.proofs.format_u32.Goals as goal

pub returns-then-out-count : goal.returns-then-out-count
returns-then-out-count c =
    let a = c.args in
    let short : length a.out.now < 0 + length (decimal a.n) = omega arith in
    rw (put-out _ 0 _ short, fitted-out _ 0 _ short)

pub returns : goal.returns
returns c =
    let a = c.args in
    let fits : 0 + length (decimal a.n) ≤ length a.out.now = omega arith in
    cc (put_in _ 0 _ fits, fitted-in _ 0 _ fits)
