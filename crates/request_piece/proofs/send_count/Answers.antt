-- `request_piece::send_count` meets its contract.
use mathlib.Core.Path.{◌≡◌, sym, ap, ◌∙◌}
use Prim.Native.Nat.{◌≤◌, ◌+◌}
use native.Mathlib.Omega.{arith}
use lib.ListN.{length}
use Rattle.decimal.proofs.Fitted.{some-some}
use Rattle.protocol.specs.Decimal.{decimal}
use Rattle.protocol.proofs.Decimal.{decimal-length}
use Rattle.request_message.proofs.Laws.{placed-read}
use Rattle.request_piece.specs.Pieces.{low32}
use Rattle.request_piece.proofs.send_count.Goals.{After-unwrap-n}
use Rattle.request_piece.proofs.send_count.Goals as goal

-- as many digits as the mode has, at most ten
formatted : (c : After-unwrap-n) → (c.unwrap-n.result ≤ 10) × (c.unwrap-n.result ≡ length (decimal c.args.mode.0))
formatted c =
    let m = c.args.mode.0 in
    let f = c.format_u32 in
    let most = decimal-length m (omega arith) in
    let n = some-some (sym c.unwrap-n.ensures ∙ (placed-read _ (decimal m) f.new.out f.result f.ensures most).0) in
    (omega (arith, most, n), n)

-- ten bytes are room for them
pub unwrap-n-requires : goal.unwrap-n-requires
unwrap-n-requires c =
    let m = c.args.mode.0 in
    let f = c.format_u32 in
    rw (placed-read _ (decimal m) f.new.out f.result f.ensures (decimal-length m (omega arith))).0

pub overflow_add-rest : goal.overflow_add-rest
overflow_add-rest c = omega (arith, (formatted (goal.at.overflow_add-rest c).After-unwrap-n).0)

pub overflow_add-path : goal.overflow_add-path
overflow_add-path c = omega (arith, (formatted (goal.at.overflow_add-path c).After-unwrap-n).0)

pub returns : goal.returns
returns c =
    c.low.ensures ∙ ap (λ n. low32 (length c.args.path.now + (1 + n))) (formatted (goal.at.returns c).After-unwrap-n).1
