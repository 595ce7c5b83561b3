-- `request_message::compose_send` meets its contract: the digits that were formatted are the mode's.
use mathlib.Core.Path.{◌≡◌, sym, ap, ◌∙◌}
use Prim.Native.Nat.{◌≤◌}
use native.Mathlib.Omega.{arith}
use lib.ListN.{length, take}
use Rattle.protocol.specs.Decimal.{decimal}
use Rattle.protocol.proofs.Decimal.{decimal-length}
use Rattle.decimal.proofs.Fitted.{some-none, some-some}
use Rattle.request_message.specs.Composed.{placed}
use Rattle.request_message.proofs.Laws.{placed-read, send-bytes}
use Rattle.request_message.proofs.compose_send.Goals.{In_ok-n}
use Rattle.request_message.proofs.compose_send.Goals as goal

-- what was formatted: at most ten digits, and they are the mode's
formatted : (c : In_ok-n)
    → (c.in_ok-n.n ≤ 10)
    × ((c.in_ok-n.n ≡ length (take c.in_ok-n.n c.format_u32.new.out))
    × (take c.in_ok-n.n c.format_u32.new.out ≡ decimal c.args.mode.0))
formatted c =
    let m = c.args.mode.0 in
    let f = c.format_u32 in
    let most = decimal-length m (omega arith) in
    let r = placed-read _ (decimal m) f.new.out f.result f.ensures most in
    let n = some-some (sym c.in_ok-n.was ∙ r.0) in
    let d : take c.in_ok-n.n f.new.out ≡ decimal m = rw n r.1 in
    (omega (arith, n, most), (n ∙ ap length (sym d), d))

-- ten bytes are room for them
pub returns-in_err-n : goal.returns-in_err-n
returns-in_err-n c =
    let m = c.args.mode.0 in
    let f = c.format_u32 in
    absurd (some-none (sym (placed-read _ (decimal m) f.new.out f.result f.ensures (decimal-length m (omega arith))).0 ∙ c.in_err-n.was))

pub slice_bounds-digits-end : goal.slice_bounds-digits-end
slice_bounds-digits-end c = omega (arith, (formatted (goal.at.slice_bounds-digits-end c).In_ok-n).0, c.format_u32.auto.out)

pub slice_bounds-compose_digits-end : goal.slice_bounds-compose_digits-end
slice_bounds-compose_digits-end c = (formatted (goal.at.slice_bounds-compose_digits-end c).In_ok-n).1.0

pub compose_digits-requires : goal.compose_digits-requires
compose_digits-requires c = let d = formatted (goal.at.compose_digits-requires c).In_ok-n in omega (arith, d.0, d.1.0)

pub returns : goal.returns
returns c =
    let a = c.args in
    c.compose_digits.ensures
    ∙ ap (placed a.out.now 0) (send-bytes a.id a.path.now a.mode.0 _ (formatted (goal.at.returns c).In_ok-n).1.1)
