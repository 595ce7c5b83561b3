-- `request_reader::read_send` meets its contract.
use Prim.Native.Nat.{◌+◌, ◌-◌}
use mathlib.Core.Path.{◌≡◌, sym}
use native.Mathlib.Omega.{arith}
use borrow.Author.Tests.{le-leb, lt-leb}
use Rattle.protocol.specs.Requests.{path_mode, arg_ok, following}
use Rattle.request_reader.proofs.Steps.{on-refused, on-more, on-text}
use Rattle.request_reader.proofs.read_send.Goals as goal

pub returns-then-n-gt-MAX_SEND : goal.returns-then-n-gt-MAX_SEND
unfolding arg_ok
returns-then-n-gt-MAX_SEND c = sym (on-refused path_mode _ _ (lt-leb _ _ c.if-n-gt-MAX_SEND.true))

pub returns-then-s-size : goal.returns-then-s-size
unfolding arg_ok following
returns-then-s-size c = sym (on-more path_mode _ _ (le-leb _ _ c.if-n-gt-MAX_SEND.false) c.if-s-size.true)

pub returns : goal.returns
unfolding arg_ok
returns c =
    let n = c.args.n in
    let text : 8 + n - 8 ≡ n = omega arith in
    rw (on-text _ _ (le-leb _ _ c.if-n-gt-MAX_SEND.false) c.if-s-size.false) (rw text at c.read_text.ensures)
