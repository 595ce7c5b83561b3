-- `session_messages::carried` meets its contract.
use Prim.Native.Nat.{◌≤◌, min}
use mathlib.Core.Path.{◌≡◌, sym, ◌∙◌}
use lib.ListN.{length}
use native.Mathlib.Omega.{arith}
use Rattle.session_messages.proofs.Laws.{carried-part, carried-all}
use Rattle.session_messages.proofs.carried.Goals as goal

pub returns-then-not-is_data : goal.returns-then-not-is_data
returns-then-not-is_data c = carried-all c.args.q c.args.from c.args.lent.now (sym c.is_data.ensures ∙ c.if-not-is_data.true)

pub returns : goal.returns
returns c =
    carried-part c.args.q c.args.from c.args.lent.now c.min.result c.min-2.result (sym c.is_data.ensures ∙ c.if-not-is_data.false) c.min.ensures c.min-2.ensures
