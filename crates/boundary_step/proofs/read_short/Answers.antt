-- `boundary_step::read_short` meets its contract.
use mathlib.Core.Path.{◌≡◌, sym, ◌∙◌}
use Prim.Native.Nat.{◌<◌}
use native.Mathlib.Omega.{arith}
use lib.ListN.{length}
use Rattle.record.specs.Record.{loaded}
use Rattle.fast_record.proofs.Found.{none-found, some_found}
use Rattle.fast_read.specs.Short.{short_in}
use Rattle.boundary_step.proofs.Reading.{short-room, read_short, read-away}
use Rattle.boundary_step.proofs.read_short.Goals.{In-Some}
use Rattle.boundary_step.proofs.read_short.Goals as goal

-- where tail comes to
tail-is : (c : In-Some)
    → let a = c.args in
    short_in (loaded a.rec.now) (length a.rx.now) (length a.msg.now) (length a.lent.now) a.count ≡ c.in-Some.tail × 0 < c.in-Some.tail
tail-is c = some_found _ c.short_tail.ensures c.in-Some.is

pub read_met-requires : goal.read_met-requires
read_met-requires c = sym (none-found _ c.short_tail.ensures c.in_default.is)

pub returns-in_default : goal.returns-in_default
returns-in_default c = c.read_met.ensures

pub returns-then-out-lt-REPLY : goal.returns-then-out-lt-REPLY
returns-then-out-lt-REPLY c = let a = c.args in c.slow_read.ensures ∙ read-away a.rec.now a.rx.now a.msg.now a.lent.now a.out.now a.count c.if-out-lt-REPLY.true

pub overflow_sub-len : goal.overflow_sub-len
overflow_sub-len c =
    let a = c.args in
    let t = tail-is (goal.at.overflow_sub-len c).In-Some in
    short-room a.rec.now a.rx.now a.msg.now a.lent.now a.out.now a.count _ (sym t.0) t.1

pub returns : goal.returns
returns c =
    let a = c.args in
    let t = tail-is (goal.at.returns c).In-Some in
    read_short a.rec.now a.rx.now a.msg.now a.lent.now a.out.now a.count _ (sym t.0) c.if-out-lt-REPLY.false t.1 _ _ c.store_tail.ensures c.put_u64s.ensures
