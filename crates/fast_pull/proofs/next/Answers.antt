-- `fast_pull::next` meets its contract.
use mathlib.Core.Path.{◌≡◌, sym, ◌∙◌}
use Prim.Native.Nat.{◌≤◌}
use native.Mathlib.Omega.{arith}
use lib.ListN.{length}
use Rattle.boundary.specs.Told.{out_size}
use Rattle.fast_replies.proofs.Taken.{not-tried}
use Rattle.fast_record.specs.Standing.{number_in, Stands}
use Rattle.fast_record.proofs.Laws.{idle-true}
use Rattle.fast_pull.specs.Chunks.{next_now}
use Rattle.fast_pull.proofs.Awaits.{next-tried}
use Rattle.fast_pull.proofs.next.Goals.{Then-is_idle}
use Rattle.fast_pull.proofs.next.Goals as goal

-- the call is let in
let_in : (c : Then-is_idle)
    → let a = c.args in
    (number_in a.rec.now 7 ≡ 0) × Stands a.rec.now (length a.rx.now) (length a.msg.now) × (out_size ≤ length a.out.now)
let_in c =
    let a = c.args in
    idle-true a.rec.now (length a.rx.now) (length a.msg.now) (length a.out.now) (sym c.is_idle.ensures ∙ c.if-is_idle.true)

pub await_header-requires : goal.await_header-requires
await_header-requires c = (let_in (goal.at.await_header-requires c).Then-is_idle).1.sized

pub returns-then-is_idle : goal.returns-then-is_idle
returns-then-is_idle c a b =
    let s = c.args in
    let (i, h, o) = let_in (goal.at.returns-then-is_idle c).Then-is_idle in
    next-tried s.rec.now s.rx.now s.msg.now s.lent.now s.out.now h o i s.call c.if-call-eq14.true a b _ _ _
    c.await_header.ensures

pub returns : goal.returns
returns c a b =
    let s = c.args in
    not-tried (next_now s.rec.now s.rx.now s.msg.now s.call s.out.now) _ _ (grind arith)
