-- `fast_replies::entry` meets its contract.
use mathlib.Core.Path.{◌≡◌, sym, ap, ◌∙◌}
use Prim.Native.Nat.{◌≤◌}
use native.Mathlib.Omega.{arith}
use lib.ListN.{length}
use Rattle.boundary.specs.Told.{out_size}
use Rattle.session.specs.declared.Version.{Version}
use Rattle.fast_record.specs.Standing.{number_in, Stands}
use Rattle.fast_record.proofs.Laws.{idle-true}
use Rattle.fast_replies.specs.Direct.{entry_done, entry_now}
use Rattle.fast_replies.proofs.Listing.{entry-tried}
use Rattle.fast_replies.proofs.Taken.{not-tried}
use Rattle.fast_replies.proofs.entry.Goals.{Then-is_idle}
use Rattle.fast_replies.proofs.entry.Goals as goal

-- the call is let in
let_in : (c : Then-is_idle)
    → let a = c.args in
    (number_in a.rec.now 7 ≡ 0) × Stands a.rec.now (length a.rx.now) (length a.msg.now) × (out_size ≤ length a.out.now)
let_in c =
    let a = c.args in
    idle-true a.rec.now (length a.rx.now) (length a.msg.now) (length a.out.now) (sym c.is_idle.ensures ∙ c.if-is_idle.true)

pub entry_at-requires : goal.entry_at-requires
entry_at-requires c = let h = (let_in (goal.at.entry_at-requires c).Then-is_idle).1 in (h.sized, h.order, omega (arith, h))

pub returns-then-is_idle : goal.returns-then-is_idle
returns-then-is_idle c a b =
    let s = c.args in
    let (i, h, o) = let_in (goal.at.returns-then-is_idle c).Then-is_idle in
    entry-tried s.rec.now s.rx.now s.msg.now s.lent.now s.out.now h o i s.call a b c.if-call-ge12.true c.if-call-le13.true _ _ _
    (c.entry_at.ensures
    ∙ ap (λ (v : Version). entry_done s.rec.now s.rx.now (length s.lent.now) v s.out.now) c.version.ensures)

pub returns : goal.returns
returns c a b =
    let s = c.args in
    not-tried (entry_now s.rec.now s.rx.now s.msg.now s.call s.out.now) _ _ (grind arith)
