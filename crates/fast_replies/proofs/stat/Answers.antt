-- `fast_replies::stat` meets its contract.
use mathlib.Core.Path.{◌≡◌, sym, ap, ◌∙◌}
use Prim.Native.Nat.{◌≤◌}
use native.Mathlib.Omega.{arith}
use lib.ListN.{length}
use Rattle.boundary.specs.Told.{out_size}
use Rattle.fast_record.specs.Standing.{number_in, Stands}
use Rattle.fast_record.proofs.Laws.{fits-true}
use Rattle.session.specs.declared.Version.{Version}
use Rattle.fast_replies.specs.Direct.{stat_done, stat_version, stat_now}
use Rattle.fast_replies.proofs.Replies.{stat-tried, state-of}
use Rattle.fast_replies.proofs.Taken.{not-tried}
use Rattle.fast_replies.proofs.stat.Goals.{Then-fits}
use Rattle.fast_replies.proofs.stat.Goals as goal

-- the report is let in
let_in : (c : Then-fits)
    → let a = c.args in
    Stands a.rec.now (length a.rx.now) (length a.msg.now) × (length a.lent.now ≡ number_in a.rec.now 4) × (out_size ≤ length a.out.now)
let_in c =
    let a = c.args in
    fits-true a.rec.now (length a.rx.now) (length a.msg.now) (length a.lent.now) (length a.out.now) (sym c.fits.ensures ∙ c.if-fits.true)

pub stat_at-requires : goal.stat_at-requires
stat_at-requires c = let h = (let_in (goal.at.stat_at-requires c).Then-fits).0 in (h.sized, h.order, omega (arith, h))

pub returns-then-fits : goal.returns-then-fits
returns-then-fits c =
    let s = c.args in
    let n = number_in s.rec.now 7 in
    let e = c.number-state.ensures in
    let (h, l, o) = let_in (goal.at.returns-then-fits c).Then-fits in
    stat-tried s.rec.now s.rx.now s.msg.now s.lent.now s.out.now h o l (stat_version n)
    (state-of n (omega arith) (omega arith)) s.count _ _ _
    (c.stat_at.ensures ∙ ap (λ (v : Version). stat_done s.rec.now s.rx.now s.count v s.out.now) (c.stat_version.ensures ∙ ap stat_version e))

pub returns : goal.returns
returns c =
    let s = c.args in
    not-tried (stat_now s.rec.now s.rx.now s.msg.now s.lent.now s.count s.out.now) _ _ (grind arith)
