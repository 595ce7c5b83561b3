-- `fast_pull::header` meets its contract.
use mathlib.Core.Path.{◌≡◌, sym, ◌∙◌}
use Prim.Native.Nat.{◌≤◌}
use native.Mathlib.Omega.{arith}
use lib.ListN.{length}
use Rattle.boundary.specs.Told.{out_size}
use Rattle.fast_replies.proofs.Taken.{not-tried}
use Rattle.fast_record.specs.Standing.{number_in, Stands}
use Rattle.fast_record.proofs.Laws.{fits-true}
use Rattle.fast_pull.specs.Chunks.{header_now}
use Rattle.fast_pull.proofs.Headers.{header-tried}
use Rattle.fast_pull.proofs.header.Goals.{Then-fits}
use Rattle.fast_pull.proofs.header.Goals as goal

-- the report is let in
let_in : (c : Then-fits)
    → let a = c.args in
    Stands a.rec.now (length a.rx.now) (length a.msg.now) × (length a.lent.now ≡ number_in a.rec.now 4) × (out_size ≤ length a.out.now)
let_in c =
    let a = c.args in
    fits-true a.rec.now (length a.rx.now) (length a.msg.now) (length a.lent.now) (length a.out.now) (sym c.fits.ensures ∙ c.if-fits.true)

pub await_body-requires : goal.await_body-requires
await_body-requires c = let h = (let_in (goal.at.await_body-requires c).Then-fits).0 in (h.sized, h.order, omega (arith, h))

pub returns-then-fits : goal.returns-then-fits
returns-then-fits c =
    let s = c.args in
    let (h, l, o) = let_in (goal.at.returns-then-fits c).Then-fits in
    header-tried s.rec.now s.rx.now s.msg.now s.lent.now s.out.now h o l (omega arith) s.count _ _ _ c.await_body.ensures

pub returns : goal.returns
returns c =
    let s = c.args in
    not-tried (header_now s.rec.now s.rx.now s.msg.now s.lent.now s.count s.out.now) _ _ (grind arith)
