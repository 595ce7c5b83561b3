-- `fast_pull::body` meets its contract.
use mathlib.Core.Path.{◌≡◌, sym, ◌∙◌}
use Prim.Native.Nat.{◌≤◌}
use native.Mathlib.Omega.{arith}
use lib.ListN.{length}
use Rattle.boundary.specs.Told.{out_size}
use Rattle.fast_replies.proofs.Taken.{not-tried}
use Rattle.fast_record.specs.Standing.{number_in, Stands}
use Rattle.fast_record.proofs.Laws.{fits-true}
use Rattle.fast_pull.specs.Chunks.{body_now}
use Rattle.fast_pull.proofs.Bodies.{body_tried}
use Rattle.fast_pull.proofs.body.Goals.{Then-fits}
use Rattle.fast_pull.proofs.body.Goals as goal

-- the report is let in
let_in : (c : Then-fits)
    → let a = c.args in
    Stands a.rec.now (length a.rx.now) (length a.msg.now) × (length a.lent.now ≡ number_in a.rec.now 4) × (out_size ≤ length a.out.now)
let_in c =
    let a = c.args in
    fits-true a.rec.now (length a.rx.now) (length a.msg.now) (length a.lent.now) (length a.out.now) (sym c.fits.ensures ∙ c.if-fits.true)

pub tell_chunk-requires : goal.tell_chunk-requires
tell_chunk-requires c = let h = (let_in (goal.at.tell_chunk-requires c).Then-fits).0 in (h.sized, h.order, omega (arith, h))

pub returns-then-fits : goal.returns-then-fits
returns-then-fits c =
    let s = c.args in
    let (h, l, o) = let_in (goal.at.returns-then-fits c).Then-fits in
    body_tried s.rec.now s.rx.now s.msg.now s.lent.now s.out.now h o l (omega arith) s.count _ _ _ c.tell_chunk.ensures

pub returns : goal.returns
returns c =
    let s = c.args in
    not-tried (body_now s.rec.now s.rx.now s.msg.now s.lent.now s.count s.out.now) _ _ (grind arith)
