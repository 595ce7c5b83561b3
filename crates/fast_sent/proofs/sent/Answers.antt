-- `fast_sent::sent` meets its contract.
use mathlib.Core.Path.{◌≡◌, sym, ap, ◌∙◌}
use Prim.Native.Nat.{ℕ, ◌+◌, ◌≤◌}
use native.Mathlib.Omega.{arith}
use lib.ListN.{length}
use Rattle.boundary.specs.Told.{out_size}
use Rattle.fast_replies.proofs.Taken.{not-tried}
use Rattle.fast_record.specs.Standing.{number_in, Stands}
use Rattle.fast_record.proofs.Laws.{fits-true}
use Rattle.fast_sent.specs.Asking.{header_done, sent_now}
use Rattle.fast_sent.proofs.Asks.{header-tried, sent_version, state-of}
use Rattle.fast_sent.proofs.sent.Goals.{Then-fits}
use Rattle.fast_sent.proofs.sent.Goals as goal

-- the report is let in
let_in : (c : Then-fits)
    → let a = c.args in
    Stands a.rec.now (length a.rx.now) (length a.msg.now) × (length a.lent.now ≡ number_in a.rec.now 4) × (out_size ≤ length a.out.now)
let_in c =
    let a = c.args in
    fits-true a.rec.now (length a.rx.now) (length a.msg.now) (length a.lent.now) (length a.out.now) (sym c.fits.ensures ∙ c.if-fits.true)

pub ask_header-requires : goal.ask_header-requires
ask_header-requires c = let h = (let_in (goal.at.ask_header-requires c).Then-fits).0 in (h.sized, h.order)

pub returns-then-fits : goal.returns-then-fits
returns-then-fits c =
    let s = c.args in
    let n = number_in s.rec.now 7 in
    let e = c.number-state.ensures in
    let (h, l, o) = let_in (goal.at.returns-then-fits c).Then-fits in
    header-tried s.rec.now s.rx.now s.msg.now s.lent.now s.out.now h o l (omega arith) (sent_version n)
    (state-of n (omega arith) (omega arith)) _ _ _
    (c.ask_header.ensures ∙ ap (λ (k : ℕ). header_done s.rec.now s.rx.now (k + 12) s.out.now) e)

pub returns : goal.returns
returns c =
    let s = c.args in
    not-tried (sent_now s.rec.now s.rx.now s.msg.now s.lent.now s.out.now) _ _ (grind arith)
