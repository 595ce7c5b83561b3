-- `fast_request::request` meets its contract.
use mathlib.Core.Path.{◌≡◌, sym, ap, ◌∙◌}
use Prim.Native.Nat.{ℕ, ◌≤◌}
use native.Mathlib.Omega.{arith}
use lib.ListN.{length}
use Rattle.boundary.specs.Told.{out_size}
use Rattle.fast_replies.proofs.Taken.{not-tried}
use Rattle.fast_record.specs.Standing.{number_in, Stands}
use Rattle.fast_record.proofs.Laws.{idle-true}
use Rattle.fast_request.specs.Starting.{offered, ask_now}
use Rattle.fast_request.proofs.Starts.{ask-tried}
use Rattle.fast_request.proofs.request.Goals.{Then-is_idle}
use Rattle.fast_request.proofs.request.Goals as goal

-- the call is let in
let_in : (c : Then-is_idle)
    → let a = c.args in
    (number_in a.rec.now 7 ≡ 0) × Stands a.rec.now (length a.rx.now) (length a.msg.now) × (out_size ≤ length a.out.now)
let_in c =
    let a = c.args in
    idle-true a.rec.now (length a.rx.now) (length a.msg.now) (length a.out.now) (sym c.is_idle.ensures ∙ c.if-is_idle.true)

pub write-requires : goal.write-requires
write-requires c = let h = (let_in (goal.at.write-requires c).Then-is_idle).1 in (h.sized, h.order, omega (arith, h))

pub returns-then-is_path : goal.returns-then-is_path
returns-then-is_path c a b =
    let s = c.args in
    let (i, h, o) = let_in (goal.at.returns-then-is_path c).Then-is_idle in
    ask-tried s.rec.now s.rx.now s.msg.now s.lent.now s.out.now h o i
    (sym c.is_path.ensures ∙ c.if-is_path.true) s.call a b (omega arith) (omega arith)
    (ap (λ (j : ℕ). offered j s.call) (sym c.number.ensures) ∙ sym c.is_offered.ensures ∙ c.if-is_offered.true) _ _ _ _
    c.write.ensures

pub returns : goal.returns
returns c a b =
    let s = c.args in
    not-tried (ask_now s.rec.now s.rx.now s.msg.now s.lent.now s.call s.out.now) _ _ (grind arith)
