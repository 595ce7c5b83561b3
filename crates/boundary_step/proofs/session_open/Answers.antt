-- `boundary_step::session_open` meets its contract.
use mathlib.Core.Path.{ap, ◌∙◌}
use Prim.Native.Nat.{ℕ}
use native.Mathlib.Omega.{arith}
use Rattle.id_table.specs.Refusal.{lent_of}
use Rattle.boundary_step.specs.Opened.{open_crossed}
use Rattle.boundary_step.proofs.Opening.{open_refused_lem, open_other, open_none, open_in}
use Rattle.session.proofs.Refused.{some-number}
use Rattle.boundary_step.proofs.session_open.Goals as goal

pub returns-in-Err : goal.returns-in-Err
returns-in-Err c =
    let a = c.args in
    open_refused_lem a.rec.now a.settings.now a.banner.now a.rx a.msg _ (c.number.ensures ∙ c.in-Err.ensures) (omega (arith, some-number c.in-Err.misuse, c.number.ensures))

pub returns-then-rec-ne-SIZE : goal.returns-then-rec-ne-SIZE
returns-then-rec-ne-SIZE c =
    let a = c.args in
    open_other a.rec.now a.settings.now a.banner.now a.rx a.msg _ c.in_default.ensures (omega arith) c.if-rec-ne-SIZE.true

pub returns-in-Err-table_in : goal.returns-in-Err-table_in
returns-in-Err-table_in c =
    let a = c.args in
    ap (λ (n : ℕ). open_crossed a.rec.now n) c.number-in-Err-table_in.ensures
    ∙ open_none a.rec.now a.settings.now a.banner.now a.rx a.msg _ c.in_default.ensures (omega arith) c.if-rec-ne-SIZE.false
    _ c.table_in.ensures _ (ap lent_of c.in-Err-table_in.is)

pub returns-in-Ok : goal.returns-in-Ok
returns-in-Ok c =
    let a = c.args in
    open_in a.rec.now a.settings.now a.banner.now a.rx a.msg _ c.in_default.ensures (omega arith) c.if-rec-ne-SIZE.false
    _ c.table_in.ensures _ (ap lent_of c.in-Ok.is) _ c.fresh-s.ensures _ c.store.ensures
