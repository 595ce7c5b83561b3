-- `record_store::store` meets its contract.
use Rattle.record_store.proofs.Puts.{session-put}
use borrow.Author.Tests.{eq-eqb, ne_eqb}
use Rattle.record_store.proofs.store.Goals as goal

pub returns-then-rec-eq-SIZE : goal.returns-then-rec-eq-SIZE
returns-then-rec-eq-SIZE c =
    let a = c.args in
    simp (eq-eqb _ _ c.if-rec-eq-SIZE.true)
    (session-put a.rec.now a.s c.if-rec-eq-SIZE.true c.put_own.ensures c.put_pending.ensures c.put_ids.ensures)

pub returns-else-rec-eq-SIZE : goal.returns-else-rec-eq-SIZE
returns-else-rec-eq-SIZE c = simp (ne_eqb _ _ c.if-rec-eq-SIZE.false)
