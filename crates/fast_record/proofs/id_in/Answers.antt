-- `fast_record::id_in` meets its contract.
use mathlib.Core.Path.{ap, ◌∙◌}
use Prim.Native.Nat.{ℕ, ◌%◌}
use borrow.Author.Tests.{eq-eqb, ne_eqb}
use lib.Dec.{eqb}
use Rattle.protocol.specs.Bytes.{pick, whole}
use Rattle.protocol.specs.Records.{u32_at}
use Rattle.format_id.specs.Ids.{id_of}
use Rattle.fast_record.proofs.Laws.{id-at, id_other}
use Rattle.fast_record.proofs.id_in.Goals as goal

pub returns-then-rec-eq-SIZE : goal.returns-then-rec-eq-SIZE
returns-then-rec-eq-SIZE c =
    let a = c.args in
    let rec = a.rec.now in
    c.u32_at.ensures
    ∙ ap (λ (k : ℕ). whole 4 0 (u32_at 0) rec k) c.place-at.ensures
    ∙ id-at rec c.if-rec-eq-SIZE.true (λ k. (c.type_inv.rec k).fits) (id_of a.id)

-- a record of another length
pub returns-then-at-eq0 : goal.returns-then-at-eq0
returns-then-at-eq0 c =
    let a = c.args in
    let p = c.place-at in
    rw (eq-eqb (p.result % 8) 0 c.if-at-eq0.true) at
    (ap (λ (k : ℕ). pick (eqb (k % 8) 0) 31 0) p.ensures ∙ id_other a.rec.now c.if-rec-eq-SIZE.false (id_of a.id))

pub returns : goal.returns
returns c =
    let a = c.args in
    let p = c.place-at in
    rw (ne_eqb (p.result % 8) 0 c.if-at-eq0.false) at
    (ap (λ (k : ℕ). pick (eqb (k % 8) 0) 31 0) p.ensures ∙ id_other a.rec.now c.if-rec-eq-SIZE.false (id_of a.id))
