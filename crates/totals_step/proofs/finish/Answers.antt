-- `totals_step::finish` meets its contract.
use Rattle.std.proofs.Common.{ℕ, List, ap, ◌∙◌, arith, eq-eqb, ne_eqb}
use Rattle.protocol.specs.Bytes.{Bytes}
use Rattle.totals_step.specs.Settled.{settled_by, finished_by}
use Rattle.totals_step.proofs.Behind.{settled-one, settled-two}
use Rattle.totals_step.proofs.finish.Goals as goal

pub consume-requires : goal.consume-requires
consume-requires c = omega (arith, c.put_u64.auto)

-- an answer is told: the reads go into the reply
pub returns-then-what-eq0 : goal.returns-then-what-eq0
unfolding finished_by
returns-then-what-eq0 c =
    let told = c.if-what-eq0.true in
    let a = c.args in
    let r : List ℕ = c.put_u64.new.out in
    let bytes : Bytes r = λ i. (c.slice_known-3-1.given i).fits in (
      settled-one r a.n a.out.now c.consume.ensures (omega (arith, c.put_u64.auto)) bytes (omega (arith, told)) ∙ ap (λ (l : List ℕ). settled_by l a.n a.out.now) c.put_u64.ensures,
      simp (eq-eqb _ 0 told) c.put_u64-then-what-eq0.ensures,
    )

-- a read is asked
pub returns-then-what-lt-WRITES : goal.returns-then-what-lt-WRITES
unfolding finished_by
returns-then-what-lt-WRITES c =
    let a = c.args in
    let r : List ℕ = c.put_u64.new.out in
    let bytes : Bytes r = λ i. (c.slice_known-3-1.given i).fits in (
      settled-one r a.n a.out.now c.consume.ensures (omega (arith, c.put_u64.auto)) bytes c.if-what-lt-WRITES.true ∙ ap (λ (l : List ℕ). settled_by l a.n a.out.now) c.put_u64.ensures,
      simp (ne_eqb _ 0 c.if-what-eq0.false),
    )

pub piece_len-requires : goal.piece_len-requires
piece_len-requires c = (omega arith, omega arith, c.requires.2)

-- something is asked to be written
pub returns : goal.returns
unfolding finished_by
returns c =
    let a = c.args in
    let r : List ℕ = c.put_u64.new.out in (
      settled-two r a.n a.out.now c.consume.ensures (omega arith) c.piece_len.ensures c.put_u64-2.ensures ∙ ap (λ (l : List ℕ). settled_by l a.n a.out.now) c.put_u64.ensures,
      simp (ne_eqb _ 0 c.if-what-eq0.false),
    )
