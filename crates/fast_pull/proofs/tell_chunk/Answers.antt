-- `fast_pull::tell_chunk` meets its contract.
use mathlib.Core.Bool.{true}
use mathlib.Core.Path.{◌≡◌, ◌∙◌}
use Prim.Native.Nat.{◌+◌, ◌-◌}
use native.Mathlib.Omega.{arith}
use borrow.Author.Tests.{le-leb, lt-leb}
use Rattle.boundary.specs.Told.{reply_bytes}
use Rattle.fast_replies.specs.Direct.{met_by}
use Rattle.fast_replies.proofs.Taken.{done-out, done-in}
use Rattle.session.specs.declared.Reply.TheVariants.{Told}
use Rattle.fast_record.specs.Standing.{number_in, plain_step}
use Rattle.fast_pull.specs.Chunks.{body_length, body_came}
use Rattle.fast_replies.proofs.Ends.{unmet, met_at}
use Rattle.session.specs.declared.Answer.TheVariants as A
use Rattle.fast_pull.proofs.tell_chunk.Goals.{In-Some}
use Rattle.fast_pull.proofs.tell_chunk.Goals as goal

-- where tail comes to
end : (c : In-Some) → (met_by c.args.rec.now c.args.rx.now c.args.count ≡ true) × (c.in-Some.end ≡ number_in c.args.rec.now 3 + c.args.count)
end c = let a = c.args in met_at a.rec.now a.rx.now a.count _ c.met.ensures c.in-Some.is

pub returns-in_default : goal.returns-in_default
returns-in_default c =
    let a = c.args in
    done-out (body_came a.rec.now a.rx.now a.count) a.rec.now _ _ _ _ _ a.out.now
    (rw (unmet a.rec.now a.rx.now a.count _ c.met.ensures c.in_default.is))

pub overflow_sub-held : goal.overflow_sub-held
overflow_sub-held c = omega (arith, (end (goal.at.overflow_sub-held c).In-Some).1, c.requires.1, c.number-head.ensures)

pub returns-then-held-whole : goal.returns-then-held-whole
returns-then-held-whole c =
    let a = c.args in
    let rec = a.rec.now in
    let e = end (goal.at.returns-then-held-whole c).In-Some in
    done-out (body_came rec a.rx.now a.count) rec _ _ _ _ _ a.out.now
    (rw (e.0, lt-leb (8 + body_length rec) (number_in rec 3 + a.count - number_in rec 2) (omega (arith, e.1, c.number-head.ensures, c.number-n.ensures))))

pub returns : goal.returns
unfolding reply_bytes
returns c =
    let a = c.args in
    let rec = a.rec.now in
    let e = end (goal.at.returns c).In-Some in
    let h = c.number-head.ensures in
    let n = c.number-n.ensures in
    done-in (body_came rec a.rx.now a.count) rec (number_in rec 2 + (8 + body_length rec)) (number_in rec 3 + a.count) (number_in rec 4) (plain_step 0 0)
    (Told (A.Chunk (number_in rec 2 + 8) (body_length rec))) a.out.now _ _ _ _ _
    (rw (e.0, le-leb (8 + body_length rec) (number_in rec 3 + a.count - number_in rec 2) (omega (arith, e.1, h, n)))) c.requires.0 (rw (h, n)) e.1 c.number-lent.ensures
    c.store_step.ensures (c.put_u64s.ensures ∙ rw (h, n))
