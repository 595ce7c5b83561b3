-- `fast_pull::await_body` meets its contract.
use mathlib.Core.Bool.{true}
use mathlib.Core.List.{List}
use mathlib.Core.Path.{◌≡◌, ap, ◌∙◌}
use Prim.Native.Nat.{ℕ, ◌+◌, ◌-◌}
use native.Mathlib.Omega.{arith}
use borrow.Author.Tests.{lt-ltb, le-ltb}
use lib.Dec.{eqb}
use lib.ListN.{length, take, drop}
use Rattle.protocol.specs.Bytes.{pick}
use Rattle.protocol.specs.Records.{arg_at}
use Rattle.boundary.specs.Told.{reply_bytes}
use Rattle.fast_replies.specs.Direct.{dialect_held, met_by, came_in}
use Rattle.fast_replies.proofs.Entries.{held-part}
use Rattle.fast_replies.proofs.Taken.{done-out, done-in}
use Rattle.record.specs.Record.{size, words}
use Rattle.fast_record.specs.Found.{found}
use Rattle.fast_record.specs.Standing.{number_in, moved_numbers, step_of}
use Rattle.fast_pull.specs.Chunks.{body_short, short_length, header_came}
use Rattle.fast_replies.proofs.Ends.{unmet, met_at}
use Rattle.fast_pull.proofs.Headers.{short-of, not_short, short-at, awaited}
use Rattle.session.specs.declared.Reply.TheVariants as R
use Rattle.fast_pull.proofs.await_body.Goals.{After-number-head, After-short_len, In-Some, In-Some-short_len}
use Rattle.fast_pull.proofs.await_body.Goals as goal

-- where tail comes to
end : (c : In-Some)
    → let a = c.args in
    (met_by a.rec.now a.rx.now a.count ≡ true) × (c.in-Some.end ≡ number_in a.rec.now 3 + a.count)
end c = let a = c.args in met_at a.rec.now a.rx.now a.count _ c.met.ensures c.in-Some.is

-- the held bytes, with those that came
held : (c : After-number-head)
    → let a = c.args in
    take (c.in-Some.end - c.number-head.result) (drop c.number-head.result a.rx.now) ≡ came_in a.rec.now a.rx.now a.count
held c =
    let a = c.args in
    let e = (met_at a.rec.now a.rx.now a.count _ c.met.ensures c.in-Some.is).1 in
    held-part a.rx.now (number_in a.rec.now 2) (number_in a.rec.now 3 + a.count) (omega (arith, c.requires.1)) (omega (arith, e)) _ _ c.number-head.ensures e

read : (c : After-short_len)
    → let a = c.args in
    c.short_len.result ≡ found (short_length (dialect_held a.rec.now) (came_in a.rec.now a.rx.now a.count) (length a.rx.now))
read c =
    let a = c.args in
    let e = (met_at a.rec.now a.rx.now a.count _ c.met.ensures c.in-Some.is).1 in
    let h = held-part a.rx.now (number_in a.rec.now 2) (number_in a.rec.now 3 + a.count) (omega (arith, c.requires.1)) (omega (arith, e)) _ _ c.number-head.ensures e in
    c.short_len.ensures ∙ ap (λ (x : List ℕ). found (short_length (dialect_held a.rec.now) x (length a.rx.now))) h

-- the chunk that they begin
begins : (c : In-Some-short_len)
    → let a = c.args in
    let x = came_in a.rec.now a.rx.now a.count in
    (body_short (dialect_held a.rec.now) x (length a.rx.now) ≡ true) × (c.in-Some-short_len.whole ≡ 8 + arg_at x)
begins c =
    let a = c.args in
    short-at (dialect_held a.rec.now) (came_in a.rec.now a.rx.now a.count) (length a.rx.now) _ (read (goal.at.In-Some-short_len c).After-short_len) c.in-Some-short_len.is

pub returns-in_default : goal.returns-in_default
returns-in_default c =
    let a = c.args in
    done-out (header_came a.rec.now a.rx.now a.count) a.rec.now _ _ _ _ _ a.out.now
    (rw (unmet a.rec.now a.rx.now a.count _ c.met.ensures c.in_default.is))

pub slice_bounds-short_len-count : goal.slice_bounds-short_len-count
slice_bounds-short_len-count c = omega (arith, (end (goal.at.slice_bounds-short_len-count c).In-Some).1, c.requires.1, c.number-head.ensures)

pub slice_bounds-short_len-start : goal.slice_bounds-short_len-start
slice_bounds-short_len-start c = omega (arith, (end (goal.at.slice_bounds-short_len-start c).In-Some).1, c.requires.1, c.number-head.ensures)

pub returns-in_default-short_len : goal.returns-in_default-short_len
returns-in_default-short_len c =
    let a = c.args in
    let rec = a.rec.now in
    let e = end (goal.at.returns-in_default-short_len c).In-Some in
    done-out (header_came rec a.rx.now a.count) rec _ _ _ _ _ a.out.now
    (rw (
      e.0,
      lt-ltb (number_in rec 3 + a.count) (length a.rx.now) (omega (arith, e.1)),
      not_short (dialect_held rec) (came_in rec a.rx.now a.count) (length a.rx.now) _ (read (goal.at.returns-in_default-short_len c).After-short_len) c.in_default-short_len.is,
    ))

pub overflow_sub-register : goal.overflow_sub-register
overflow_sub-register c = omega (arith, (begins (goal.at.overflow_sub-register c).In-Some-short_len).1)

pub overflow_add-until : goal.overflow_add-until
overflow_add-until c =
    let a = c.args in
    let (b, n) = begins (goal.at.overflow_add-until c).In-Some-short_len in
    let w = short-of (dialect_held a.rec.now) (came_in a.rec.now a.rx.now a.count) (length a.rx.now) b in
    omega (arith, w.fits, n, (end (goal.at.overflow_add-until c).In-Some).1, c.requires.1, c.number-head.ensures)

pub returns-then-rx-end : goal.returns-then-rx-end
returns-then-rx-end c =
    let a = c.args in
    let e = end (goal.at.returns-then-rx-end c).In-Some in
    done-out (header_came a.rec.now a.rx.now a.count) a.rec.now _ _ _ _ _ a.out.now
    (rw (e.0, le-ltb (number_in a.rec.now 3 + a.count) (length a.rx.now) (omega (arith, e.1))))

pub returns : goal.returns
unfolding reply_bytes
returns c =
    let a = c.args in
    let rec = a.rec.now in
    let x = came_in rec a.rx.now a.count in
    let e = end (goal.at.returns c).In-Some in
    let b = begins (goal.at.returns c).In-Some-short_len in
    let h = c.number-head.ensures in
    done-in (header_came rec a.rx.now a.count) rec (number_in rec 2) (number_in rec 3 + a.count) (number_in rec 4) (step_of 28 (number_in rec 8) (number_in rec 2 + (8 + arg_at x)) 0 0 (arg_at x))
    (R.Read (number_in rec 3 + a.count) (length a.rx.now - (number_in rec 3 + a.count))) a.out.now _ _ c.number-head.result c.in-Some.end c.number-lent.result
    (rw (e.0, lt-ltb (number_in rec 3 + a.count) (length a.rx.now) (omega (arith, e.1)), b.0)) c.requires.0 h e.1 c.number-lent.ensures
    (c.store_step.ensures ∙ ap (λ (s : List ℕ). pick (eqb (length rec) size) (words (moved_numbers rec c.number-head.result c.in-Some.end c.number-lent.result s)) rec)
    (awaited _ _ _ _ _ _ c.number-flag.ensures (omega (arith, b.1, h)) (omega (arith, b.1)))) (c.put_u64s.ensures ∙ rw e.1)
