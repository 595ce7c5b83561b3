-- `fast_replies::stat_at` meets its contract.
use mathlib.Core.Path.{◌≡◌, sym, ap, ◌∙◌}
use Prim.Native.Nat.{◌+◌, ◌-◌, ◌≤◌}
use native.Mathlib.Omega.{arith}
use lib.ListN.{length, take, drop}
use Rattle.session_phases.proofs.Turns.{stat_size-small}
use Rattle.session.specs.Phases.{stat_size_of}
use Rattle.session.specs.declared.Reply.TheVariants.{Told}
use Rattle.fast_record.specs.Standing.{number_in, plain_step}
use Rattle.fast_replies.specs.Direct.{dialect_held, came_in, is_stat, stat_told, stat_came}
use Rattle.fast_replies.proofs.Ends.{unmet, met_at, met_within}
use Rattle.fast_replies.proofs.Entries.{held-part}
use Rattle.fast_replies.proofs.Taken.{done-out, done-in}
use Rattle.fast_replies.proofs.Whole.{Replied, replied-of}
use Rattle.fast_replies.proofs.stat_at.Goals.{After-is_stat, Else-not-is_stat, In-Some}
use Rattle.fast_replies.proofs.stat_at.Goals as goal

-- where tail comes to
end : (c : In-Some) → (c.in-Some.end ≡ number_in c.args.rec.now 3 + c.args.count) × (c.in-Some.end ≤ length c.args.rx.now)
end c =
    let a = c.args in
    ((met_at a.rec.now a.rx.now a.count _ c.met.ensures c.in-Some.is).1, met_within a.rec.now a.rx.now a.count _ c.met.ensures c.in-Some.is c.requires.2)

-- the held bytes, with those that came
held : (c : After-is_stat)
    → let a = c.args in
    take (c.in-Some.end - c.number-head.result) (drop c.number-head.result a.rx.now) ≡ came_in a.rec.now a.rx.now a.count
held c =
    let a = c.args in
    let e = (met_at a.rec.now a.rx.now a.count _ c.met.ensures c.in-Some.is).1 in
    let l = met_within a.rec.now a.rx.now a.count _ c.met.ensures c.in-Some.is c.requires.2 in
    held-part a.rx.now (number_in a.rec.now 2) (number_in a.rec.now 3 + a.count) (omega (arith, c.requires.1)) (omega (arith, e, l)) _ _ c.number-head.ensures e

-- the tests on the way to the reply
came : (c : After-is_stat)
    → let a = c.args in
    stat_came a.rec.now a.rx.now a.count a.v ≡ c.is_stat.result
came c =
    let a = c.args in
    rw (met_at a.rec.now a.rx.now a.count _ c.met.ensures c.in-Some.is).0
    (sym (c.is_stat.ensures ∙ ap (is_stat (dialect_held a.rec.now) a.v) (held c)))

there : (c : Else-not-is_stat)
    → let a = c.args in
    Replied (dialect_held a.rec.now) a.v (take (c.in-Some.end - c.number-head.result) (drop c.number-head.result a.rx.now))
there c =
    let a = c.args in
    replied-of (dialect_held a.rec.now) a.v (take (c.in-Some.end - c.number-head.result) (drop c.number-head.result a.rx.now))
    (sym c.is_stat.ensures ∙ c.if-not-is_stat.false)

pub returns-in_default : goal.returns-in_default
returns-in_default c =
    let a = c.args in
    done-out (stat_came a.rec.now a.rx.now a.count a.v) a.rec.now _ _ _ _ _ a.out.now
    (rw (unmet a.rec.now a.rx.now a.count _ c.met.ensures c.in_default.is))

pub slice_bounds-x-count : goal.slice_bounds-x-count
slice_bounds-x-count c = let e = end (goal.at.slice_bounds-x-count c).In-Some in omega (arith, e.0, e.1, c.requires.1, c.number-head.ensures)

pub slice_bounds-x-start : goal.slice_bounds-x-start
slice_bounds-x-start c = let e = end (goal.at.slice_bounds-x-start c).In-Some in omega (arith, e.0, e.1, c.requires.1, c.number-head.ensures)

pub slice_bounds-x-end : goal.slice_bounds-x-end
slice_bounds-x-end c = let e = end (goal.at.slice_bounds-x-end c).In-Some in omega (arith, e.0, e.1, c.requires.1, c.number-head.ensures)

pub overflow_add-next : goal.overflow_add-next
overflow_add-next c = omega (arith, stat_size-small c.args.v)

pub tell_stat-requires : goal.tell_stat-requires
tell_stat-requires c = (there (goal.at.tell_stat-requires c).Else-not-is_stat).sized

pub returns-then-not-is_stat : goal.returns-then-not-is_stat
returns-then-not-is_stat c =
    let a = c.args in
    done-out (stat_came a.rec.now a.rx.now a.count a.v) a.rec.now _ _ _ _ _ a.out.now (came (goal.at.returns-then-not-is_stat c).After-is_stat ∙ c.if-not-is_stat.true)

pub returns : goal.returns
returns c =
    let a = c.args in
    let rec = a.rec.now in
    let x = came_in rec a.rx.now a.count in
    done-in (stat_came rec a.rx.now a.count a.v) rec (number_in rec 2 + stat_size_of a.v) (number_in rec 3 + a.count) (number_in rec 4) (plain_step 0 0) (Told (stat_told a.v x)) a.out.now _ _ _ _ _
    (came (goal.at.returns c).After-is_stat ∙ c.if-not-is_stat.false) c.requires.0 (omega (arith, c.number-head.ensures, c.stat_size.ensures)) (end (goal.at.returns c).In-Some).0 c.number-lent.ensures
    c.store_step.ensures (c.tell_stat.ensures ∙ rw (held (goal.at.returns c).After-is_stat))
