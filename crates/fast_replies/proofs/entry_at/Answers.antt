-- `fast_replies::entry_at` meets its contract.
use mathlib.Core.Path.{◌≡◌, refl, ap, ◌∙◌}
use Prim.Native.Nat.{◌+◌, ◌-◌, ◌≤◌}
use native.Mathlib.Omega.{arith}
use borrow.Author.Tests.{lt-ltb, le-ltb}
use lib.Dec.{ltb}
use mathlib.Core.List.{List}
use Prim.Native.Nat.{ℕ, ◌<◌}
use lib.ListN.{take, drop}
use Rattle.session_phases.proofs.Turns.{entry-size_small}
use Rattle.session.specs.Phases.{entry_size_of}
use Rattle.session.specs.declared.Reply.TheVariants.{Told}
use Rattle.fast_record.proofs.Found.{none-found, some_found}
use Rattle.fast_record.specs.Found.{found}
use Rattle.fast_record.specs.Standing.{number_in, plain_step}
use Rattle.fast_replies.specs.Direct.{held_in, dialect_held, entry_length, entry_in, entry_told}
use Rattle.fast_replies.proofs.Entries.{held-part, entry-within}
use Rattle.fast_replies.proofs.Taken.{done-out, done-in}
use Rattle.fast_replies.proofs.Whole.{Whole, whole_of}
use Rattle.fast_replies.proofs.entry_at.Goals.{After-entry_len, In-Some}
use Rattle.fast_replies.proofs.entry_at.Goals as goal

held : (c : After-entry_len)
    → let a = c.args in
    let head = c.number-head.result in
    take (c.number-tail.result - head) (drop head a.rx.now) ≡ held_in a.rec.now a.rx.now
held c =
    let rec = c.args.rec.now in
    held-part c.args.rx.now (number_in rec 2) (number_in rec 3) c.requires.1 c.requires.2 _ _ c.number-head.ensures c.number-tail.ensures

-- what is found is the entry's length
found-is : (c : After-entry_len)
    → let a = c.args in
    c.entry_len.result ≡ found (entry_in a.rec.now a.rx.now a.v)
found-is c =
    let a = c.args in
    c.entry_len.ensures ∙ ap (λ (x : List ℕ). found (entry_length (dialect_held a.rec.now) a.v x)) (held c)

-- an entry that is there
length-is : (c : In-Some)
    → let a = c.args in
    entry_in a.rec.now a.rx.now a.v ≡ c.in-Some.n × 0 < c.in-Some.n
length-is c = let a = c.args in some_found (entry_in a.rec.now a.rx.now a.v) (found-is (goal.at.In-Some c).After-entry_len) c.in-Some.is

found-length : (c : In-Some)
    → let a = c.args in
    let head = c.number-head.result in
    entry_length (dialect_held a.rec.now) a.v (take (c.number-tail.result - head) (drop head a.rx.now)) ≡ c.in-Some.n
found-length c = (some_found _ c.entry_len.ensures c.in-Some.is).0

whole : (c : In-Some)
    → let a = c.args in
    let head = c.number-head.result in
    Whole (dialect_held a.rec.now) a.v (take (c.number-tail.result - head) (drop head a.rx.now))
whole c =
    let a = c.args in
    let head = c.number-head.result in
    whole_of (dialect_held a.rec.now) a.v (take (c.number-tail.result - head) (drop head a.rx.now)) (omega (arith, found-length c, (length-is c).1))

within : (c : In-Some) → c.number-head.result + c.in-Some.n ≤ c.number-tail.result
within c =
    let a = c.args in
    let e = length-is c in
    omega (arith, e.0, e.1, entry-within a.rec.now a.rx.now a.v c.requires.1 c.requires.2 (omega (arith, e.0, e.1)))

pub returns-in_default : goal.returns-in_default
returns-in_default c =
    let a = c.args in
    let n = entry_in a.rec.now a.rx.now a.v in
    done-out (ltb 0 n) a.rec.now _ _ _ _ _ a.out.now
    (le-ltb 0 n (omega (arith, none-found n (found-is (goal.at.returns-in_default c).After-entry_len) c.in_default.is)))

pub overflow_add-at : goal.overflow_add-at
overflow_add-at c = omega (arith, entry-size_small c.args.v)

pub overflow_sub-len : goal.overflow_sub-len
overflow_sub-len c = let i = (goal.at.overflow_sub-len c).In-Some in omega (arith, (whole i).all, found-length i)

pub overflow_add-next : goal.overflow_add-next
overflow_add-next c = omega (arith, within (goal.at.overflow_add-next c).In-Some)

pub tell_entry-requires : goal.tell_entry-requires
tell_entry-requires c =
    let i = (goal.at.tell_entry-requires c).In-Some in
    ((whole i).sized, omega (arith, (whole i).all, found-length i))

pub returns : goal.returns
returns c =
    let a = c.args in
    let rec = a.rec.now in
    let x = held_in rec a.rx.now in
    let n = entry_in rec a.rx.now a.v in
    let e = length-is (goal.at.returns c).In-Some in
    done-in (ltb 0 n) rec (number_in rec 2 + n) (number_in rec 3) a.lent (plain_step 0 0) (Told (entry_told a.v x (number_in rec 2 + entry_size_of a.v))) a.out.now _ _ (c.number-head.result + c.in-Some.n) c.number-tail.result a.lent
    (lt-ltb 0 n (omega (arith, e.0, e.1))) c.requires.0 (omega (arith, c.number-head.ensures, e.0)) c.number-tail.ensures refl c.store_step.ensures
    (c.tell_entry.ensures ∙ rw (held (goal.at.returns c).After-entry_len, c.number-head.ensures, c.entry_size-size.ensures))
