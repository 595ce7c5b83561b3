-- `record_load::load` meets its contract.
use mathlib.Core.Bool.{true, false}
use mathlib.Core.List.{List}
use mathlib.Core.Path.{◌≡◌, sym, ap, ◌∙◌}
use Prim.Native.Nat.{ℕ}
use borrow.Author.Tests.{eq-eqb}
use lib.ListN.{length}
use Rattle.record.specs.Fields.{known}
use Rattle.record.specs.Record.{size, word_of, loaded}
use Rattle.record_load.proofs.Held.{held-known}
use Rattle.record_load.proofs.load.Goals as goal

pub session-requires : goal.session-requires
session-requires c =
    let r = c.in_ok-rec.rec.now in
    let whole = c.in_ok-rec.ensures.cases in
    let l = ap (λ (x : List ℕ). length x) whole.same ∙ whole.long in
    let (f, e, state, b, p) = held-known r (rw (eq-eqb (length r) size l, sym c.if-known.ensures)) in
    state

pub returns-then-known : goal.returns-then-known
unfolding loaded
returns-then-known c =
    let s = c.args.rec.now in
    let whole = c.in_ok-rec.ensures.cases in
    let k : known (word_of s) ≡ true = ap (λ (x : List ℕ). known (word_of x)) (sym whole.same) ∙ sym c.known.ensures ∙ c.if-known.true in
    rw (c.session.ensures, whole.same, eq-eqb (length s) size whole.long, k)

pub returns-else-known : goal.returns-else-known
unfolding loaded
returns-else-known c =
    let s = c.args.rec.now in
    let whole = c.in_ok-rec.ensures.cases in
    let k : known (word_of s) ≡ false = ap (λ (x : List ℕ). known (word_of x)) (sym whole.same) ∙ sym c.known.ensures ∙ c.if-known.false in
    rw (k, eq-eqb (length s) size whole.long)
