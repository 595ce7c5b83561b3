-- `record_load::step_in` meets its contract: a step's parts, by its state.
use mathlib.Core.Path.{ap, ◌∙◌}
use mathlib.Core.List.{List}
use Prim.Native.Nat.{ℕ}
use native.Mathlib.Omega.{arith}
use borrow.Author.Tests.{lt-ltb, eq-eqb, ne_eqb}
use lib.ListN.{length}
use Rattle.record.proofs.States.{step-state}
use Rattle.record.specs.Record.{size, word_of}
use Rattle.record_load.proofs.step_in.Goals as goal

pub returns-then-state-gt-QUIT_OUT : goal.returns-then-state-gt-QUIT_OUT
returns-then-state-gt-QUIT_OUT c =
    let s = c.args.rec.now in
    let whole = c.in-Some.ensures.cases in
    let e = c.place.ensures ∙ ap (λ (x : List ℕ). word_of x 7) whole.same in
    simp (
      e,
      eq-eqb (length s) size whole.long,
      step-state (word_of s),
      ne_eqb (word_of s 7) 30 (omega (arith, e)),
      lt-ltb 11 (word_of s 7) (omega (arith, e)),
    )
