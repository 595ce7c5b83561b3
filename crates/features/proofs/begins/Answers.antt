-- `features::begins` meets its contract.
use mathlib.Core.List.{List}
use mathlib.Core.Path.{sym, ap, ◌∙◌}
use Prim.Native.Nat.{ℕ}
use native.Mathlib.Omega.{arith}
use borrow.Author.Tests.{lt-leb}
use lib.ListN.{length}
use Rattle.protocol.specs.Bytes.{same}
use Rattle.features.proofs.Laws.{slice-front, starts-short}
use Rattle.features.proofs.begins.Goals as goal

pub returns-then-text-to : goal.returns-then-text-to
returns-then-text-to c =
    let a = c.args in
    c.part_is.ensures ∙ ap (λ (l : List ℕ). same l a.text.now) (slice-front a.from a.to (length a.text.now) a.s.now (omega arith))

pub returns-else-text-to : goal.returns-else-text-to
returns-else-text-to c =
    let a = c.args in
    rw (lt-leb _ _ c.if-text-to.false) (sym (starts-short a.from a.to a.s.now a.text.now (omega arith) c.if-text-to.false))
