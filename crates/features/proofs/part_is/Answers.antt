-- `features::part_is` meets its contract.
use mathlib.Core.List.{List}
use mathlib.Core.Path.{◌≡◌, ap, ◌∙◌}
use Prim.Native.Nat.{ℕ, ◌-◌}
use borrow.Author.Rules.{rules}
use native.Mathlib.Omega.{arith}
use lib.ListN.{take, drop}
use Rattle.protocol.specs.Bytes.{same}
use Rattle.features.proofs.Laws.{slice-part}
use Rattle.features.proofs.part_is.Goals as goal

pub returns : goal.returns
returns c =
    let a = c.args in
    let e : c.eq.result ≡ same (take (a.to - a.from) (drop a.from a.s.now)) a.text.now = search rules in
    e ∙ ap (λ (l : List ℕ). same l a.text.now) (slice-part a.from a.to a.s.now (omega arith))
