-- `time_index_slots::ranks_below` meets its contract.
use mathlib.Core.Path.{sym, ap, ◌∙◌}
use Prim.Native.Nat.{ℕ, ◌-◌}
use native.Mathlib.Omega.{arith}
use Rattle.protocol.specs.Bytes.{signed}
use Rattle.time_index.specs.Index.{earlier}
use Rattle.time_index.specs.Slots.{ranks}
use Rattle.time_index_slots.specs.Keys.{key_to}
use Rattle.time_index_slots.proofs.Laws.{ranks-under, ranks-first}
use Rattle.time_index_slots.proofs.ranks_below.Goals as goal

pub returns-then-k-eq0 : goal.returns-then-k-eq0
returns-then-k-eq0 c =
    let a = c.args in
    let s = a.slots.now in
    (sym (ap (ranks (λ z. earlier z (signed a.time)) s) (sym c.requires.1.1) ∙ ranks-first s (λ i. (c.type_inv.slots i).fits) a.time (omega arith) a.n (sym c.key-k.ensures ∙ c.if-k-eq0.true)), omega arith)

pub returns : goal.returns
returns c =
    let a = c.args in
    let s = a.slots.now in (
      c.ranks_to.ensures.0
          ∙ ap (λ (x : ℕ). ranks (key_to (x - 1)) s a.n) c.key-k.ensures
          ∙ ranks-under s (λ i. (c.type_inv.slots i).fits) a.time (omega arith) a.n (omega arith)
          ∙ ap (ranks (λ z. earlier z (signed a.time)) s) c.requires.1.1,
      c.ranks_to.ensures.1,
    )
