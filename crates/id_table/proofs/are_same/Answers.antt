-- `id_table::are_same` meets its contract: by the numbers that the four bytes spell.
use mathlib.Core.Path.{sym, ap₂, ◌∙◌}
use native.Mathlib.Omega.{arith}
use lib.Dec.{eqb}
use Rattle.id_table.proofs.Groups.{same-words}
use Rattle.id_table.proofs.are_same.Goals as goal

pub returns : goal.returns
returns c =
    let a = c.args in
    ap₂ eqb c.u32_at.ensures c.u32_at-2.ensures
    ∙ sym (same-words a.id.now a.other.now 0 0 (λ i. (c.type_inv.id i).fits) (λ i. (c.type_inv.other i).fits) (omega arith) (omega arith))
