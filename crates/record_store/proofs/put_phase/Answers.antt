-- `record_store::put_phase` meets its contract.
use mathlib.Core.Logic.{inl, inr}
use Rattle.record.specs.Fields.{phase_numbers}
use Rattle.record_store.proofs.Puts.{registers-of}
use Rattle.record_store.proofs.put_phase.Goals as goal

pub returns-in-Body : goal.returns-in-Body
returns-in-Body c =
    elim c.in-Body.is [
      | inl e ↦ registers-of phase_numbers _ e c.put_registers-in-Body.ensures
      | inr e ↦ registers-of phase_numbers _ e c.put_registers-in-Body.ensures
    ]
