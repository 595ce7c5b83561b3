-- The four functions of a session's steps on its record, over numbers and slices; what stands behind the session in the record does not matter.
-- Assumes nothing.
use Rattle.std.specs.Prelude.{ℕ, List}
use Rattle.boundary.specs.Crossing.{Crossed, cross_start, cross_read, cross_wrote, cross_fault}

-- a call by its number, with its mode or time, its flags and its moment; so many bytes were read; a write or the close was accepted; a fault
pub record Functions : Type 0 where
  pub start : (rec rx msg lent : List ℕ) → (call a b moment : ℕ) → (out : List ℕ) → Crossed
  pub read : (rec rx msg lent : List ℕ) → (count : ℕ) → (out : List ℕ) → Crossed
  pub wrote : (rec rx msg lent out : List ℕ) → Crossed
  pub fault : (rec rx msg lent : List ℕ) → (kind code : ℕ) → (out : List ℕ) → Crossed

-- the session alone; it does not look at the moment
abbrev pub session_functions : Functions
session_functions = record { start = λ rec rx msg lent n a b t out. cross_start rec rx msg lent n a b out; read = cross_read; wrote = cross_wrote; fault = cross_fault }
