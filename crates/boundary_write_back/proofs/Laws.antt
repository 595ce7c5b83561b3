-- What is put back into the record and the slice. Assumes nothing.
use mathlib.Core.List.{List}
use mathlib.Core.Path.{◌≡◌}
use Prim.Native.Nat.{ℕ}
use borrow.Author.Tests.{eq-eqb}
use lib.ListN.{length}
use Rattle.boundary.specs.Crossing.{back}
use Rattle.record.specs.Record.{size}
use Rattle.session.specs.State.{Out}
use Rattle.boundary_write_back.specs.Back.{back_into}

-- in a record of 256 bytes
pub back-into : (rec out : List ℕ) (o : Out) → length rec ≡ size → back_into rec out o ≡ back rec out o
unfolding back_into
back-into rec out o h = rw (eq-eqb (length rec) size h)
