-- Whether the session in a record would take a report: none of the numbers 1 to 11 would be told.
-- Assumes nothing.
use Rattle.std.specs.Prelude.{ℕ, ◌-◌, Bool, true, false, ◌&&◌, eqb, ltb, leb}
use Rattle.std.proofs.Math.Option.{Option, none, some}
use Rattle.session.specs.declared.Pending.{Pending}
use Rattle.session.specs.declared.Pending.TheVariants.{Idle, Reading, Writing, Closing}
use Rattle.session.specs.declared.Session.{Session}
use Rattle.session.specs.Reports.{report_refusal}

-- a read is pending, and the count is from 1 to what its window has
abbrev pub awaits_read : Pending → (window count : ℕ) → Bool
awaits_read Idle w k = false
awaits_read (Reading p until lost) w k = ltb 0 k && leb k w
awaits_read (Writing q from piece) w k = false
awaits_read (Closing failed code) w k = false

-- a write or the close is pending
abbrev pub awaits_write : Pending → Bool
awaits_write Idle = false
awaits_write (Reading p until lost) = false
awaits_write (Writing q from piece) = true
awaits_write (Closing failed code) = true

-- the buffers and what is lent have these lengths; a record without a session takes nothing
unfoldable pub takes_read : Option Session → (rx msg lent count : ℕ) → Bool
takes_read none x m n k = false
takes_read (some s) x m n k = eqb (report_refusal s x m n) 0 && awaits_read s.pending (s.capacity - s.buf.tail) k

unfoldable pub takes_wrote : Option Session → (rx msg lent : ℕ) → Bool
takes_wrote none x m n = false
takes_wrote (some s) x m n = eqb (report_refusal s x m n) 0 && awaits_write s.pending
