-- The exported functions as a system: what demand 3 is claimed of.
-- Assumes nothing.
use Rattle.std.specs.Prelude.{ℕ, List, ◌≡◌, length}
use Rattle.hours.specs.Settings.{settings_with}
use Rattle.session.specs.Demand3.{System}
use Rattle.boundary.specs.Boundary.{opened_by, boundary}
use Rattle.totals.specs.System.{Functions, engine_by}
use Rattle.hours_totals.specs.Crossing.{timed_size, timed_open, timed_start, timed_read, timed_wrote, timed_fault}

abbrev pub timed_functions : Functions
timed_functions = record { start = timed_start; read = timed_read; wrote = timed_wrote; fault = timed_fault }

-- any record of the right length may stand there; what is lent besides is as without totals
abbrev pub timed_totals : System (List ℕ)
timed_totals =
    record {
      engine = engine_by timed_functions (λ rec. rec) (λ c. c.rec);
      opened = λ rec o rx msg. opened_by (timed_open rec (settings_with o.table o.hours) o.banner (length rx) (length msg));
      place = λ rec. length rec ≡ timed_size;
      lends = boundary.lends;
    }
