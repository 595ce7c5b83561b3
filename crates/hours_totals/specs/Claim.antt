-- What is promised of the exported functions beside demand 3: which openings are refused, and that no step writes over the hours (document 02, [10]). The card, misuse
-- and the reads that a reply tells are totals/specs/Card and Claim, of these functions.
-- Assumes nothing.
use Rattle.std.specs.Prelude.{ℕ, not, List, ◌≡◌, drop}
use Rattle.std.proofs.Math.Option.{Option}
use Rattle.protocol.specs.Answers.{Answer, refused}
use Rattle.protocol.specs.Hours.{Hours}
use Rattle.protocol.specs.Refusal.{or_else, refuse}
use Rattle.boundary_misuse.specs.Misuse.{Event, done_by, open_refused}
use Rattle.hours.specs.Settings.{bad_hours, hours_bytes_in, is_hours}
use Rattle.hours.specs.Slots.{hours_of}
use Rattle.totals.specs.Card.{CardClaim}
use Rattle.totals.specs.Claim.{MisuseClaim, CountTold}
use Rattle.totals.specs.Crossing.{record_size}
use Rattle.hours_totals.specs.Crossing.{timed_size, timed_open}
use Rattle.hours_totals.specs.System.{timed_functions}

-- the hours of settings
abbrev pub hours_lent : (settings : List ℕ) → Option Hours
hours_lent settings = hours_of (hours_bytes_in settings)

-- 1, 2, 3, 22 and 23 as ever; then 24
abbrev pub open_refused_by : (rec settings : List ℕ) → (rx msg : ℕ) → Option Answer
open_refused_by rec settings rx msg = or_else (open_refused timed_size rec settings rx msg) (refuse (not (is_hours (hours_bytes_in settings))) (refused bad_hours))

-- ---- of the exported functions

abbrev pub TimedCard : Type 0
TimedCard = CardClaim timed_functions timed_open hours_lent

abbrev pub TimedMisuse : Type 0
TimedMisuse = MisuseClaim timed_functions timed_open open_refused_by

abbrev pub TimedCount : Type 0
TimedCount = CountTold timed_functions

-- "A session keeps the hours it opened with": on any record, also one that no opening left
abbrev pub HoursKept : Type 0
HoursKept = (rec : List ℕ) (e : Event) → drop record_size (done_by timed_functions rec e).rec ≡ drop record_size rec
