-- What is promised of the functions of a record beside the card: opening and the calls by their numbers, that a refusal changes nothing, and which reads a
-- reply tells. Of the exported ones in hours_totals/specs/Claim.
-- Assumes nothing.
use Rattle.std.specs.Prelude.{ℕ, ◌*◌, ◌%◌, ◌≤◌, List, ◌⊎◌, ◌≡◌, length}
use Rattle.std.proofs.Math.Option.{Option, some}
use Rattle.protocol.specs.Answers.{Answer}
use Rattle.protocol.specs.Bytes.{Bytes}
use Rattle.protocol.specs.Calls.{Call}
use Rattle.protocol.specs.Refusal.{closed_hours}
use Rattle.session.specs.Host.{Spare, lent_of}
use Rattle.boundary.specs.Boundary.{call_number, first_number, flag_number}
use Rattle.boundary.specs.Crossing.{Crossed, OpenCrossed}
use Rattle.boundary.specs.Told.{out_size}
use Rattle.boundary_misuse.specs.Claim.{Unchanged, IsRefused, Opens}
use Rattle.boundary_misuse.specs.Functions.{Functions}
use Rattle.boundary_misuse.specs.Misuse.{Event, Wide, done_by, call_of}
use Rattle.totals.specs.Card.{count_in}
use Rattle.totals.specs.Crossing.{overflowed, reads_of}

-- one of the caller's numbers is answered, 21 and 25 among them
abbrev pub IsRefusedBy : Crossed → Type 0
IsRefusedBy c = IsRefused c ⊎ ((c.number ≡ 256 * overflowed) ⊎ (c.number ≡ 256 * closed_hours))

pub record MisuseClaim (F : Functions) (opening : (rec settings banner : List ℕ) → (rx msg : ℕ) → OpenCrossed)
    (open_refusal : (rec settings : List ℕ) → (rx msg : ℕ) → Option Answer) : Type 0 where
  -- the calls are those of demand 3, by their numbers, whatever is lent and passed where it does not count
  pub calls : (z : Spare) (q : Call) → call_of (call_number q) (first_number z q) (flag_number z q) (lent_of z q) ≡ some q
  -- any record, any settings, any banner, any two lengths
  pub opens : (rec settings banner : List ℕ) (c m : ℕ) → Opens (open_refusal rec settings c m) rec (opening rec settings banner c m)
  -- a refusal leaves any record unchanged, also one that no opening left
  pub unchanged : (rec : List ℕ) → Bytes rec → (e : Event) → Wide e → IsRefusedBy (done_by F rec e) → Unchanged rec e (done_by F rec e)

-- "Carry in each finished call's answer how many reads it accepted": on any record, also one that no opening left, where the reply has room for it. With an answer that is
-- no refusal goes the number that the record then has, with a refusal 0.
pub record CountTold (F : Functions) : Type 0 where
  pub answered : (rec : List ℕ) (e : Event) → out_size ≤ length e.out → (done_by F rec e).number % 256 ≡ 0 → (IsRefusedBy (done_by F rec e) → ⊥)
      → count_in (done_by F rec e) ≡ reads_of (done_by F rec e).rec
  pub refused : (rec : List ℕ) → Bytes rec → (e : Event) → Wide e → out_size ≤ length e.out → IsRefusedBy (done_by F rec e) → count_in (done_by F rec e) ≡ 0
