-- The card: what a host adds up of its own reports, that the record shows these sums, and what is refused: 25 and 21 behind the table of misuse.
-- Assumes nothing.
use Rattle.std.specs.Prelude.{ℕ, ◌+◌, ◌*◌, ◌%◌, ◌≤◌, ◌<◌, ◌^◌, Bool, false, ◌&&◌, ◌||◌, not, List, [], ◌∷◌, ◌≡◌, leb, length}
use Rattle.std.proofs.Math.Option.{Option, none, some}
use Rattle.protocol.specs.Answers.{Answer, refused}
use Rattle.protocol.specs.Calls.{Call}
use Rattle.protocol.specs.Hours.{Hours, lets}
use Rattle.protocol.specs.Refusal.{or_else, refuse, is_push, closed_hours}
use Rattle.protocol.specs.Records.{u64_at}
use Rattle.boundary.specs.Crossing.{Crossed, OpenCrossed}
use Rattle.boundary.specs.Told.{out_size}
use Rattle.boundary_misuse.specs.Claim.{heard_of, Answers, follow}
use Rattle.boundary_misuse.specs.Functions.{Functions}
use Rattle.boundary_misuse.specs.Misuse.{has_read, wrote, fault, Act, start, report, Event, AllWide, done_by, Seen, opened, call_of, refusal}
use Rattle.session_layer.specs.Layer.{asked}
use Rattle.totals.specs.System.{total_functions, counting}
use Rattle.totals.specs.Crossing.{limit, overflowed, received_of, consumed_of, written_of, reads_of, count_at}

-- what crosses, on a record with totals
abbrev pub total_by : List ℕ → Event → Crossed
total_by rec e = done_by total_functions rec e

-- ---- the sums

-- "the sum of the counts reported by accepted reads", "the sum of accepted piece lengths"; and "how many reads it accepted": this call, or the last ([8])
pub record Sums : Type 0 where
  pub received : ℕ
  pub written : ℕ
  pub reads : ℕ

abbrev pub no_sums : Sums
no_sums = record { received = 0; written = 0; reads = 0 }

-- what an event adds where it is accepted: a read its count, and one read; a write what was last asked; a call, a fault and a close nothing. A call starts
-- with no reads; "one that reports an error not counted"
abbrev pub adds : Seen → Sums → Act → Sums
adds s t (start n a b i) = record { received = t.received; written = t.written; reads = 0 }
adds s t (report (has_read k)) = record { received = t.received + k; written = t.written; reads = t.reads + 1 }
adds s t (report wrote) = record { received = t.received; written = t.written + asked s.last; reads = t.reads }
adds s t (report (fault kind code)) = t

abbrev pub sums_after : Option Answer → Sums → Sums → Sums
sums_after (some a) t t' = t
sums_after none t t' = t'

-- the record shows them; "received = consumed + held", the bytes that are held as demand 3's host has them, in any receive buffer of that capacity
pub record Shows (capacity : ℕ) (t : Sums) (rec : List ℕ) : Type 0 where
  pub received : received_of rec ≡ t.received
  pub written : written_of rec ≡ t.written
  pub reads : reads_of rec ≡ t.reads
  pub consumed : (rx : List ℕ) → length rx ≡ capacity → received_of rec ≡ consumed_of rec + length (counting.holds rec rx)

-- ---- what is refused

-- "would pass 2^64 − 1 in a total"
abbrev pub passes : Sums → Bool
passes t = leb limit t.received || (leb limit t.written || leb limit t.reads)

-- "a start outside the hours is 25, after 10" (document 02, [10]): of the calls that push
abbrev pub pushes : Option Call → Bool
pushes none = false
pushes (some q) = is_push q

abbrev pub closed_to : Option Hours → Event → Act → Option Answer
closed_to h e (start n a b i) = refuse (not (lets h i) && pushes (call_of n a b e.lent)) (refused closed_hours)
closed_to h e (report r) = none

-- behind all that misuse's table refuses: 25 of a call; of a report "21, after 11"
abbrev pub refused_by : Option Hours → Seen → Sums → Event → Option Answer
refused_by h s t e = or_else (refusal s e) (or_else (closed_to h e e.act) (refuse (passes (adds s t e.act)) (refused overflowed)))

-- "Carry in each finished call's answer how many reads it accepted": the last number of the reply
abbrev pub count_in : Crossed → ℕ
count_in c = u64_at count_at c.out

-- what is answered: a refusal as misuse has it, and no reads in it; where nothing is refused, what is told is 0 or one of 12 to 17, with the call's reads. The
-- reads stand there where the reply has room for them
abbrev pub AnswersBy : Option Answer → (reads : ℕ) → List ℕ → Event → Crossed → Type 0
AnswersBy (some a) k rec e c = Answers (some a) rec e c × (out_size ≤ length e.out → count_in c ≡ 0)
AnswersBy none k rec e c =
    ((n : ℕ) → c.number ≡ 256 * n → 0 < n → (12 ≤ n) × (n < 18)) × (out_size ≤ length e.out → c.number % 256 ≡ 0 → count_in c ≡ k)

-- ---- event after event, on the record as it was left

module _ (F : Functions) (h : Option Hours) where
  abbrev pub EveryMoment : Seen → Sums → List ℕ → List Event → Type 0
  EveryMoment s t rec [] = Shows s.capacity t rec
  EveryMoment s t rec (e ∷ es) =
      Shows s.capacity t rec
      × (AnswersBy (refused_by h s t e) (adds s t e.act).reads rec e (done_by F rec e)
      × EveryMoment (follow (refused_by h s t e) s e (heard_of (done_by F rec e))) (sums_after (refused_by h s t e) t (adds s t e.act)) (done_by F rec e).rec es)

-- "For every list of calls and reports from fresh", well placed or not; `hours` are those of the settings that a session opens with
abbrev pub CardClaim : Functions → (opening : (rec settings banner : List ℕ) → (rx msg : ℕ) → OpenCrossed) → (hours : (settings : List ℕ) → Option Hours) → Type 0
CardClaim F opening hours =
    (rec settings banner : List ℕ) (c m : ℕ) → m < 2 ^ 63 → (opening rec settings banner c m).number ≡ 0
    → (es : List Event) → AllWide es → EveryMoment F (hours settings) (opened banner c m) no_sums (opening rec settings banner c m).rec es
