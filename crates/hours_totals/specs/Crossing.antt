-- What the exported functions of a session come to: a step of the session with totals, and the hours it opened with behind it (document 02, [10]).
--
-- The record is the 296 bytes of a session with totals, and 32 bytes of hours. A push start outside them is 25, told with no reads, where the session would not
-- refuse it.
-- Assumes nothing.
use Rattle.std.specs.Prelude.{ℕ, Bool, ◌&&◌, ◌||◌, not, List, [], ◌++◌, eqb, length, take, drop}
use Rattle.std.proofs.Math.Option.{Option}
use Rattle.protocol.specs.Bytes.{pick, put}
use Rattle.protocol.specs.Hours.{Hours, lets}
use Rattle.protocol.specs.Refusal.{closed_hours}
use Rattle.hours.specs.Settings.{bad_hours, hours_bytes_in, is_hours}
use Rattle.hours.specs.Slots.{hours_of}
use Rattle.session.specs.declared.Answer.TheVariants as A
use Rattle.session.specs.declared.Reply.{Reply}
use Rattle.session.specs.declared.Reply.TheVariants as R
use Rattle.boundary.specs.Crossing.{Crossed, crossed, OpenCrossed}
use Rattle.boundary.specs.Told.{reply_number, reply_bytes}
use Rattle.totals.specs.Crossing.{record_size, refuses, counted, wrong_length, total_open, total_start, total_read, total_wrote, total_fault}

-- the length of a record with hours
abbrev pub timed_size : ℕ
timed_size = 328

-- the hours of a record
abbrev pub hours_at : List ℕ → Option Hours
hours_at rec = hours_of (drop record_size rec)

-- a step of the session with totals inside, and the hours behind it, as they were
abbrev pub beside : (rec : List ℕ) → Crossed → Crossed
beside rec c = crossed (c.rec ++ drop record_size rec) c.rx c.msg c.out c.number

-- 25, told, with no reads; nothing else is altered
abbrev pub closed_reply : Reply
closed_reply = R.Told (A.Refused closed_hours)

abbrev pub closed_now : (rec rx msg out : List ℕ) → Crossed
closed_now rec rx msg out = crossed rec rx msg (counted (reply_number closed_reply) 0 (put out 0 (reply_bytes closed_reply))) (reply_number closed_reply)

-- the numbers of the calls that start a push
abbrev pub starts_push : ℕ → Bool
starts_push n = eqb n 7 || eqb n 8

-- for a record of another length 3 is told, with no reads; nothing else is altered
abbrev pub on_timed : (rec rx msg out : List ℕ) → Crossed → Crossed
on_timed rec rx msg out c = pick (eqb (length rec) timed_size) c (crossed rec rx msg (counted wrong_length 0 out) wrong_length)

-- ---- the functions

-- opening: as with totals, in the front of the record; then 24 for settings whose bytes of hours are none that loading puts there. A refusal leaves the record.
abbrev pub open_timed : (rec settings : List ℕ) → OpenCrossed → OpenCrossed
open_timed rec settings o =
    pick (eqb o.number 0)
    (pick (is_hours (hours_bytes_in settings)) (record { rec = o.rec ++ hours_bytes_in settings; number = 0 }) (record { rec = rec; number = bad_hours }))
    (record { rec = rec; number = o.number })

unfoldable pub timed_open : List ℕ → (settings banner : List ℕ) → (rx msg : ℕ) → OpenCrossed
timed_open rec settings banner rx msg = open_timed rec settings (total_open (pick (eqb (length rec) timed_size) (take record_size rec) []) settings banner rx msg)

-- a start: what the session refuses is refused; then 25
unfoldable pub timed_start : (rec rx msg lent : List ℕ) → (call a b moment : ℕ) → (out : List ℕ) → Crossed
timed_start rec rx msg lent n a b t out =
    let c = total_start (take record_size rec) rx msg lent n a b out in
    on_timed rec rx msg out
    (pick (not (lets (hours_at rec) t) && (starts_push n && not (refuses c.number))) (closed_now rec rx msg out) (beside rec c))

unfoldable pub timed_read : (rec rx msg lent : List ℕ) → (count : ℕ) → (out : List ℕ) → Crossed
timed_read rec rx msg lent k out = on_timed rec rx msg out (beside rec (total_read (take record_size rec) rx msg lent k out))

unfoldable pub timed_wrote : (rec rx msg lent out : List ℕ) → Crossed
timed_wrote rec rx msg lent out = on_timed rec rx msg out (beside rec (total_wrote (take record_size rec) rx msg lent out))

unfoldable pub timed_fault : (rec rx msg lent : List ℕ) → (kind code : ℕ) → (out : List ℕ) → Crossed
timed_fault rec rx msg lent kind code out = on_timed rec rx msg out (beside rec (total_fault (take record_size rec) rx msg lent kind code out))
