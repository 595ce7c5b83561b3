-- The program's steps on the session: what a step comes to where no more input follows.
-- Assumes nothing.
use Rattle.std.specs.Prelude.{ℕ, ◌+◌, ◌*◌, ◌≤◌, List, [], ◌≡◌, eqb, length}
use Rattle.protocol.specs.Bytes.{pick}
use Rattle.protocol.specs.Features.{features_of}
use Rattle.protocol.specs.Ids.{letters}
use Rattle.protocol.specs.Records.{Stat}
use Rattle.ids.specs.Ids.{ids_of}
use Rattle.listing_lines.specs.Lines.{entry_line, laid_in, heading_room, entry_room, end_room}
use Rattle.session.specs.declared.Answer.{Answer}
use Rattle.session.specs.declared.Answer.TheVariants as A
use Rattle.session.specs.declared.Fault.TheVariants as F
use Rattle.session.specs.declared.Reply.{Reply}
use Rattle.session.specs.declared.Reply.TheVariants as R
use Rattle.session.specs.declared.Session.{Session}
use Rattle.session.specs.declared.Version.TheVariants.{V1}
use Rattle.session.specs.Calls.{fresh, entry_call}
use Rattle.session.specs.Core.{features_from}
use Rattle.session.specs.Reports.{report_read, report_fault}
use Rattle.session.specs.State.{St, st, Out}
use Rattle.listing.specs.declared.Heard.{Heard}
use Rattle.listing.specs.declared.Line.{Line}
use Rattle.listing.specs.declared.Line.TheVariants as L

-- a step that is over: the session with its buffers, and the answer
pub record Told : Type 0 where
  pub st : St
  pub answer : Answer

abbrev pub told : Heard → List ℕ → List ℕ → Told
told h rx msg = record { st = st h.session rx msg; answer = h.answer }

-- the answer of a reply that has one
abbrev pub answer_of : Reply → Answer
answer_of (R.Told a) = a
answer_of (R.Read at len) = A.Done
answer_of (R.WriteRx at len) = A.Done
answer_of (R.WriteLent at len) = A.Done
answer_of (R.WriteBytes p) = A.Done
answer_of R.Close = A.Done

abbrev pub told_by : Out → Told
told_by o = record { st = o.st; answer = answer_of o.reply }

-- a read that is asked comes to the end error
abbrev pub ended_by : Out → Reply → Told
ended_by o (R.Told a) = told_by o
ended_by o (R.Read at len) = told_by (report_fault o.st 0 (F.Error 0))
ended_by o (R.WriteRx at len) = told_by o
ended_by o (R.WriteLent at len) = told_by o
ended_by o (R.WriteBytes p) = told_by o
ended_by o R.Close = told_by o

unfoldable pub ended : Out → Told
ended o = ended_by o o.reply

-- the first step: n bytes of input came into the window that it asks
unfoldable pub first_out : St → ℕ → Out
first_out s n = pick (eqb n 0) (entry_call s V1 0) (report_read (entry_call s V1 0).st 0 n)

-- the line that an answer is printed as
abbrev pub line_of : Answer → Line
line_of A.Done = L.End 0
line_of A.End = L.End 0
line_of (A.StatV1 s) = L.End 0
line_of (A.StatV2 s) = L.End 0
line_of (A.EntryV1 s at len) = L.Entry s
line_of (A.EntryV2 s at len) = L.End 0
line_of (A.Chunk at len) = L.End 0
line_of (A.Refused n) = L.End n
line_of (A.Missing n) = L.End 10
line_of A.Closed = L.End 12
line_of (A.Error c) = L.End 13
line_of (A.Fail len) = L.End 14
line_of (A.Unexpected a b c d) = L.End 15
line_of (A.Errno c) = L.End 16
line_of A.TooLarge = L.End 17

-- the line of an entry, laid into a buffer
abbrev pub shown : List ℕ → ℕ → Stat → List ℕ → List ℕ × ℕ
shown out at s name = laid_in (entry_room name) out at (entry_line s name)

-- buffers that opening takes, n bytes of input in the first of them, and room for the whole output
pub record Ample (x m n most : ℕ) : Type 0 where
  pub least : 8 ≤ x
  pub aside : x ≤ m
  pub within : n ≤ x
  pub room : heading_room + 2 * n + end_room ≤ most

-- A fresh session on buffers that opening takes, n bytes of input in the first of them, and room in a buffer of `most` bytes from `from` on:
-- an entry's line has at most twice the bytes of the entry.
pub record Ready (s : Session) (rx msg : List ℕ) (n most from : ℕ) : Type 0 where
  pub fresh : s ≡ fresh (length rx) (length msg) (features_from (features_of [])) (ids_of letters)
  pub least : 8 ≤ length rx
  pub aside : length rx ≤ length msg
  pub within : n ≤ length rx
  pub room : from + 2 * n + end_room ≤ most
