-- Every theorem that is promised, with its whole type: the front page of what is proved. docs/PROMISES.md says which paragraph each is for.
-- Assumes nothing.
use Prim.Native.Nat.{ℕ, ◌+◌, ◌≤◌, ◌<◌}
use mathlib.Core.Bool.{Bool, true, false}
use mathlib.Core.List.{List, [], ◌∷◌, ◌++◌, map}
use mathlib.Core.Logic.{◌⊎◌}
use mathlib.Core.Option.{Option, none, some}
use mathlib.Core.Path.{◌≡◌, refl}
use lib.ListN.{length, get_or, take, drop}
use Rattle.protocol.specs.Answers as A
use Rattle.protocol.specs.Answers.{End}
use Rattle.protocol.specs.Banners as BannerFacts
use Rattle.protocol.specs.Bytes.{Bytes, ascii, has, put}
use Rattle.protocol.specs.Calls.{Call, messages, Made}
use Rattle.protocol.specs.Hours.{Hours, Kept}
use Rattle.protocol.specs.Refusal.{Setting, request_refusal, refusal}
use Rattle.protocol.specs.Decimal.{decimal, canonical}
use Rattle.protocol.specs.Fact.{Hold}
use Rattle.protocol.specs.Features.{features_of}
use Rattle.protocol.specs.Flags.{refused_flags}
use Rattle.protocol.specs.Headers.{send_with, Accepted, Heads}
use Rattle.protocol.specs.Ids.{Id, Dialect, Table, under, Sound, Legal, named, published}
use Rattle.protocol.specs.Layouts as LayoutFacts
use Rattle.protocol.specs.Lettered as LetterFacts
use Rattle.protocol.specs.Limits as LimitFacts
use Rattle.protocol.specs.Losses as LossFacts
use Rattle.protocol.specs.Messages.{Request, send, chunk, snd2, joined, bytes_of_request, pieces, HostWrites}
use Rattle.protocol.specs.Modes.{mode_in, octal, InOctal}
use Rattle.protocol.specs.Moments as MomentFacts
use Rattle.protocol.specs.Numbers as NumberFacts
use Rattle.protocol.specs.Reader as Plain
use Rattle.protocol.specs.Reader.{Config, writes, plain_call, plain_made, writes_made, plain_answers, plain_writes}
use Rattle.protocol.specs.Received as ReceiveFacts
use Rattle.protocol.specs.Records.{id_at, arg_at}
use Rattle.protocol.specs.Refusals.{Row, rows, setting_at, PathsRefused}
use Rattle.protocol.specs.Replies as ReplyFacts
use Rattle.protocol.specs.Requests.{more, refused, request, with_mode, read_request}
use Rattle.protocol.specs.Trials.{Trial, trials}
use Rattle.protocol.specs.Written as WriteFacts
use Rattle.protocol.proofs.Banners as Banners
use Rattle.protocol.proofs.Decimal as Decimal
use Rattle.protocol.proofs.Flags as Flags
use Rattle.protocol.proofs.Ids as Ids
use Rattle.protocol.proofs.Layouts as Layouts
use Rattle.protocol.proofs.Lettered as Lettered
use Rattle.protocol.proofs.Limits as Limits
use Rattle.protocol.proofs.Losses as Losses
use Rattle.protocol.proofs.Messages as Messages
use Rattle.protocol.proofs.Modes as Modes
use Rattle.protocol.proofs.Moments as Moments
use Rattle.protocol.proofs.Numbers as Numbers
use Rattle.protocol.proofs.Received as Received
use Rattle.protocol.proofs.Refusals as Refusals
use Rattle.protocol.proofs.Replies as Replies
use Rattle.protocol.proofs.Requests as Requests
use Rattle.protocol.specs.Unrefused as Unrefused
use Rattle.protocol.proofs.Unrefused as Writing
use Rattle.protocol.proofs.Trials as Trials
use Rattle.protocol.proofs.Written as Written
use Rattle.protocol_readers.specs.Wider.{widen, Unstopped, Like, unread_at}
use Rattle.protocol_readers.proofs.Wider as Wider
use Rattle.protocol_readers.specs.Compared.{Compared}
use Rattle.protocol_readers.proofs.Compared as Comparing
use Rattle.protocol_reads.specs.Facts as CountFacts
use Rattle.protocol_reads.specs.Reads.{ReadsCeiling}
use Rattle.protocol_reads.proofs.Ceiling as Ceiling
use Rattle.protocol_reads.proofs.Facts as CountRows
use Rattle.ids.specs.Ids.{dialect_of, ids_of}
use Rattle.ids.proofs.Laws as Numbered
use Rattle.text_lines.specs.Claim.{TextLines}
use Rattle.text_lines.specs.Facts as LineFacts
use Rattle.text_lines.proofs.Facts as LineRows
use Rattle.text_lines.proofs.Lines as Lines
use Rattle.id_table.specs.Claim.{IdTables}
use Rattle.id_table.specs.Facts as IdFacts
use Rattle.id_table.specs.IdsFile.{ids, ids_in}
use Rattle.id_table.specs.Settings.{table_from, lent_in}
use Rattle.id_table.specs.Lent as Lent
use Rattle.id_table.proofs.Facts as IdRows
use Rattle.id_table.proofs.Laws as Tables
use Rattle.hours.specs.Claim.{HoursFiles}
use Rattle.hours.specs.Facts as HourFacts
use Rattle.hours.specs.File.{hours_in}
use Rattle.hours.specs.Settings.{hours_bytes_in, settings_with, loaded_hours}
use Rattle.hours.specs.Slots.{hours_bytes, SlotsClaim}
use Rattle.hours.proofs.Facts as HourRows
use Rattle.hours.proofs.Laws as Hourly
use Rattle.hours.proofs.Slots as Slots
use Rattle.calendar.specs.Claim.{Calendar, Dating}
use Rattle.calendar.specs.Facts as DateFacts
use Rattle.calendar.proofs.Calendar as Days
use Rattle.calendar.proofs.Crossing as Dates
use Rattle.calendar.proofs.Facts as DateRows
use Rattle.recv_buf.specs.RecvBuf.{held_count, held_bytes, taken, filled, compacted, holding}
use Rattle.recv_buf.specs.declared.RecvBuf.{RecvBuf}
use Rattle.recv_buf.proofs.Laws as Buffer
use Rattle.request.specs.Meaning.{meant}
use Rattle.request.specs.declared.Request as Code
use Rattle.request.specs.declared.Request.TheVariants as Q
use Rattle.request.proofs.Letters as Letters
use Rattle.record.specs.Narrow.{U64, Narrow}
use Rattle.record.specs.Record.{stored, loaded}
use Rattle.record.proofs.Stored as Stored
use Rattle.request_refusal.proofs.Laws as Refusing
use Rattle.request_reader.specs.Answers as ReadFacts
use Rattle.request_reader.proofs.Answers as Reading
use Rattle.session.specs.Core.{show_of, core_system}
use Rattle.session.specs.Demand3.{unbounded, below, Claim}
use Rattle.session.specs.EveryHost.{EveryHost}
use Rattle.session.specs.Gate.{gated}
use Rattle.session.specs.Places as PlaceFacts
use Rattle.session.specs.Examples.{Examples}
use Rattle.session.specs.Resuming as ResumeFacts
use Rattle.session.specs.Scripted as LogFacts
use Rattle.session.specs.declared.Reply.{Reply}
use Rattle.session.specs.declared.Session.{Session}
use Rattle.session.proofs.Demand3 as Core
use Rattle.session.proofs.Places as Places
use Rattle.session.proofs.Examples as Logs
use Rattle.session.proofs.Resuming as Resuming
use Rattle.session.proofs.Scripted as Scripted
use Rattle.session_reads.specs.Counted.{EveryRead, SideReads}
use Rattle.session_reads.specs.Facts as ReadsFacts
use Rattle.session_reads.proofs.Claims as CoreReads
use Rattle.session_reads.proofs.Facts as ReadsRows
use Rattle.boundary.specs.Crossing.{cross_ids}
use Rattle.boundary.specs.Crossings as CrossFacts
use Rattle.boundary.specs.Heard.{heard}
use Rattle.boundary.specs.Told.{reply_number, reply_bytes, out_size}
use Rattle.boundary.proofs.Crossings as Crossings
use Rattle.boundary.proofs.Heard as Heard
use Rattle.boundary.proofs.Narrow.{NarrowReply}
use Rattle.boundary_parts.specs.Bounds.{PartsInside}
use Rattle.boundary_misuse.specs.Cases as CaseFacts
use Rattle.boundary_misuse.specs.Misuse.{done_by}
use Rattle.boundary_misuse.specs.Settled.{SettledClaim}
use Rattle.boundary_misuse.proofs.Cases as Cases
use Rattle.totals.specs.Crossing.{limit}
use Rattle.totals.specs.Facts as CardFacts
use Rattle.totals.specs.Logged.{CardLogged, SideCards}
use Rattle.totals.specs.Replied.{ReadsTold, SideTold}
use Rattle.totals.proofs.Facts as CardRows
use Rattle.hours_totals.specs.Claim.{TimedCard, TimedMisuse, TimedCount, HoursKept}
use Rattle.hours_totals.specs.Crossing.{timed_open}
use Rattle.hours_totals.specs.Facts as TimedFacts
use Rattle.hours_totals.specs.Refusals as ClosedFacts
use Rattle.hours_totals.specs.System.{timed_functions, timed_totals}
use Rattle.hours_totals.proofs.Card as Card
use Rattle.hours_totals.proofs.Claim as Timed
use Rattle.hours_totals.proofs.Facts as TimedRows
use Rattle.hours_totals.proofs.Logged as Logged
use Rattle.hours_totals.proofs.Misuse as Misuse
use Rattle.hours_totals.proofs.Refusals as ClosedRows
use Rattle.hours_totals.proofs.Replied as Replied
use Rattle.hours_totals.proofs.Steps as Steps
use Rattle.time_index.specs.Claim.{IndexClaim}
use Rattle.time_index.specs.Facts as IndexFacts
use Rattle.time_index.specs.Logged.{LoggedClaim}
use Rattle.time_index.proofs.Facts as IndexRows
use Rattle.time_index.proofs.Index as Indexed
use Rattle.time_index.proofs.Logged as IndexLogged
use Rattle.panel_reply.specs.Facts as SpeechFacts
use Rattle.panel_reply.proofs.Facts as SpeechRows
use Rattle.panel_side.specs.Crossings as PanelFacts
use Rattle.panel_side.proofs.Crossings as PanelRows
use Rattle.panel_side.specs.Claim.{PanelClaim}
use Rattle.panel_side.specs.Facts as ReadBackFacts
use Rattle.panel_side.proofs.Facts as ReadBackRows
use Rattle.panel_side.proofs.ReadBack as ReadBack
use Rattle.claims.specs.WholeSlots as SlotFacts
use Rattle.claims.proofs.Loading as Loading
use Rattle.claims.proofs.WholeSlots as SlotRows

-- ---- the exported functions

-- demand 3, sentence by sentence (session/specs/Demand3), of sessions that receive and write fewer than 2^64 bytes
pub demand_3 : Claim (below limit) timed_totals
demand_3 = Timed.demand_3_timed

-- any host, also one whose reads, writes and close come to faults (session/specs/EveryHost, Faithful)
pub every_host : EveryHost (below limit) timed_totals
every_host = Timed.every_host_timed

-- ... the reads of each call: as many as the plain reader counts, given how long each was; and but for 12 and 13 at most 8 more than the bytes that
-- it consumed (session_reads/specs/Counted, over protocol_reads/specs/Reads)
pub every_read : EveryRead (below limit) timed_totals
every_read = Timed.every_read_timed

-- ... of a side of demand 3, in one list
pub side_reads : SideReads (below limit) timed_totals
side_reads = Timed.side_reads_timed

-- "Carry in each finished call's answer how many reads it accepted, one that reports an error not counted": the reads in the last reply of each call are those that
-- the log has of it, of a refused call none (totals/specs/Replied)
pub reads-told : ReadsTold timed_functions timed_totals
reads-told = Replied.reads-told

-- ... "equal to the count in the reader's definition under the given read lengths": of a side of demand 3, in one list
pub side_told : SideTold timed_functions timed_totals
side_told = Replied.side_told

-- files of ids: every table's loads, no other does, and what is loaded or lent is what a session keeps (id_table/specs/Claim)
pub id-tables : IdTables
id-tables = Tables.id-tables

-- files of hours: every legal hours' loads, no other does; "the old hours kept"; hours and ids are loaded each beside the other (hours/specs/Claim)
pub hours-files : HoursFiles
hours-files = Hourly.hours-files

-- ... as 32 bytes, and back (hours/specs/Slots)
pub hours-bytes : SlotsClaim
hours-bytes = Slots.slots

-- settings that a file was loaded into open as its table, with the hours that stand there
pub loaded-opens : (settings file : List ℕ) → (cross_ids settings file).1 ≡ 0 → (h : Option Hours) → Kept h → hours_bytes_in settings ≡ hours_bytes h
    → (values : List (List ℕ)) × (ids_in file ≡ ids values)
    × ((rec banner : List ℕ) (rx msg : ℕ) → timed_open rec (cross_ids settings file).0 banner rx msg ≡ timed_open rec (settings_with (table_from values) h) banner rx msg)
loaded-opens = Loading.loaded-opens

-- ... and as its hours, with the table that stands there
pub hours-loaded_open : (settings file : List ℕ) → (loaded_hours settings file).1 ≡ 0 → (t : Table) → Legal t → lent_in settings ≡ Lent.Ids (ids_of t)
    → (h : Hours) × (hours_in file ≡ some h)
    × ((rec banner : List ℕ) (rx msg : ℕ) → timed_open rec (loaded_hours settings file).0 banner rx msg ≡ timed_open rec (settings_with t (some h)) banner rx msg)
hours-loaded_open = Loading.hours-loaded_open

-- "give the Gregorian date of each moment, and show that dates and day numbers determine each other" (calendar/specs/Claim): of every day number; and of the bytes
-- that a host reads
pub calendar : Calendar
calendar = Days.calendar

pub dating : Dating
dating = Dates.dating

-- an index beside a listing, of every list of replies: what it holds, what it answers, what it turns away (time_index/specs/Claim)
pub index_claim : IndexClaim
index_claim = Indexed.index_claim

-- ... and beside demand 3's logs: it holds what the plain reader's answers make it hold (time_index/specs/Logged)
pub index_logged : LoggedClaim (below limit) timed_totals
index_logged = IndexLogged.logged-claim (below limit) timed_totals demand_3

-- the panel's side: every reply is said under every table, but for those that are too long; what is said is read back by the calls that it
-- belongs to, however the cable cuts it; and what a host writes is heard (panel_side/specs/Claim)
pub panel_claim : PanelClaim (below limit) timed_totals
panel_claim = ReadBack.panel_claim (below limit) timed_totals demand_3

-- every list of calls and reports: what is misplaced is refused by the table, then 25 of a push start outside the hours, 21 of a report, and nothing else is; and the
-- record shows the totals at every moment (totals/specs/Card)
pub card : TimedCard
card = Card.timed-card

-- ... and when a call of a log is over: received is what has come, consumed what the plain reader leaves no longer unread, written the length of what went out, and
-- the reads those of the call (totals/specs/Logged)
pub card_logged : CardLogged timed_functions timed_totals
card_logged = Logged.card_logged

-- ... of a side of demand 3, as the plain reader has it
pub side_cards : SideCards timed_functions timed_totals
side_cards = Logged.side_cards

-- the reads in a reply that tells an answer are the record's, and a refusal has none, on any record (totals/specs/Claim)
pub count-told : TimedCount
count-told = Steps.count-told

-- opening, by its table, 24 behind it; the calls by their numbers; a refusal leaves any record unchanged (totals/specs/Claim)
pub misuse : TimedMisuse
misuse = Misuse.timed-misuse

-- no call and no report writes over what opening wrote: both lengths, the features, the ids (boundary_misuse/specs/Settled)
pub settled-stays : SettledClaim (done_by timed_functions)
settled-stays = Steps.settled-stays

-- ... "A session keeps the hours it opened with" (hours_totals/specs/Claim)
pub hours-kept : HoursKept
hours-kept = Steps.hours-kept

-- no reply names a part outside its slice, whoever wrote the record (boundary_parts/specs/Bounds)
pub parts-inside : PartsInside timed_functions
parts-inside = Steps.parts-inside

-- what the host hears of a reply, in any slice that holds one, is what the reply says
pub heard-told : (out : List ℕ) → out_size ≤ length out → (c l : ℕ) → U64 c → U64 l → (rx msg : List ℕ) (r : Reply) → NarrowReply c l r
    → heard (reply_number r) (put out 0 (reply_bytes r)) rx msg ≡ show_of rx msg r
heard-told = Heard.heard-told

-- a session that was stored in the record is loaded again
pub loaded-stored : (s : Session) → Narrow s → loaded (stored s) ≡ some s
loaded-stored = Stored.loaded-stored

-- ---- the session's own steps, behind the gate (session/specs/Gate)

pub core-claim : Claim unbounded (gated core_system)
core-claim = Core.core-claim

pub core-hosts : EveryHost unbounded (gated core_system)
core-hosts = Core.core-hosts

pub core-reads : EveryRead unbounded (gated core_system)
core-reads = CoreReads.core-reads

-- ---- the plain reader's reads

-- "every call ending in anything but 12 or 13 accepted at most 8 more reads than bytes it consumed": of any call, on any bytes, any of which have come,
-- whatever the reads and the report of its writes (protocol_reads/specs/Reads)
pub reads-ceiling : ReadsCeiling
reads-ceiling = Ceiling.reads-ceiling

-- ---- two plain readers, with capacities c ≤ d

pub before : (d : ℕ) (e e' : End) (x : List ℕ) (h : Option Hours) (g : Config) (ms : List Made) (u : List ℕ) → 8 ≤ g.capacity → g.capacity ≤ d
    → (k : ℕ) → k < length ms → Unstopped (plain_answers h g e ms u) k
    → Like g.capacity (arg_at (unread_at h g e ms u k)) (get_or (plain_answers h g e ms u) k A.done) (get_or (plain_answers h (widen d g) e' ms (u ++ x)) k A.done)
before = Wider.before

pub uncut : (d : ℕ) (e e' : End) (x : List ℕ) (h : Option Hours) (g : Config) (ms : List Made) (u : List ℕ) → 8 ≤ g.capacity → g.capacity ≤ d
    → (k : ℕ) → k < length ms → Unstopped (plain_answers h g e ms u) k → arg_at (unread_at h g e ms u k) ≤ g.capacity
    → get_or (plain_answers h g e ms u) k A.done ≡ get_or (plain_answers h (widen d g) e' ms (u ++ x)) k A.done
uncut = Wider.uncut

pub writes-same : (h : Option Hours) (g : Config) (d : ℕ) (ms : List Made) → plain_writes h (widen d g) ms ≡ plain_writes h g ms
writes-same = Wider.writes-same

pub answers-length : (h : Option Hours) (g : Config) (e : End) (ms : List Made) (u : List ℕ) → length (plain_answers h g e ms u) ≡ length ms
answers-length = Wider.answers-length

-- every call meets its refusals in their order, 25 behind 6 to 10, and is answered and written by no other (protocol/specs/Moments)
pub meets_refusals : (h : Option Hours) (g : Config) (e : End) (m : Made) (u : List ℕ) → MomentFacts.MeetsRefusals h g e m u
meets_refusals = Moments.meets_refusals

-- "or none, when every moment will do": a call is then as it is without a moment
pub no-hours : (g : Config) (e : End) (m : Made) (u : List ℕ) → (plain_made none g e m u ≡ plain_call g e Plain.accepted m.call u) × (writes_made none g m ≡ writes g m.call)
no-hours g e m u = (refl, refl)

-- ---- the panel's request reader, for any ids that are apart

-- "What the host writes is read back as meant", with any bytes behind it
pub read_back_lem : (d : Dialect) → Sound d → d.longest + 11 < 0x1_0000_0000 → (q : Request) → HostWrites d q → (rest : List ℕ)
    → read_request d (bytes_of_request d q ++ rest) ≡ request q (length (bytes_of_request d q))
read_back_lem = Requests.read_back_lem

-- a call that is not refused writes only messages that are read back
pub unrefused-writes : (g : Setting) (q : Call) → refusal g q ≡ none → Unrefused.Narrow q → Unrefused.AllWritten g.dialect (messages q)
unrefused-writes = Writing.unrefused-writes

-- "what is accepted is what the host would write, but for DATA of length 0", and in its bytes, but for modes in octal; "reading back and
-- writing again yields the same request, and equal bytes exactly where the mode came in decimal"
pub accepted : (d : Dialect) → Sound d → (s : List ℕ) → Bytes s → (q : Request) (n : ℕ) → read_request d s ≡ request q n → Accepted d s q n
accepted = Requests.accepted

-- a SEND whose mode stands in any text without a comma
pub mode-read : (d : Dialect) → Sound d → d.longest + 13 < 0x1_0000_0000 → (p text : List ℕ) → has 44 text ≡ false
    → length p + 1 + length text ≤ d.longest + 13 → (rest : List ℕ)
    → read_request d (send_with d p text ++ rest) ≡ with_mode d p (length (send_with d p text)) (mode_in text)
mode-read = Requests.mode-read

-- ... in "a leading 0 followed by one to eleven octal digits": it is read as it is meant; every u32 has a text of this form
pub octal-read : (d : Dialect) → Sound d → d.longest + 13 < 0x1_0000_0000 → (p text : List ℕ) (m : ℕ) → HostWrites d (send p m) → InOctal text m
    → (rest : List ℕ) → read_request d (send_with d p text ++ rest) ≡ request (send p m) (length (send_with d p text))
octal-read = Requests.octal-read

pub octal-length : (m : ℕ) → m < 0x1_0000_0000 → length (octal m) ≤ 11
octal-length = Modes.octal-length

pub empty-data : (d : Dialect) → Sound d → d.longest + 11 < 0x1_0000_0000 → (rest : List ℕ)
    → read_request d (bytes_of_request d (chunk []) ++ rest) ≡ request (chunk []) (length (bytes_of_request d (chunk [])))
empty-data = Requests.empty-data

-- "more" and 18, in these cases
pub more-short : (d : Dialect) (s : List ℕ) → length s < 8 → read_request d s ≡ more
more-short = Requests.more-short

pub refused-header : (d : Dialect) → Sound d → (s : List ℕ) → 8 ≤ length s
    → ((i : Id) (size : ℕ) → id_at s ≡ d.bytes i → Heads d (arg_at s) i size → ⊥) → read_request d s ≡ refused
refused-header = Requests.refused-header

pub more-until_whole : (d : Dialect) → Sound d → (s : List ℕ) → 8 ≤ length s → (i : Id) (size : ℕ) → id_at s ≡ d.bytes i → Heads d (arg_at s) i size
    → length s < size → read_request d s ≡ more
more-until_whole = Requests.more-until_whole

pub whole-answered : (d : Dialect) → Sound d → (s : List ℕ) → 8 ≤ length s → (i : Id) (size : ℕ) → id_at s ≡ d.bytes i → Heads d (arg_at s) i size
    → Bytes s → size ≤ length s → (read_request d s ≡ refused) ⊎ ((q : Request) × (read_request d s ≡ request q size))
whole-answered = Requests.whole-answered

-- ---- the same under every table that loading accepts, where the session has it as eight numbers

pub dialect-kept : (t : Table) → Legal t → dialect_of (ids_of t) ≡ under t
dialect-kept = Numbered.dialect-back

pub legal-sound : (t : Table) → Legal t → Sound (under t)
legal-sound = Ids.legal-sound

-- ---- files of lines: fields joined by commas, lines ended by byte 10

pub text-lines : TextLines
text-lines = Lines.text-lines

-- ---- the tables: what the definitions compute, beside what the documents say

pub trials-hold : map (λ (t : Trial). t.computed) trials ≡ map (λ (t : Trial). t.paper) trials
trials-hold = Trials.trials-hold

pub refusals-hold : map (λ (r : Row). refusal (setting_at r) r.made) rows ≡ map (λ (r : Row). r.paper) rows
refusals-hold = Refusals.refusals-hold

-- what a request is refused for knows no letters of a table, nor whether the session has ended
pub refusals-alike : (t u : Table) (fs : List Bool) (e f : Bool) (q : Request)
    → request_refusal (record { dialect = under t; features = fs; ended = e }) q ≡ request_refusal (record { dialect = under u; features = fs; ended = f }) q
refusals-alike = Refusing.alike

-- 8, then 7, of every path in every request, at every limit
pub paths-refused : PathsRefused
paths-refused = Refusals.paths-refused

-- the plain reader: replies of every kind; lost pushes, failed writes, quit; lists of calls
pub replies-hold : Hold ReplyFacts.replies
replies-hold = Replies.replies-hold

pub losses-hold : Hold LossFacts.losses
losses-hold = Losses.losses-hold

pub lists-hold : Hold LossFacts.lists × Hold LossFacts.goes_on
lists-hold = Losses.lists-hold

-- what each call writes, and in which pieces
pub writing-holds : Hold WriteFacts.writing
writing-holds = Written.writing-holds

pub going-holds : Hold WriteFacts.going
going-holds = Written.going-holds

-- banners and their features: rows, and laws of every banner
pub banners-hold : map (λ (r : BannerFacts.Row). features_of r.banner) BannerFacts.banners ≡ map BannerFacts.paper BannerFacts.banners
banners-hold = Banners.banners-hold

pub banners-read : BannerFacts.BannersRead
banners-read = Banners.banners-read

-- the same under other ids: what is written and in which pieces, requests read, replies, lists of calls
pub letters-hold : Hold LetterFacts.written_under × Hold LetterFacts.pieces_under × Hold LetterFacts.read_under
letters-hold = (Lettered.written_under-hold, Lettered.pieces_under-hold, Lettered.read_under-hold)

pub replies-under_hold : Hold LetterFacts.answered_under × Hold LetterFacts.listed_under
replies-under_hold = (Lettered.answered_under-hold, Lettered.listed_under-hold)

-- files of lines and of ids, settings
pub lines-hold : Hold LineFacts.reading × Hold LineFacts.writing
lines-hold = LineRows.lines-hold

pub files_hold : Hold IdFacts.taken × Hold IdFacts.malformed × Hold IdFacts.doubled
files_hold = (IdRows.taken-hold, IdRows.malformed-hold, IdRows.doubled-hold)

pub settings-hold : Hold IdFacts.settings × Hold IdFacts.lending
settings-hold = (IdRows.settings-hold, IdRows.lending-holds)

-- the index: which answers are entries and of which time, what is held and answered, between two times and the latest
pub index_holds : Hold IndexFacts.offers × Hold IndexFacts.times × Hold IndexFacts.holding × Hold IndexFacts.answering
index_holds = (IndexRows.offers-hold, IndexRows.times-hold, IndexRows.holding-holds, IndexRows.answering-holds)

pub queries_hold : Hold IndexFacts.spans × Hold IndexFacts.latests
queries_hold = (IndexRows.spans-hold, IndexRows.latests-hold)

-- ... its limits and its bytes
pub slots-hold : Hold IndexFacts.rooms × Hold IndexFacts.slots × Hold IndexFacts.ranks × Hold IndexFacts.told × Hold IndexFacts.seeking
slots-hold = (IndexRows.rooms-hold, IndexRows.slots-hold, IndexRows.ranks-hold, IndexRows.told-holds, IndexRows.seeking-holds)

pub asking_holds : Hold SlotFacts.indexes × Hold SlotFacts.opening × Hold SlotFacts.asking
asking_holds = (SlotRows.indexes-hold, SlotRows.opening-holds, SlotRows.asking_holds)

pub adding-holds : Hold IndexFacts.adding × Hold IndexFacts.turned × Hold IndexFacts.keeping × Hold IndexFacts.crossing
adding-holds = (IndexRows.adding-holds, IndexRows.turned-hold, IndexRows.keeping-holds, IndexRows.crossing-holds)

-- what the panel says: the bytes of each reply, under other ids too; what is too long; what a buffer becomes
pub speech_holds : Hold SpeechFacts.replies × Hold SpeechFacts.lettered × Hold SpeechFacts.limits × Hold SpeechFacts.lengths × Hold SpeechFacts.buffers
speech_holds = (SpeechRows.replies-hold, SpeechRows.lettered-holds, SpeechRows.limits-hold, SpeechRows.lengths-hold, SpeechRows.buffers-hold)

-- ... by its kind and its numbers, as it crosses; and a request that is heard
pub crossings-hold : Hold PanelFacts.kinds × Hold PanelFacts.passed × Hold PanelFacts.widths × Hold PanelFacts.speaking × Hold PanelFacts.turned_away
    × Hold PanelFacts.heard_facts × Hold PanelFacts.unheard
crossings-hold = (
  PanelRows.kinds-hold,
  PanelRows.passed-hold,
  PanelRows.widths-hold,
  PanelRows.speaking-holds,
  PanelRows.turned_away-hold,
  PanelRows.heard-hold,
  PanelRows.unheard-hold,
)

-- ... which capacity each wants, and what it is read as
pub read_back-holds : Hold ReadBackFacts.capacities × Hold ReadBackFacts.answers
read_back-holds = (ReadBackRows.capacities-hold, ReadBackRows.answers-hold)

-- reads: of lists of calls, of writes that are not accepted, which answers come by the link, the ceiling; of logs
pub counts-hold : Hold CountFacts.turns × Hold CountFacts.ceilings × Hold CountFacts.broken × Hold CountFacts.turned_away × Hold CountFacts.endings × CountFacts.Ceilings
counts-hold = (CountRows.turns-hold, CountRows.ceilings-hold, CountRows.broken-hold, CountRows.turned_away-hold, CountRows.endings-hold, CountRows.ceilings-mean)

pub logged-reads : Hold ReadsFacts.reads × ReadsFacts.Counting × ReadsFacts.Ceiling
logged-reads = (ReadsRows.reads-hold, ReadsRows.counting, ReadsRows.ceiling)

-- the card: what each event adds, what is refused, where the numbers lie; sessions, moment by moment
pub sums-hold : Hold CardFacts.added × Hold CardFacts.refusals × Hold CardFacts.places × Hold CardFacts.opening
sums-hold = (CardRows.added-hold, CardRows.refusals-hold, CardRows.places-hold, CardRows.opening-holds)

pub card_runs_hold : Hold CardFacts.stats × Hold CardFacts.pulls × Hold CardFacts.pushes × Hold CardFacts.drains × Hold CardFacts.closes × Hold CardFacts.overs × Hold CardFacts.replies
card_runs_hold = (
  CardRows.stats-hold,
  CardRows.pulls-hold,
  CardRows.pushes-hold,
  CardRows.drains-hold,
  CardRows.closes-hold,
  CardRows.overs-hold,
  CardRows.replies-hold,
)

-- ... the plain reader's consumed and written, and which numbers of a record are compared with them
pub plain_cards-hold : Hold CardFacts.plains × Hold CardFacts.showings
plain_cards-hold = (CardRows.plains-hold, CardRows.showings-hold)

-- ... what shows the sums and what does not, at any moment and when a call is over; how many bytes the comparisons' bound lets through
pub card_words : CardFacts.Shown × CardFacts.Momentary × CardFacts.Ended × CardFacts.Bounded
card_words = (CardRows.shown, CardRows.momentary, CardRows.ended, CardRows.bounded)

-- moments within hours and outside them, and 25 in the order of refusals; a list of calls as they are made, its answers and its bytes
pub hours-hold : Hold MomentFacts.moments × Hold MomentFacts.order × Hold MomentFacts.answered × Hold MomentFacts.wrote
hours-hold = (Moments.moments-hold, Moments.order-holds, Moments.answered-hold, Moments.wrote-hold)

-- ... of every call at every moment: 25 of every push start outside the hours, behind all else, and of no other call (protocol/specs/Moments)
pub made_at : MomentFacts.MadeAt
made_at = Moments.made_at

-- ... days of 1,440 minutes from a Thursday on, each with the next weekday
pub clock : MomentFacts.Clock
clock = Moments.clock

-- ... files of hours, their bytes, and whether a push may start
pub hours-files_hold : Hold HourFacts.taken × Hold HourFacts.refused × Hold HourFacts.loading × Hold HourFacts.lending × Hold HourFacts.starting
hours-files_hold = (HourRows.taken-hold, HourRows.refused-hold, HourRows.loading-hold, HourRows.lending-hold, HourRows.starting-hold)

-- ... what opening answers and writes; starts at some moments, their replies, and what they leave; 25 in the table of misuse
pub hours-run_hold : Hold TimedFacts.opening × Hold TimedFacts.written × Hold TimedFacts.pushes × Hold TimedFacts.kept × Hold TimedFacts.lengths × Hold TimedFacts.replies × Hold ClosedFacts.refusals
hours-run_hold = (TimedRows.opening-holds, TimedRows.written-holds, TimedRows.pushes-hold, TimedRows.kept-holds, TimedRows.lengths-hold, TimedRows.replies-hold, ClosedRows.refusals-hold)

-- ... and of every call: 25 stands in that table where the plain reader has it
pub as_reader : ClosedFacts.AsReader
as_reader = ClosedRows.as_reader

-- leap years and months, dates, day numbers and weekdays on both sides of each rule; moments; what a host reads of them
pub dates-hold : Hold DateFacts.leaps × Hold DateFacts.dates × Hold DateFacts.month_ends × Hold DateFacts.leap_month_ends × Hold DateFacts.days × Hold DateFacts.month_end_days
    × Hold DateFacts.weekdays × Hold DateFacts.moments × Hold DateFacts.crossings × Hold DateFacts.slices
dates-hold = (
  DateRows.leaps-hold,
  DateRows.dates-hold,
  DateRows.month_ends-hold,
  DateRows.leap_month_ends-hold,
  DateRows.days-hold,
  DateRows.month_end_days-hold,
  DateRows.weekdays-hold,
  DateRows.moments-hold,
  DateRows.crossings-hold,
  DateRows.slices-hold,
)

-- the panel's request reader, decimals, modes, the ids
pub receiving-holds : Hold ReceiveFacts.receiving
receiving-holds = Received.receiving-holds

pub decimals-hold : Hold ReceiveFacts.decimals
decimals-hold = Received.decimals-hold

pub modes-hold : Hold ReceiveFacts.modes × Hold ReceiveFacts.octals
modes-hold = Received.modes-hold

pub ids-hold : Hold ReceiveFacts.spelt × Hold ReceiveFacts.found
ids-hold = Received.ids-hold

pub readings_hold : Hold ReadFacts.numbers × Hold ReadFacts.meanings
readings_hold = Reading.answers-hold

-- the answers' numbers, flag words, the limits of paths and data
pub told-holds : Hold NumberFacts.told
told-holds = Numbers.told-holds

pub words-hold : Hold NumberFacts.words
words-hold = Numbers.words-hold

pub limits : (t : Table) → LimitFacts.Limits t
limits = Limits.limits

pub lengths-hold : Hold LimitFacts.lengths
lengths-hold = Limits.lengths-hold

-- when a call compacts, where its windows lie, how its pieces go out, what it closes, which text it keeps; a code's answer on paper
pub moments-hold : Hold PlaceFacts.moments
moments-hold = Places.moments-hold

pub places-hold : Hold PlaceFacts.places
places-hold = Places.places-hold

pub pieces-hold : Hold PlaceFacts.pieces × Hold PlaceFacts.closes
pieces-hold = Places.pieces-hold

pub texts-hold : Hold PlaceFacts.texts
texts-hold = Places.texts-hold

pub answers-hold : Hold PlaceFacts.answers
answers-hold = Places.answers-hold

-- a path over the limit that is pending, in the session and across the boundary
pub resuming-holds : Hold ResumeFacts.resuming
resuming-holds = Resuming.resuming-holds

pub long_pending-hold : Hold CrossFacts.long_pending
long_pending-hold = Crossings.long_pending-hold

-- what the host logs of a session; logs that the claim of every host takes, and logs with one thing wrong; two answers compared
pub logs-hold : Hold LogFacts.logs
logs-hold = Scripted.logs-hold

pub examples : Examples
examples = Logs.examples

pub compared : Compared
compared = Comparing.compared

-- what crosses to the host, and what is misplaced
pub passed-hold : Hold CrossFacts.passed × Hold CrossFacts.sizes
passed-hold = Crossings.passed-hold

pub heard-hold : Hold CrossFacts.heard_facts
heard-hold = Crossings.heard-hold

pub cases-hold : Hold CaseFacts.cases
cases-hold = Cases.cases-hold

pub afterwards-hold : Hold CaseFacts.afterwards
afterwards-hold = Cases.afterwards-hold

-- ... of every width: the card and misuse speak of every moment of 32 bits
pub widths : CaseFacts.Widths
widths = Cases.widths

-- bytes and the numbers that they spell; records field by field; flag words
pub little_endian : Hold LayoutFacts.read_numbers × Hold LayoutFacts.written_numbers × Hold LayoutFacts.signs
little_endian = Layouts.little_endian

pub layouts : Hold LayoutFacts.entries × Hold LayoutFacts.entries2
layouts = Layouts.layouts

pub refusals : map (λ w. (refused_flags false w.0, refused_flags true w.0)) Flags.words ≡ map (λ w. w.1) Flags.words
refusals = Flags.refusals

-- the letters that each request's message begins with
pub letters-first : map (λ (q : Code.Request). take 4 (bytes_of_request published (meant q []))) Letters.requests
    ≡ ascii "STAT" ∷ ascii "STA2" ∷ ascii "LIST" ∷ ascii "LIS2" ∷ ascii "RECV" ∷ ascii "RCV2" ∷ ascii "SEND" ∷ ascii "SND2" ∷ ascii "DATA" ∷ ascii "DONE" ∷ ascii "QUIT" ∷ []
letters-first = Letters.letters-first

pub adjacent_words : meant (Q.Snd2 (record { 0 = 1 }) (record { 0 = 2 })) [] ≡ snd2 [] 1 2
adjacent_words = Letters.adjacent_words

-- ---- laws of the definitions

-- a number and its digits
pub canonical-decimal : (n : ℕ) → n < 0x1_0000_0000 → canonical (decimal n) ≡ some n
canonical-decimal = Decimal.canonical-decimal

pub decimal-canonical : (t : List ℕ) (n : ℕ) → canonical t ≡ some n → (t ≡ decimal n) × (n < 0x1_0000_0000)
decimal-canonical = Decimal.decimal-canonical

-- the fifteen ids have four letters each and are apart; each is found by its own
pub published-sound : Sound published
published-sound = Ids.published-sound

pub named-own : (d : Dialect) → Sound d → (i : Id) → named d (d.bytes i) ≡ some i
named-own = Ids.named-own

-- whatever the cut, the same bytes go out
pub pieces-joined : (d : Dialect) (free : ℕ) (q : Request) → joined (pieces d free q) ≡ bytes_of_request d q
pieces-joined = Messages.pieces-joined

-- what take, fill, compaction and "to hold n bytes" do to the held bytes
pub taken-drops : (b : List ℕ) (c : RecvBuf) → Buffer.Sound b c → (n : ℕ) → n ≤ held_count c → held_bytes b (taken c n) ≡ drop n (held_bytes b c)
taken-drops = Buffer.taken-drops

pub filled-appends : (b : List ℕ) (c : RecvBuf) → Buffer.Sound b c → (n : ℕ) → c.tail + n ≤ length b
    → held_bytes b (filled c n (length b)) ≡ held_bytes b c ++ take n (drop c.tail b)
filled-appends = Buffer.filled-appends

pub compacted-keeps : (b : List ℕ) (c : RecvBuf) → Buffer.Sound b c → held_bytes (compacted b c).0 (compacted b c).1 ≡ held_bytes b c
compacted-keeps = Buffer.compacted-keeps

pub compacted-behind : (b : List ℕ) (c : RecvBuf) → Buffer.Sound b c → drop (held_count c) (compacted b c).0 ≡ drop (held_count c) b
compacted-behind = Buffer.compacted-behind

pub holding-meant : (b : List ℕ) (c : RecvBuf) (n : ℕ) → Buffer.Sound b c → Buffer.Meant b c n (holding b c n).0 (holding b c n).1
holding-meant = Buffer.holding-meant
