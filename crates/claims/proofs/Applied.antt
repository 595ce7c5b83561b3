-- Demand 3 and `every_host` at a host, a banner, two tables, hours, buffers and lists of calls, and `card` at two events: their hypotheses can be met. And logs,
-- computed, beside what the documents say.
-- Assumes nothing.
use Prim.Native.Nat.{ℕ, zero, suc, ◌<◌}
use mathlib.Core.Bool.{Bool, true, false, ◌&&◌, and-eq-true_iff}
use mathlib.Core.List.{List, [], ◌∷◌, ◌++◌, map}
use mathlib.Core.Option.{some, none}
use mathlib.Core.Path.{◌≡◌, refl}
use native.Mathlib.Omega.{arith}
use borrow.Author.Tests.{ltb-true}
use lib.Dec.{eqb, ltb}
use lib.ListN.{length}
use Rattle.protocol.specs.Answers.{closed, error}
use Rattle.protocol.specs.Bytes.{Bytes, ascii, number_at, over, put, pick}
use Rattle.protocol.specs.Digits.{digits}
use Rattle.protocol.specs.Reader.{accepted, writes, plain_writes}
use Rattle.protocol.specs.Ids.{letters, published}
use Rattle.protocol.proofs.Ids.{published-legal}
use Rattle.text_lines.specs.Lines.{lines_of as cut_lines}
use Rattle.id_table.specs.IdsFile.{ids, checked, ids_in, file_with}
use Rattle.id_table.specs.Settings.{table_from, lent_in}
use Rattle.id_table.proofs.Laws.{id-tables}
use Rattle.record.specs.Record.{stored, loaded}
use Rattle.session.specs.Demand3.{Opening, CodedFault, Side, reader, log_from, Demand3, below, Within}
use Rattle.session.specs.EveryHost.{CodedHost}
use Rattle.session.specs.Faithful.{Faithful}
use Rattle.boundary_misuse.specs.Misuse.{Act, start, report, has_read, Event, WideAct, Wide, opened}
use Rattle.totals.specs.Card.{no_sums, refused_by, EveryMoment}
use Rattle.totals.specs.Crossing.{limit, total_open, total_start, total_read, total_wrote, total_fault}
use Rattle.hours.specs.Settings.{settings_with, is_hours}
use Rattle.hours.specs.Slots.{slots_from, spans_from, hours_of}
use Rattle.hours_totals.specs.Crossing.{timed_size, timed_open, timed_start, timed_read, timed_wrote, timed_fault}
use Rattle.hours_totals.specs.System.{timed_functions, timed_totals}
use Rattle.protocol.specs.Calls.{Made, call, messages}
use Rattle.protocol.specs.Refusal.{path_refusal, request_refusal, refusal, refusal_at}
use Rattle.protocol.specs.Features.{rest_after, split, has_feature, features_of}
use Rattle.protocol.specs.Messages.{send, message_of, bytes_of_request}
use Rattle.protocol.specs.Records.{stat_at}
use Rattle.session.specs.Calls.{open_refusal, misfit, call_refusal, start_call}
use Rattle.session.specs.Host.{Entry, at_start, run, log_of}
use Rattle.session.specs.Phases.{wants, headed, turn_at}
use Rattle.session.specs.Reports.{report_refusal, read_in, read_at, report_read, wrote_at, report_wrote, fault_at, report_fault}
use Rattle.session.specs.Steps.{asked, kept, hopped, pumped}
use Rattle.session.specs.Sends.{carried, message_out, sent, resumed, wrote_on}
use Rattle.record.specs.Fields.{fields, session_of, known}
use Rattle.boundary.specs.Crossing.{cross_open, cross_start, cross_read, cross_wrote, cross_fault}
use Rattle.boundary.specs.Heard.{done_heard, answer_heard, heard}
use Rattle.boundary.specs.Told.{reply_number, reply_bytes}
use Rattle.recv_buf.specs.RecvBuf.{held_bytes, compacted}
use Rattle.request_piece.specs.Pieces.{piece_list, piece_of}
use Rattle.claims.specs.Example.{banner, small, replied, calls, dirty, host, lines_of, logged, stumbling, twice, stumbled, thursdays, pushes, turned}
use Rattle.claims.proofs.Claims.{demand_3, every_host, card, as_reader}

abbrev pub all_bytes : List ℕ → Bool
all_bytes [] = true
all_bytes (x ∷ s) = ltb x 256 && all_bytes s

pub below-bytes : (s : List ℕ) → all_bytes s ≡ true → Bytes s
below-bytes [] e i = omega arith
below-bytes (x ∷ s) e zero = ltb-true x 256 ((and-eq-true_iff (ltb x 256) (all_bytes s)).0 e).0
below-bytes (x ∷ s) e (suc i) = below-bytes s ((and-eq-true_iff (ltb x 256) (all_bytes s)).0 e).1 i

-- a receive buffer of c bytes, with these incoming
module _ (c : ℕ) (incoming : List ℕ) where
  abbrev pub side : length (dirty c) ≡ c → length (dirty c) < 0x1_0000 → all_bytes incoming ≡ true → Side timed_totals c accepted
  side l w b =
      record {
        x = dirty timed_size;
        placed = refl;
        rx = dirty c;
        msg = dirty c;
        host = host;
        incoming = incoming;
        capacity = l;
        room = omega arith;
        wide = omega arith;
        bytes = below-bytes incoming b;
        accepts = λ i. refl;
        reads = λ i. refl;
        lends = λ w. (omega arith, omega arith);
        closes = refl;
        coded = tt;
      }

-- the published ids, and others from a file
abbrev pub publishing : Opening
publishing = record { banner = banner; table = letters; legal = published-legal; hours = none; kept = tt }

pub small-read : ids_in (file_with small) ≡ ids small
unfolding ids_in cut_lines checked
small-read = refl

abbrev pub lowering : Opening
lowering = record { banner = banner; table = table_from small; legal = (id-tables.only (file_with small) small small-read).legal; hours = none; kept = tt }

abbrev pub A : (stat_id : List ℕ) → all_bytes (replied stat_id) ≡ true → Side timed_totals 16 accepted
A i b = side 16 (replied i) refl (omega arith) b

abbrev pub B : (stat_id : List ℕ) → all_bytes (replied stat_id ++ 0xFF ∷ []) ≡ true → Side timed_totals 20 accepted
B i b = side 20 (replied i ++ 0xFF ∷ []) refl (omega arith) b

-- fewer bytes than a total's limit come and are written
abbrev Few : Opening → (c : ℕ) → List Made → (incoming : List ℕ) → Type 0
Few o c ms incoming = Within (below limit) o.hours (reader o c accepted) ms incoming

applied : (o : Opening) (i : List ℕ) (a : all_bytes (replied i) ≡ true) (b : all_bytes (replied i ++ 0xFF ∷ []) ≡ true)
    → Few o 16 calls (replied i) → Few o 20 calls (replied i ++ 0xFF ∷ []) → Demand3 timed_totals o accepted calls 16 20 (A i a) (B i b)
applied o i a b f g = demand_3 o accepted calls 16 20 (omega arith) (omega arith) tt (omega arith, (omega arith, tt)) (A i a) (B i b) (0xFF ∷ []) refl f g

pub applied_published : Demand3 timed_totals publishing accepted calls 16 20 (A (ascii "STAT") refl) (B (ascii "STAT") refl)
unfolding plain_writes writes refusal request_refusal path_refusal messages message_of bytes_of_request
applied_published = applied publishing (ascii "STAT") refl refl (omega arith, omega arith) (omega arith, omega arith)

pub applied_lowered : Demand3 timed_totals lowering accepted calls 16 20 (A (ascii "stat") refl) (B (ascii "stat") refl)
unfolding plain_writes writes refusal request_refusal path_refusal messages message_of bytes_of_request
applied_lowered = applied lowering (ascii "stat") refl refl (omega arith, omega arith) (omega arith, omega arith)

-- Thursdays are open: a push of a Friday is turned away, and one of a Thursday goes out
abbrev working : Opening
working =
    record {
      banner = banner;
      table = letters;
      legal = published-legal;
      hours = thursdays;
      kept = record { spans = ((omega arith, (omega arith, omega arith)), tt); rises = tt };
    }

abbrev hourly : Side timed_totals 16 accepted
hourly = side 16 [] refl (omega arith) refl

pub applied_hourly : Demand3 timed_totals working accepted pushes 16 20 hourly (side 20 (0xFF ∷ []) refl (omega arith) refl)
unfolding plain_writes writes refusal request_refusal path_refusal messages message_of bytes_of_request digits
applied_hourly =
    demand_3 working accepted pushes 16 20 (omega arith) (omega arith) tt (omega arith, (omega arith, tt)) hourly (side 20 (0xFF ∷ []) refl (omega arith) refl)
    (0xFF ∷ []) refl (omega arith, omega arith) (omega arith, omega arith)

-- the other host
abbrev pub log : Opening → (stat_id : List ℕ) → List Entry
log o i =
    log_of timed_totals.engine stumbling twice (at_start (replied i)) (timed_totals.opened (dirty timed_size) o (dirty 16) (dirty 16)).x (dirty 16) (dirty 16)

pub coded : CodedHost stumbling
coded = record { reads = λ i. reads-coded (eqb i 8); writes = λ i. tt; close = tt; end = tt }
  where
    reads-coded : (b : Bool) → CodedFault (pick b (some (error 5)) none)
    reads-coded true = omega arith
    reads-coded false = tt

goes_on : (o : Opening) (i : List ℕ) → all_bytes (replied i) ≡ true → Few o 16 twice (replied i) → Faithful o.hours (reader o 16 accepted) closed twice (replied i) (log o i)
goes_on o i b f =
    (every_host o (dirty timed_size) (dirty 16) (dirty 16) refl (omega arith) (omega arith) (omega arith) stumbling coded (λ w. (omega arith, omega arith))
    twice (omega arith, (omega arith, tt)) (replied i) (below-bytes (replied i) b) f).1

pub published-goes_on : Faithful none (reader publishing 16 accepted) closed twice (replied (ascii "STAT")) (log publishing (ascii "STAT"))
unfolding plain_writes writes refusal request_refusal path_refusal messages message_of bytes_of_request
published-goes_on = goes_on publishing (ascii "STAT") refl (omega arith, omega arith)

pub lowered_goes_on : Faithful none (reader lowering 16 accepted) closed twice (replied (ascii "stat")) (log lowering (ascii "stat"))
unfolding plain_writes writes refusal request_refusal path_refusal messages message_of bytes_of_request
lowered_goes_on = goes_on lowering (ascii "stat") refl (omega arith, omega arith)

-- the card, of a stat that is started, and a read of no bytes where a write is awaited
abbrev started : Act → Event
started a = record { act = a; lent = ascii "/a"; rx = dirty 16; msg = dirty 16; out = dirty 120 }

wide : (a : Act) → WideAct a → Wide (started a)
wide a w = record { act = w; lent = omega arith; msg = omega arith; out = omega arith; rx = below-bytes (dirty 16) refl }

abbrev events : List Event
events = started (start 1 0 0 0) ∷ started (report (has_read 0)) ∷ []

pub carded : EveryMoment timed_functions none (opened banner 16 16) no_sums (timed_open (dirty timed_size) (settings_with letters none) banner 16 16).rec events
unfolding timed_open settings_with hours_of is_hours total_open cross_open open_refusal lent_in checked
carded =
    card (dirty timed_size) (settings_with letters none) banner 16 16 (omega arith) refl events
    (wide (start 1 0 0 0) (omega arith, (omega arith, omega arith)), (wide (report (has_read 0)) tt, tt))

-- .. of a push of a Friday and one of a Thursday, where Thursdays are open; and 25 of the first is the plain reader's
abbrev friday : Act
friday = start 7 1 0 86400

abbrev thursday : Act
thursday = start 7 1 0 86399

pub carded_hourly : EveryMoment timed_functions thursdays (opened banner 16 16) no_sums (timed_open (dirty timed_size) (settings_with letters thursdays) banner 16 16).rec
    (started friday ∷ started thursday ∷ [])
unfolding timed_open settings_with slots_from spans_from hours_of is_hours total_open cross_open open_refusal lent_in checked
carded_hourly =
    card (dirty timed_size) (settings_with letters thursdays) banner 16 16 (omega arith) refl (started friday ∷ started thursday ∷ [])
    (wide friday (omega arith, (omega arith, omega arith)), (wide thursday (omega arith, (omega arith, omega arith)), tt))

pub read_alike : refused_by thursdays (opened banner 16 16) no_sums (started friday)
    ≡ refusal_at thursdays (record { dialect = published; features = features_of banner; ended = false }) (record { call = call (send (ascii "/a") 1); moment = 86400 })
read_alike = as_reader thursdays (opened banner 16 16) no_sums (started friday) 7 1 0 86400 (call (send (ascii "/a") 1)) refl refl refl refl refl

-- the logs, computed, under either table, and with hours
pub logs-shown : (map lines_of (log_from timed_totals publishing calls (A (ascii "STAT") refl)) ≡ logged (ascii "STAT") (ascii "QUIT"))
    × (map lines_of (log publishing (ascii "STAT")) ≡ stumbled (ascii "STAT"))
    × (map lines_of (log_from timed_totals lowering calls (A (ascii "stat") refl)) ≡ logged (ascii "stat") (ascii "STAT"))
    × (map lines_of (log lowering (ascii "stat")) ≡ stumbled (ascii "stat"))
    × (map lines_of (log_from timed_totals working pushes hourly) ≡ turned)
unfolding timed_open timed_start timed_read timed_wrote timed_fault settings_with slots_from spans_from hours_of is_hours total_open total_start total_read total_wrote total_fault number_at over put messages path_refusal request_refusal rest_after split has_feature features_of message_of bytes_of_request stat_at open_refusal misfit call_refusal start_call run log_of wants headed turn_at report_refusal read_in read_at report_read wrote_at report_wrote asked kept hopped pumped carried message_out sent resumed wrote_on fields session_of known stored loaded cross_open cross_start cross_read cross_wrote done_heard answer_heard heard reply_number reply_bytes held_bytes compacted piece_list piece_of cross_fault report_fault fault_at lent_in checked digits
logs-shown = (refl, refl, refl, refl, refl)
