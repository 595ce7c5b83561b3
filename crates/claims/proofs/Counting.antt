-- The reads of each call, in logs and in replies, and the card in logs, at the hosts, tables and calls of `Applied`: their hypotheses can be met. And counts and totals,
-- computed, beside what the documents say: a stat whose reply comes a byte a read, and quit; a stat whose ninth read comes to an error, and one that goes on; a stat, and
-- one that is refused.
-- Assumes nothing.
use Prim.Native.Nat.{ℕ}
use mathlib.Core.List.{List, [], ◌∷◌, map}
use mathlib.Core.Option.{none}
use mathlib.Core.Path.{◌≡◌, refl}
use native.Mathlib.Omega.{arith}
use lib.ListN.{length, replicate}
use Rattle.protocol.specs.Answers.{closed}
use Rattle.protocol.specs.Bytes.{ascii, number_at, over, put}
use Rattle.protocol.specs.Calls.{Made, anytimes, call, messages}
use Rattle.protocol.specs.Features.{rest_after, split, has_feature, features_of}
use Rattle.protocol.specs.Messages.{stat, ask, message_of, bytes_of_request}
use Rattle.protocol.specs.Reader.{accepted, writes, plain_writes}
use Rattle.protocol.specs.Records.{stat_at}
use Rattle.protocol.specs.Refusal.{path_refusal, request_refusal, refusal}
use Rattle.protocol_reads.specs.Reads.{plain_reads}
use Rattle.id_table.specs.IdsFile.{checked}
use Rattle.id_table.specs.Settings.{lent_in}
use Rattle.record.specs.Fields.{fields, session_of, known}
use Rattle.record.specs.Record.{stored, loaded}
use Rattle.recv_buf.specs.RecvBuf.{held_bytes, compacted}
use Rattle.request_piece.specs.Pieces.{piece_list, piece_of}
use Rattle.session.specs.Calls.{open_refusal, misfit, call_refusal, start_call}
use Rattle.session.specs.Demand3.{reader, log_from}
use Rattle.session.specs.Host.{at_start, run, log_of}
use Rattle.session.specs.Phases.{wants, headed, turn_at}
use Rattle.session.specs.Reports.{report_refusal, read_in, read_at, report_read, wrote_at, report_wrote, fault_at, report_fault}
use Rattle.session.specs.Sends.{carried, message_out, sent, resumed, wrote_on}
use Rattle.session.specs.Steps.{asked, kept, hopped, pumped}
use Rattle.session_layer.specs.Layer.{ends_of}
use Rattle.session_reads.specs.Counted.{counts_of, lengths_of, Counted, UnderCeiling}
use Rattle.boundary.specs.Crossing.{Crossed, cross_open, cross_start, cross_read, cross_wrote, cross_fault}
use Rattle.boundary.specs.Heard.{done_heard, answer_heard, heard}
use Rattle.boundary.specs.Told.{reply_number, reply_bytes}
use Rattle.totals.specs.Card.{count_in}
use Rattle.totals.specs.Crossing.{received_of, reads_of, total_open, total_start, total_read, total_wrote, total_fault}
use Rattle.totals.specs.Logged.{CardsAt, plain_cards, shown_by, records_from}
use Rattle.totals.specs.Replied.{replying, no_reply, replies_from}
use Rattle.hours.specs.Settings.{settings_with, is_hours}
use Rattle.hours.specs.Slots.{slots_from, spans_from, hours_of}
use Rattle.hours_totals.specs.Crossing.{timed_size, timed_open, timed_start, timed_read, timed_wrote, timed_fault}
use Rattle.hours_totals.specs.System.{timed_functions, timed_totals}
use Rattle.claims.specs.Example.{replied, calls, dirty, stumbling, twice}
use Rattle.claims.proofs.Applied.{publishing, A, log, coded, below-bytes}
use Rattle.claims.proofs.Claims.{every_read, side_reads, reads-told, side_told, card_logged, side_cards}

-- ---- the hypotheses, met

pub counted-alike : (more : List ℕ) → counts_of (log_from timed_totals publishing calls (A (ascii "STAT") refl))
    ≡ plain_reads none (reader publishing 16 accepted) closed calls (replied (ascii "STAT")) 0 (lengths_of (log_from timed_totals publishing calls (A (ascii "STAT") refl)) more)
unfolding plain_writes writes refusal request_refusal path_refusal messages message_of bytes_of_request
counted-alike = side_reads publishing accepted calls 16 (omega arith) tt (omega arith, (omega arith, tt)) (A (ascii "STAT") refl) (omega arith, omega arith)

pub told-alike : (more : List ℕ) → map count_in (replies_from timed_functions timed_totals publishing calls (A (ascii "STAT") refl))
    ≡ plain_reads none (reader publishing 16 accepted) closed calls (replied (ascii "STAT")) 0 (lengths_of (log_from timed_totals publishing calls (A (ascii "STAT") refl)) more)
unfolding plain_writes writes refusal request_refusal path_refusal messages message_of bytes_of_request
told-alike = side_told publishing accepted calls 16 (omega arith) tt (omega arith, (omega arith, tt)) (A (ascii "STAT") refl) (omega arith, omega arith)

pub carded_alike : shown_by (records_from timed_functions timed_totals publishing calls (A (ascii "STAT") refl))
    ≡ plain_cards none (reader publishing 16 accepted) closed calls (length (replied (ascii "STAT"))) (replied (ascii "STAT")) []
unfolding plain_writes writes refusal request_refusal path_refusal messages message_of bytes_of_request
carded_alike = side_cards publishing accepted calls 16 (omega arith) tt (omega arith, (omega arith, tt)) (A (ascii "STAT") refl) (omega arith, omega arith)

-- the host whose ninth read comes to an error
abbrev records : List (List ℕ)
records =
    ends_of timed_totals.engine stumbling twice (at_start (replied (ascii "STAT"))) (timed_totals.opened (dirty timed_size) publishing (dirty 16) (dirty 16)).x (dirty 16) (dirty 16)

abbrev replies : List Crossed
replies =
    ends_of (replying timed_functions) stumbling twice (at_start (replied (ascii "STAT"))) (no_reply (timed_totals.opened (dirty timed_size) publishing (dirty 16) (dirty 16)).x) (dirty 16) (dirty 16)

pub counted-on : ((more : List ℕ) → Counted none (reader publishing 16 accepted) twice (replied (ascii "STAT")) 0 (lengths_of (log publishing (ascii "STAT")) more) more (log publishing (ascii "STAT")))
    × UnderCeiling (replied (ascii "STAT")) (log publishing (ascii "STAT"))
unfolding plain_writes writes refusal request_refusal path_refusal messages message_of bytes_of_request
counted-on =
    every_read publishing (dirty timed_size) (dirty 16) (dirty 16) refl (omega arith) (omega arith) (omega arith) stumbling coded (λ w. (omega arith, omega arith))
    twice (omega arith, (omega arith, tt)) (replied (ascii "STAT")) (below-bytes (replied (ascii "STAT")) refl) (omega arith, omega arith)

pub told-on : map count_in replies ≡ counts_of (log publishing (ascii "STAT"))
unfolding plain_writes writes refusal request_refusal path_refusal messages message_of bytes_of_request
told-on =
    reads-told publishing (dirty timed_size) (dirty 16) (dirty 16) refl (omega arith) (omega arith) (omega arith) stumbling coded (λ w. (omega arith, omega arith))
    twice (omega arith, (omega arith, tt)) (replied (ascii "STAT")) (below-bytes (replied (ascii "STAT")) refl) (omega arith, omega arith)

pub carded_on : CardsAt 16 0 0 0 (log publishing (ascii "STAT")) records
unfolding plain_writes writes refusal request_refusal path_refusal messages message_of bytes_of_request
carded_on =
    card_logged publishing (dirty timed_size) (dirty 16) (dirty 16) refl (omega arith) (omega arith) (omega arith) stumbling coded (λ w. (omega arith, omega arith))
    twice (omega arith, (omega arith, tt)) (replied (ascii "STAT")) (below-bytes (replied (ascii "STAT")) refl) (omega arith, omega arith)

-- ---- computed

-- the path of the second has a zero byte in it
abbrev zeroed : List Made
zeroed = anytimes (call (ask stat (ascii "/a")) ∷ call (ask stat (0 ∷ [])) ∷ [])

-- sixteen reads of a byte, then none; 16 bytes consumed, and 10 and 8 written. Eight reads of a byte and eight, of each of which nothing and then all is consumed. A refusal
-- tells no reads, and leaves the record's.
pub counts-shown : (counts_of (log_from timed_totals publishing calls (A (ascii "STAT") refl)) ≡ 16 ∷ 0 ∷ [])
    × (lengths_of (log_from timed_totals publishing calls (A (ascii "STAT") refl)) [] ≡ replicate 16 1)
    × (shown_by (records_from timed_functions timed_totals publishing calls (A (ascii "STAT") refl)) ≡ (16, 10) ∷ (16, 18) ∷ [])
    × (map reads_of (records_from timed_functions timed_totals publishing calls (A (ascii "STAT") refl)) ≡ 16 ∷ 0 ∷ [])
    × (map count_in (replies_from timed_functions timed_totals publishing calls (A (ascii "STAT") refl)) ≡ 16 ∷ 0 ∷ [])
    × (counts_of (log publishing (ascii "STAT")) ≡ 8 ∷ 8 ∷ [])
    × (shown_by records ≡ (0, 10) ∷ (16, 20) ∷ [])
    × (map received_of records ≡ 8 ∷ 16 ∷ [])
    × (map reads_of records ≡ 8 ∷ 8 ∷ [])
    × (map count_in replies ≡ 8 ∷ 8 ∷ [])
    × (map reads_of (records_from timed_functions timed_totals publishing zeroed (A (ascii "STAT") refl)) ≡ 16 ∷ 16 ∷ [])
    × (map count_in (replies_from timed_functions timed_totals publishing zeroed (A (ascii "STAT") refl)) ≡ 16 ∷ 0 ∷ [])
unfolding timed_open timed_start timed_read timed_wrote timed_fault settings_with slots_from spans_from hours_of is_hours total_open total_start total_read total_wrote total_fault number_at over put messages path_refusal request_refusal rest_after split has_feature features_of message_of bytes_of_request stat_at open_refusal misfit call_refusal start_call run log_of ends_of wants headed turn_at report_refusal read_in read_at report_read wrote_at report_wrote asked kept hopped pumped carried message_out sent resumed wrote_on fields session_of known stored loaded cross_open cross_start cross_read cross_wrote done_heard answer_heard heard reply_number reply_bytes held_bytes compacted piece_list piece_of cross_fault report_fault fault_at lent_in checked
counts-shown = (refl, refl, refl, refl, refl, refl, refl, refl, refl, refl, refl, refl)
