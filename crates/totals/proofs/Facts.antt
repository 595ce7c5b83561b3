-- The facts of `specs/Facts.antt` hold. Assumes nothing.
use Prim.Native.Nat.{ℕ, ◌%◌, ◌≤◌}
use mathlib.Core.List.{List}
use mathlib.Core.Option.{Option, none}
use mathlib.Core.Path.{◌≡◌, refl, ap, subst, ◌∙◌}
use native.Mathlib.Omega.{arith}
use lib.ListN.{length, replicate}
use Rattle.protocol.specs.Answers.{Answer}
use Rattle.protocol.specs.Digits.{digits}
use Rattle.protocol.specs.Bytes.{pick, number_at, over, put}
use Rattle.protocol.specs.Calls.{messages}
use Rattle.protocol.specs.Fact.{Hold}
use Rattle.protocol.specs.Features.{rest_after, split, has_feature, features_of}
use Rattle.protocol.specs.Messages.{message_of, bytes_of_request}
use Rattle.protocol.specs.Reader.{plain, drain, written, writes}
use Rattle.protocol.specs.Records.{stat_at, dent_at}
use Rattle.protocol.specs.Refusal.{path_refusal, feature_refusal, request_refusal, refusal}
use Rattle.id_table.specs.IdsFile.{checked}
use Rattle.id_table.specs.Settings.{settings_of, lent_in}
use Rattle.record.specs.Fields.{fields, session_of, known}
use Rattle.record.specs.Record.{stored, loaded}
use Rattle.recv_buf.specs.RecvBuf.{held_bytes, compacted}
use Rattle.request_piece.specs.Pieces.{piece_list, piece_of}
use Rattle.session.specs.Calls.{open_refusal, misfit, call_refusal, start_call, entry_call, chunk_call}
use Rattle.session.specs.Phases.{wants, headed, drained, turn_at}
use Rattle.session.specs.Reports.{report_refusal, read_in, read_at, report_read, wrote_at, report_wrote, write_fault, fault_at, report_fault}
use Rattle.session.specs.Sends.{carried, message_out, sent, resumed, wrote_on}
use Rattle.session.specs.Steps.{asked, kept, hopped, pumped}
use Rattle.session_layer.specs.Layer.{was_refused}
use Rattle.session_reads.specs.Counted.{reads_in}
use Rattle.boundary.specs.Crossing.{Crossed, cross_open, cross_start, cross_read, cross_wrote, cross_fault}
use Rattle.boundary.specs.Heard.{done_heard, answer_heard, heard}
use Rattle.boundary.specs.Told.{out_size, reply_number, reply_bytes}
use Rattle.boundary_misuse.specs.Misuse.{Event}
use Rattle.totals.specs.Card.{total_by, adds, sums_after, refused_by, count_in, AnswersBy}
use Rattle.totals.specs.Crossing.{reads_of, total_open, total_start, total_read, total_wrote, total_fault}
use Rattle.totals.specs.Logged.{plain_cards}
use Rattle.totals.specs.Facts as F

pub added-hold : Hold F.added
added-hold = refl

pub refusals-hold : Hold F.refusals
unfolding path_refusal request_refusal
refusals-hold = refl

pub places-hold : Hold F.places
unfolding number_at
places-hold = refl

pub opening-holds : Hold F.opening
unfolding total_open cross_open open_refusal lent_in checked settings_of
opening-holds = refl

pub stats-hold : Hold F.stats
unfolding total_open total_start total_read total_wrote total_fault number_at over put messages path_refusal request_refusal feature_refusal rest_after split has_feature features_of message_of bytes_of_request stat_at open_refusal misfit call_refusal start_call wants headed turn_at report_refusal read_in read_at report_read wrote_at report_wrote asked kept hopped pumped carried message_out sent resumed wrote_on fields session_of known stored loaded cross_open cross_start cross_read cross_wrote done_heard answer_heard heard reply_number reply_bytes held_bytes compacted piece_list piece_of cross_fault report_fault fault_at settings_of lent_in checked write_fault
stats-hold = refl

pub pulls-hold : Hold F.pulls
unfolding total_open total_start total_read total_wrote total_fault number_at over put messages path_refusal request_refusal rest_after split has_feature features_of message_of bytes_of_request stat_at open_refusal misfit call_refusal start_call wants headed turn_at report_refusal read_in read_at report_read wrote_at report_wrote asked kept hopped pumped carried message_out sent resumed wrote_on fields session_of known stored loaded cross_open cross_start cross_read cross_wrote done_heard answer_heard heard reply_number reply_bytes held_bytes compacted piece_list piece_of cross_fault report_fault fault_at settings_of lent_in checked write_fault drained entry_call chunk_call dent_at
pulls-hold = refl

pub pushes-hold : Hold F.pushes
unfolding total_open total_start total_read total_wrote total_fault number_at over put messages path_refusal request_refusal rest_after split has_feature features_of message_of bytes_of_request stat_at open_refusal misfit call_refusal start_call wants headed turn_at report_refusal read_in read_at report_read wrote_at report_wrote asked kept hopped pumped carried message_out sent resumed wrote_on fields session_of known stored loaded cross_open cross_start cross_read cross_wrote done_heard answer_heard heard reply_number reply_bytes held_bytes compacted piece_list piece_of cross_fault report_fault fault_at settings_of lent_in checked write_fault drained entry_call chunk_call dent_at
pushes-hold = refl

pub drains-hold : Hold F.drains
unfolding total_open total_start total_read total_wrote total_fault number_at over put messages path_refusal request_refusal rest_after split has_feature features_of message_of bytes_of_request stat_at open_refusal misfit call_refusal start_call wants headed turn_at report_refusal read_in read_at report_read wrote_at report_wrote asked kept hopped pumped carried message_out sent resumed wrote_on fields session_of known stored loaded cross_open cross_start cross_read cross_wrote done_heard answer_heard heard reply_number reply_bytes held_bytes compacted piece_list piece_of cross_fault report_fault fault_at settings_of lent_in checked write_fault drained
drains-hold = refl

pub closes-hold : Hold F.closes
unfolding total_open total_start total_read total_wrote total_fault number_at over put messages path_refusal request_refusal rest_after split has_feature features_of message_of bytes_of_request stat_at open_refusal misfit call_refusal start_call wants headed turn_at report_refusal read_in read_at report_read wrote_at report_wrote asked kept hopped pumped carried message_out sent resumed wrote_on fields session_of known stored loaded cross_open cross_start cross_read cross_wrote done_heard answer_heard heard reply_number reply_bytes held_bytes compacted piece_list piece_of cross_fault report_fault fault_at settings_of lent_in checked write_fault
closes-hold = refl

pub overs-hold : Hold F.overs
unfolding total_open total_start total_read total_wrote total_fault number_at over put messages path_refusal request_refusal rest_after split has_feature features_of message_of bytes_of_request stat_at open_refusal misfit call_refusal start_call wants headed turn_at report_refusal read_in read_at report_read wrote_at report_wrote asked kept hopped pumped carried message_out sent resumed wrote_on fields session_of known stored loaded cross_open cross_start cross_read cross_wrote done_heard answer_heard heard reply_number reply_bytes held_bytes compacted piece_list piece_of cross_fault report_fault fault_at settings_of lent_in checked write_fault
overs-hold = refl

pub replies-hold : Hold F.replies
unfolding total_open total_start total_read total_wrote total_fault number_at over put messages path_refusal request_refusal rest_after split has_feature features_of message_of bytes_of_request stat_at open_refusal misfit call_refusal start_call wants headed turn_at report_refusal read_in read_at report_read wrote_at report_wrote asked kept hopped pumped carried message_out sent resumed wrote_on fields session_of known stored loaded cross_open cross_start cross_read cross_wrote done_heard answer_heard heard reply_number reply_bytes held_bytes compacted piece_list piece_of cross_fault report_fault fault_at settings_of lent_in checked write_fault
replies-hold = refl

pub plains-hold : Hold F.plains
unfolding digits plain_cards plain written writes messages message_of bytes_of_request stat_at dent_at number_at drain refusal request_refusal path_refusal
plains-hold = refl

pub showings-hold : Hold F.showings
unfolding number_at
showings-hold = refl

-- ---- the words of the claims

pub bounded : F.Bounded
bounded = record { most_fits = (omega arith, omega arith); over_in = λ h. absurd (omega (arith, h.0)); over_out = λ h. absurd (omega (arith, h.1)); means = λ h g ms u p q. (p, q) }

pub ended : F.Ended
ended =
    record {
      refused_leaves = λ m r n k e rec a h. h.reads ∙ ap (λ (b : Answer). pick (was_refused b) k (reads_in e.asks)) a;
      missing_leaves = λ m r n k e rec a h. h.reads ∙ ap (λ (b : Answer). pick (was_refused b) k (reads_in e.asks)) a;
      closed_leaves = λ m r n k e rec a h. h.reads ∙ ap (λ (b : Answer). pick (was_refused b) k (reads_in e.asks)) a;
      others_count = λ m r n k e rec a h. h.reads ∙ ap (λ (b : Answer). pick (was_refused b) k (reads_in e.asks)) a;
      all_consumed = λ r n k e rec u h. omega (arith, h.consumed, ap length u);
      adds_up = λ m r n k e f a b h. (h.1.0.received, h.1.0.written);
      next_counts = λ m r n k e f a b i h. h.1.0.reads ∙ ap (λ (y : Answer). pick (was_refused y) (reads_of a) (reads_in f.asks)) i;
      next_leaves = λ m r n k e f a b i j h. h.1.0.reads ∙ ap (λ (y : Answer). pick (was_refused y) (reads_of a) (reads_in f.asks)) j
          ∙ h.0.reads ∙ ap (λ (y : Answer). pick (was_refused y) k (reads_in e.asks)) i;
      not_fewer = λ m r n k e h. h;
      not_more = λ m r n k rec h. absurd (omega (arith, ap length h));
    }

pub shown : F.Shown
unfolding number_at held_bytes
shown =
    record {
      none_yet = record { received = refl; written = refl; reads = refl; consumed = λ rx l. rw l refl };
      not_received = λ h. absurd (omega (arith, h.received));
      not_written = λ h. absurd (omega (arith, h.written));
      not_consumed = λ h. absurd (omega (arith, h.consumed (replicate 8 0) refl));
      not_reads = λ h. absurd (omega (arith, h.reads));
      not_told = λ e l h. absurd (omega (arith, h.1 l refl));
      not_over = λ e h. absurd (omega (arith, (h.0 21 refl (omega arith)).1));
      not_in_refusal = λ e l h. absurd (omega (arith, h.1 l));
    }

pub momentary : F.Momentary
momentary =
    record {
      first = λ s t rec h. h.reads;
      answered = λ s t rec e z l n h. told (refused_by none s t e) z (adds s t e.act).reads rec e (total_by rec e) l n h.1.0;
      taken = λ s t rec e f z h. h.1.1.0.reads ∙ ap (λ (y : Option Answer). (sums_after y t (adds s t e.act)).reads) z;
      turned_away_lem = λ s t rec e f z h. h.1.1.0.reads ∙ ap (λ (y : Option Answer). (sums_after y t (adds s t e.act)).reads) z;
      last = λ s t rec e z h. h.1.1.reads ∙ ap (λ (y : Option Answer). (sums_after y t (adds s t e.act)).reads) z;
    }
  where
    told : (r : Option Answer) → r ≡ none → (k : ℕ) (rec : List ℕ) (e : Event) (c : Crossed) → out_size ≤ length e.out → c.number ≡ 0 → AnswersBy r k rec e c → count_in c ≡ k
    told r z k rec e c l n h = (subst (λ (y : Option Answer). AnswersBy y k rec e c) z h).1 l (ap (λ (i : ℕ). i % 256) n)
