-- The facts of `specs/Facts.antt` hold. Assumes nothing.
use mathlib.Core.Path.{refl}
use Rattle.protocol.specs.Bytes.{number_at, over, put}
use Rattle.protocol.specs.Calls.{messages}
use Rattle.protocol.specs.Digits.{digits}
use Rattle.protocol.specs.Fact.{Hold}
use Rattle.protocol.specs.Features.{rest_after, split, has_feature, features_of}
use Rattle.protocol.specs.Flags.{refused_flags, several, unknown, dry_run}
use Rattle.protocol.specs.Messages.{message_of, bytes_of_request}
use Rattle.protocol.specs.Refusal.{path_refusal, flag_refusal, feature_refusal, transfer_refusal, request_refusal}
use Rattle.id_table.specs.IdsFile.{checked}
use Rattle.id_table.specs.Settings.{lent_in}
use Rattle.hours.specs.Settings.{settings_with, is_hours}
use Rattle.hours.specs.Slots.{slots_from, spans_from, hours_of}
use Rattle.record.specs.Fields.{fields, session_of, known}
use Rattle.record.specs.Record.{stored, loaded}
use Rattle.recv_buf.specs.RecvBuf.{compacted}
use Rattle.request_piece.specs.Pieces.{piece_list, piece_of}
use Rattle.session.specs.Calls.{open_refusal, misfit, call_refusal, start_call}
use Rattle.session.specs.Reports.{report_refusal, read_in, read_at, report_read, wrote_at, report_wrote, fault_at, report_fault}
use Rattle.session.specs.Sends.{carried, message_out, sent}
use Rattle.boundary.specs.Crossing.{cross_open, cross_start, cross_read, cross_wrote, cross_fault}
use Rattle.boundary.specs.Heard.{done_heard, answer_heard, heard}
use Rattle.boundary.specs.Told.{reply_number, reply_bytes}
use Rattle.totals.specs.Crossing.{total_open, total_start, total_read, total_wrote, total_fault}
use Rattle.hours_totals.specs.Crossing.{timed_open, timed_start, timed_read, timed_wrote, timed_fault}
use Rattle.hours_totals.specs.Facts as F

pub opening-holds : Hold F.opening
unfolding timed_open total_open cross_open open_refusal lent_in checked is_hours
opening-holds = refl

pub written-holds : Hold F.written
unfolding timed_open total_open cross_open open_refusal lent_in checked is_hours stored fields rest_after split has_feature features_of number_at
written-holds = refl

pub pushes-hold : Hold F.pushes
unfolding digits timed_open timed_start total_open total_start cross_open cross_start open_refusal lent_in checked is_hours settings_with slots_from spans_from hours_of stored fields loaded session_of known rest_after split has_feature features_of number_at over put misfit call_refusal start_call request_refusal path_refusal flag_refusal feature_refusal transfer_refusal refused_flags several unknown dry_run carried message_out sent compacted messages message_of bytes_of_request piece_list piece_of done_heard answer_heard heard reply_number reply_bytes
pushes-hold = refl

pub kept-holds : Hold F.kept
unfolding digits timed_open timed_start timed_wrote total_open total_start total_wrote cross_open cross_start cross_wrote open_refusal lent_in checked is_hours settings_with slots_from spans_from hours_of stored fields loaded session_of known rest_after split has_feature features_of number_at over put misfit call_refusal start_call request_refusal path_refusal carried message_out sent compacted messages message_of bytes_of_request piece_list piece_of done_heard answer_heard heard reply_number reply_bytes report_refusal wrote_at report_wrote
kept-holds = refl

pub lengths-hold : Hold F.lengths
unfolding digits timed_open timed_start timed_read timed_wrote timed_fault total_open total_start total_read total_wrote total_fault cross_open cross_start cross_read cross_wrote cross_fault open_refusal lent_in checked is_hours settings_with slots_from spans_from hours_of stored fields loaded session_of known rest_after split has_feature features_of number_at over put misfit call_refusal start_call request_refusal path_refusal carried message_out sent compacted messages message_of bytes_of_request piece_list piece_of done_heard answer_heard heard reply_number reply_bytes report_refusal wrote_at report_wrote read_in read_at report_read fault_at report_fault
lengths-hold = refl

pub replies-hold : Hold F.replies
unfolding digits timed_open timed_start total_open total_start cross_open cross_start open_refusal lent_in checked is_hours settings_with slots_from spans_from hours_of stored fields loaded session_of known rest_after split has_feature features_of number_at over put misfit call_refusal start_call request_refusal path_refusal flag_refusal feature_refusal transfer_refusal refused_flags several unknown dry_run carried message_out sent compacted messages message_of bytes_of_request piece_list piece_of done_heard answer_heard heard reply_number reply_bytes
replies-hold = refl
