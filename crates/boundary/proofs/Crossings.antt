-- The facts of `specs/Crossings.antt` hold. Assumes nothing.
use mathlib.Core.Path.{refl}
use Rattle.protocol.specs.Bytes.{number_at, signed}
use Rattle.protocol.specs.Fact.{Hold}
use Rattle.protocol.specs.Records.{stat_at}
use Rattle.protocol.specs.Refusal.{request_refusal, path_refusal}
use Rattle.record.specs.Fields.{fields, session_of, known}
use Rattle.record.specs.Record.{stored, loaded}
use Rattle.request_piece.specs.Pieces.{piece_list, piece_of}
use Rattle.session.specs.Calls.{misfit, call_refusal, start_call}
use Rattle.session.specs.Phases.{wants, headed, turn_at}
use Rattle.session.specs.Reports.{report_refusal, read_in, read_at, report_read, wrote_at, report_wrote, fault_at, report_fault}
use Rattle.session.specs.Sends.{carried, resumed, wrote_on}
use Rattle.session.specs.Shown.{part_of}
use Rattle.session.specs.Steps.{asked, kept, hopped, pumped}
use Rattle.boundary.specs.Told.{reply_number}
use Rattle.boundary.specs.Crossing.{cross_start, cross_read, cross_wrote, cross_fault}
use Rattle.boundary.specs.Crossings.{passed, sizes, long_pending, heard_facts}
use Rattle.boundary.specs.Heard.{heard, answer_heard, done_heard}

pub passed-hold : Hold passed × Hold sizes
passed-hold = (refl, refl)

pub long_pending-hold : Hold long_pending
unfolding misfit call_refusal start_call request_refusal path_refusal report_refusal read_in read_at report_read wrote_at report_wrote fault_at report_fault carried resumed wrote_on piece_list piece_of wants headed turn_at asked kept hopped pumped number_at stat_at fields session_of known stored loaded reply_number cross_start cross_read cross_wrote cross_fault
long_pending-hold = refl

pub heard-hold : Hold heard_facts
unfolding heard answer_heard done_heard part_of number_at signed
heard-hold = refl
