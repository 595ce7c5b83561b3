-- The facts of `specs/Resuming.antt` hold. Assumes nothing.
use mathlib.Core.Path.{refl}
use Rattle.protocol.specs.Bytes.{number_at}
use Rattle.protocol.specs.Fact.{Hold}
use Rattle.protocol.specs.Records.{stat_at}
use Rattle.protocol.specs.Refusal.{request_refusal, path_refusal}
use Rattle.request_piece.specs.Pieces.{piece_list, piece_of}
use Rattle.session.specs.Calls.{misfit, call_refusal, start_call}
use Rattle.session.specs.Phases.{wants, headed, turn_at}
use Rattle.session.specs.Reports.{report_refusal, read_in, read_at, report_read, wrote_at, report_wrote, write_fault, fault_at, report_fault}
use Rattle.session.specs.Resuming.{resuming}
use Rattle.session.specs.Sends.{carried, resumed, wrote_on}
use Rattle.session.specs.Steps.{asked, kept, hopped, pumped}

pub resuming-holds : Hold resuming
unfolding misfit call_refusal start_call request_refusal path_refusal report_refusal read_in read_at report_read wrote_at report_wrote write_fault fault_at report_fault carried resumed wrote_on piece_list piece_of wants headed turn_at asked kept hopped pumped number_at stat_at
resuming-holds = refl
