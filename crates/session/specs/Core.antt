-- The session's own steps as an engine, and its opening: the right-hand sides of the code's contracts, seen from the host. They do not look at the
-- moment: the hours stand around them (Gate).
-- Assumes nothing.
use Rattle.std.specs.Prelude.{ℕ, Bool, false, List, eqb, length, get_or}
use Rattle.protocol.specs.Answers.{End, closed, error}
use Rattle.protocol.specs.Bytes.{pick}
use Rattle.protocol.specs.Calls as C
use Rattle.protocol.specs.Calls.{Call, call, next_entry, next_chunk}
use Rattle.protocol.specs.Features.{features_of}
use Rattle.protocol.specs.Messages.{PathOnly, stat, sta2, list, lis2, recv, ask, rcv2, send, snd2, chunk, done, quit}
use Rattle.protocol.specs.Messages as M
use Rattle.features.specs.declared.Features.{Features}
use Rattle.ids.specs.Ids.{ids_of}
use Rattle.request_piece.specs.Pieces.{by_value}
use Rattle.recv_buf.specs.RecvBuf.{held_bytes}
use Rattle.request.specs.declared.Request.{Request}
use Rattle.request.specs.declared.Request.TheVariants as Q
use Rattle.session.specs.declared.Fault.{Fault}
use Rattle.session.specs.declared.Fault.TheVariants as F
use Rattle.session.specs.declared.Reply.{Reply}
use Rattle.session.specs.declared.Reply.TheVariants as R
use Rattle.session.specs.declared.Session.{Session}
use Rattle.session.specs.declared.Version.{Version}
use Rattle.session.specs.declared.Version.TheVariants.{V1, V2}
use Rattle.session.specs.Calls.{fresh, open_refusal, start_call, entry_call, chunk_call}
use Rattle.session.specs.Demand3.{System}
use Rattle.session.specs.Host.{Show, told, read, write_rx, write_lent, write_bytes, close, Step, Engine, lent_of}
use Rattle.session.specs.Reports.{report_read, report_wrote, report_fault}
use Rattle.session.specs.Shown.{paper}
use Rattle.session.specs.State.{St, st, Out}

-- the code's request for one of the protocol's; its path or data is lent beside it
abbrev pub ask_of : PathOnly → Request
ask_of stat = Q.Stat
ask_of sta2 = Q.Sta2
ask_of list = Q.List
ask_of lis2 = Q.Lis2
ask_of recv = Q.Recv

abbrev pub request_of : M.Request → Request
request_of (ask i p) = ask_of i
request_of (rcv2 p f) = Q.Rcv2 (record { 0 = f })
request_of (send p m) = Q.Send (record { 0 = m })
request_of (snd2 p m f) = Q.Snd2 (record { 0 = m }) (record { 0 = f })
request_of (chunk x) = Q.Data
request_of (done t) = Q.Done t
request_of quit = Q.Quit

abbrev pub version_of : C.Version → Version
version_of C.v1 = V1
version_of C.v2 = V2

abbrev pub fault_of : End → Fault
fault_of closed = F.Closed
fault_of (error c) = F.Error c

-- what a reply says to the host
abbrev pub show_of : List ℕ → List ℕ → Reply → Show
show_of rx msg (R.Told a) = told (paper rx msg a)
show_of rx msg (R.Read at len) = read at len
show_of rx msg (R.WriteRx at len) = write_rx at len
show_of rx msg (R.WriteLent at len) = write_lent at len
show_of rx msg (R.WriteBytes p) = write_bytes (by_value p)
show_of rx msg R.Close = close

abbrev pub step_of : Out → Step Session
step_of o = record { x = o.st.ses; rx = o.st.rx; msg = o.st.msg; show = show_of o.st.rx o.st.msg o.reply }

abbrev pub begin : St → Call → (lent : List ℕ) → Out
begin s (call q) lent = start_call s (request_of q) lent
begin s (next_entry v) lent = entry_call s (version_of v) (length lent)
begin s next_chunk lent = chunk_call s (length lent)

abbrev pub core : Engine Session
core =
    record {
      start = λ s rx msg m z. step_of (begin (st s rx msg) m.call (lent_of z m.call));
      on_read = λ s rx msg lent k z. step_of (report_read (st s rx msg) (length lent) k);
      on_wrote = λ s rx msg lent z. step_of (report_wrote (st s rx msg) lent);
      on_fault = λ s rx msg lent e z. step_of (report_fault (st s rx msg) (length lent) (fault_of e));
      holds = λ s rx. held_bytes rx s.buf;
      tail = λ s. s.buf.tail;
    }

-- the features 1 to 7, as a list says them
abbrev pub features_from : List Bool → Features
features_from l =
    record {
      stat_v2 = get_or l 0 false;
      ls_v2 = get_or l 1 false;
      sendrecv_v2 = get_or l 2 false;
      brotli = get_or l 3 false;
      lz4 = get_or l 4 false;
      zstd = get_or l 5 false;
      dry_run_send = get_or l 6 false;
    }

-- opening: the number of its answer; a fresh session, or what stood there where it is refused
abbrev pub core_system : System Session
core_system =
    record {
      engine = core;
      opened = λ x o rx msg. record {
        number = open_refusal (length rx) (length msg);
        x = pick (eqb (open_refusal (length rx) (length msg)) 0) (fresh (length rx) (length msg) (features_from (features_of o.banner)) (ids_of o.table)) x;
      };
      place = λ x. Unit {0};
      lends = λ z. Unit {0};
    }
