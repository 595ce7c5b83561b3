-- The session in its record as a system: what demand 3 is claimed of first, and then with totals (totals/specs/System).
-- Assumes nothing.
use Rattle.std.specs.Prelude.{ℕ, suc, ◌≤◌, ◌<◌, ◌^◌, List, ◌≡◌, length}
use Rattle.protocol.specs.Answers.{End, closed, error}
use Rattle.protocol.specs.Calls.{v1, v2, Call, call, next_entry, next_chunk}
use Rattle.protocol.specs.Messages.{PathOnly, stat, sta2, list, lis2, recv, ask, rcv2, send, snd2, chunk, done, quit}
use Rattle.id_table.specs.Settings.{settings_of}
use Rattle.record.specs.Record.{word_of, size}
use Rattle.recv_buf.specs.RecvBuf.{cursor, held_bytes}
use Rattle.session.specs.Demand3.{System, Opened}
use Rattle.session.specs.Host.{Spare, Engine, Step, lent_of}
use Rattle.boundary.specs.Crossing.{Crossed, OpenCrossed, cross_open, cross_start, cross_read, cross_wrote, cross_fault}
use Rattle.boundary.specs.Heard.{heard}
use Rattle.boundary.specs.Told.{out_size}

-- the number of a call, and its two numbers: the mode or the time, the flags; any number where a call takes none
abbrev pub ask_number : PathOnly → ℕ
ask_number stat = 1
ask_number sta2 = 2
ask_number list = 3
ask_number lis2 = 4
ask_number recv = 5

abbrev pub call_number : Call → ℕ
call_number (call (ask i p)) = ask_number i
call_number (call (rcv2 p f)) = 6
call_number (call (send p m)) = 7
call_number (call (snd2 p m f)) = 8
call_number (call (chunk x)) = 9
call_number (call (done t)) = 10
call_number (call quit) = 11
call_number (next_entry v1) = 12
call_number (next_entry v2) = 13
call_number next_chunk = 14

abbrev pub first_number : Spare → Call → ℕ
first_number z (call (ask i p)) = z.first
first_number z (call (rcv2 p f)) = z.first
first_number z (call (send p m)) = m
first_number z (call (snd2 p m f)) = m
first_number z (call (chunk x)) = z.first
first_number z (call (done t)) = t
first_number z (call quit) = z.first
first_number z (next_entry v) = z.first
first_number z next_chunk = z.first

abbrev pub flag_number : Spare → Call → ℕ
flag_number z (call (ask i p)) = z.second
flag_number z (call (rcv2 p f)) = f
flag_number z (call (send p m)) = z.second
flag_number z (call (snd2 p m f)) = f
flag_number z (call (chunk x)) = z.second
flag_number z (call (done t)) = z.second
flag_number z (call quit) = z.second
flag_number z (next_entry v) = z.second
flag_number z next_chunk = z.second

-- the kind and the code of a fault: kind 0 and any code where the channel is closed, any other kind for an error
abbrev pub end_kind : Spare → End → ℕ
end_kind z closed = 0
end_kind z (error c) = suc z.kind

abbrev pub end_code : Spare → End → ℕ
end_code z closed = z.code
end_code z (error c) = c

abbrev pub step_of : Crossed → Step (List ℕ)
step_of c = record { x = c.rec; rx = c.rx; msg = c.msg; show = heard c.number c.out c.rx c.msg }

abbrev pub recorded : Engine (List ℕ)
recorded =
    record {
      start = λ rec rx msg m z. step_of (cross_start rec rx msg (lent_of z m.call) (call_number m.call) (first_number z m.call) (flag_number z m.call) z.out);
      on_read = λ rec rx msg lent k z. step_of (cross_read rec rx msg lent k z.out);
      on_wrote = λ rec rx msg lent z. step_of (cross_wrote rec rx msg lent z.out);
      on_fault = λ rec rx msg lent e z. step_of (cross_fault rec rx msg lent (end_kind z e) (end_code z e) z.out);
      holds = λ rec rx. held_bytes rx (cursor (word_of rec 2) (word_of rec 3));
      tail = λ rec. word_of rec 3;
    }

abbrev pub opened_by : OpenCrossed → Opened (List ℕ)
opened_by o = record { number = o.number; x = o.rec }

-- Any record of the right length may stand there. A reply goes to any slice of 120 bytes or more, whatever stands in it; a call that takes
-- neither path nor data lends any slice.
abbrev pub boundary : System (List ℕ)
boundary =
    record {
      engine = recorded;
      opened = λ rec o rx msg. opened_by (cross_open rec (settings_of o.table) o.banner (length rx) (length msg));
      place = λ rec. length rec ≡ size;
      lends = λ z. (out_size ≤ length z.out) × (length z.lent < 2 ^ 64);
    }
