-- Opening a session and starting a call: the refusals in their order (1, 2; then 3, 6, 4, 8, 7, 9, 10: document 02, [6]), then the first step.
-- Assumes nothing.
use Rattle.std.specs.Prelude.{ℕ, Bool, true, false, List, eqb, ltb, length}
use Rattle.std.proofs.Math.Option.{Option, none, some}
use Rattle.protocol.specs.Answers as P
use Rattle.protocol.specs.Bytes.{pick}
use Rattle.protocol.specs.Refusal.{Setting, request_refusal}
use Rattle.features.specs.Meaning.{listed}
use Rattle.features.specs.declared.Features.{Features}
use Rattle.ids.specs.declared.Ids.{Ids}
use Rattle.recv_buf.specs.RecvBuf.{empty}
use Rattle.request.specs.Meaning.{meant}
use Rattle.request.specs.declared.Request.{Request}
use Rattle.session.specs.declared.Answer.{Answer}
use Rattle.session.specs.declared.Answer.TheVariants as A
use Rattle.session.specs.declared.Pending.{Pending}
use Rattle.session.specs.declared.Pending.TheVariants.{Idle, Reading, Writing, Closing}
use Rattle.session.specs.declared.Phase.TheVariants.{Header}
use Rattle.session.specs.declared.Session.{Session}
use Rattle.session.specs.declared.Version.{Version}
use Rattle.session.specs.declared.Want.TheVariants as W
use Rattle.session.specs.State.{dialect_in, St, st, Out, out, beside, begun, refusing}
use Rattle.session.specs.Steps.{read_on}
use Rattle.session.specs.Sends.{tidied, carried, sent}

-- ---- opening

abbrev pub fresh : ℕ → ℕ → Features → Ids → Session
fresh capacity message f t = record { capacity = capacity; message = message; buf = empty; lent = 0; features = f; ids = t; ended = false; pending = Idle }

-- 1 a receive buffer under 8, 2 a message buffer shorter than the receive buffer; 0: none
unfoldable pub open_refusal : ℕ → ℕ → ℕ
open_refusal capacity message = pick (ltb capacity 8) 1 (pick (ltb message capacity) 2 0)

-- ---- what a call or a report is let in by

-- 3: the buffers are not those of the opening, or the session is none that an opening or a step leaves
unfoldable pub misfit : Session → ℕ → ℕ → Bool
misfit s x m =
    pick (eqb x s.capacity)
    (pick (eqb m s.message)
    (pick (ltb s.buf.tail s.buf.head) true
    (pick (ltb s.capacity s.buf.tail) true
    (pick (ltb s.capacity 8) true
    (ltb s.message s.capacity))))
    true)
    true

-- a step of a session that fits its buffers; 3 for any other
unfoldable pub guarded : St → Out → Out
guarded s o = pick (misfit s.ses (length s.rx) (length s.msg)) (out (refusing s.ses (A.Refused 3)) s.rx s.msg) o

abbrev pub is_idle : Pending → Bool
is_idle Idle = true
is_idle (Reading p until lost) = false
is_idle (Writing q from k) = false
is_idle (Closing failed code) = false

-- 3, 6, 4; 0: none
unfoldable pub call_refusal : Session → ℕ → ℕ → ℕ
call_refusal s x m = pick (misfit s x m) 3 (pick s.ended 6 (pick (is_idle s.pending) 0 4))

-- the refusal k, or the step
abbrev pub refused_or : ℕ → St → Out → Out
refused_or k s o = pick (ltb 0 k) (out (refusing s.ses (A.Refused k)) s.rx s.msg) o

abbrev pub refusal_of : St → ℕ
refusal_of s = call_refusal s.ses (length s.rx) (length s.msg)

-- 8, 7, 9 and 10, as the plain reader has them
abbrev pub setting_of : Session → Setting
setting_of s = record { dialect = dialect_in s; features = listed s.features; ended = s.ended }

-- a refusal of the plain reader, as the code answers it
abbrev pub answer_of : P.Answer → Answer
answer_of P.done = A.Done
answer_of P.end = A.End
answer_of (P.stat s) = A.Done
answer_of (P.stat2 s) = A.Done
answer_of (P.entry s name) = A.Done
answer_of (P.entry2 s name) = A.Done
answer_of (P.chunk b) = A.Done
answer_of (P.refused n) = A.Refused n
answer_of (P.missing n) = A.Missing n
answer_of (P.broken e) = A.Done
answer_of (P.fail t) = A.Done
answer_of (P.unexpected i) = A.Done
answer_of (P.errno c) = A.Done
answer_of P.too_large = A.Done

abbrev pub or_refuse : Option P.Answer → St → Out → Out
or_refuse none s o = o
or_refuse (some a) s o = out (refusing s.ses (answer_of a)) s.rx s.msg

-- ---- the calls

-- stat, list, recv, send, data, send_done, quit: the first message
unfoldable pub start_call : St → Request → List ℕ → Out
start_call s q lent =
    refused_or (refusal_of s) s
    (or_refuse (request_refusal (setting_of s.ses) (meant q lent)) s
    (beside (sent (begun s.ses (length lent)) s.rx q 0 (carried q 0 lent)) s.msg))

-- a listing step; n bytes are lent beside it
unfoldable pub entry_call : St → Version → ℕ → Out
entry_call s v n = refused_or (refusal_of s) s (read_on (st (begun s.ses n) s.rx s.msg) (Header (W.Entry v)) false)

-- "recv_next compacts first"
unfoldable pub chunk_call : St → ℕ → Out
chunk_call s n = refused_or (refusal_of s) s (read_on (tidied (st (begun s.ses n) s.rx s.msg)) (Header W.Chunk) false)
