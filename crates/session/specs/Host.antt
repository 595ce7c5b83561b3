-- The host: it reads into windows, writes pieces, closes, and reports each; and the log of a list of calls made against it.
-- A session is any engine that takes calls and reports; nothing here looks inside one.
-- Assumes nothing.
use Rattle.std.specs.Prelude.{ℕ, zero, suc, ◌+◌, ◌-◌, ◌*◌, min, max, ◌&&◌, List, [], ◌∷◌, ◌++◌, leb, ltb, length, take, drop}
use Rattle.std.proofs.Math.Option.{Option, none, some}
use Rattle.protocol.specs.Answers.{Answer, End}
use Rattle.protocol.specs.Bytes.{pick, over}
use Rattle.protocol.specs.Calls.{Call, call, next_entry, next_chunk, messages, Made}
use Rattle.protocol.specs.Messages.{ask, rcv2, send, snd2, chunk, done, quit}
use Rattle.protocol.specs.Reader.{Report, accepted, broke}

-- what the host is told of a step
pub data Show : Type 0 where
  -- the call is over
  told : Answer → Show
  -- read into this part of the receive buffer
  read : (at len : ℕ) → Show
  -- write this part of the receive buffer, this part of the lent path or data, these bytes
  write_rx : (at len : ℕ) → Show
  write_lent : (at len : ℕ) → Show
  write_bytes : List ℕ → Show
  close : Show

-- a step: what the session is then, every byte of both buffers, what is asked
pub record Step (X : Type 0) : Type 0 where
  pub x : X
  pub rx : List ℕ
  pub msg : List ℕ
  pub show : Show

-- What a step is lent or passed besides, none of which counts: the slice that the reply goes to, with what stands in it; what is lent by
-- a call that takes neither path nor data; the two numbers of a call that takes none; the kind of an error, less one; the code of a closed
-- channel.
pub record Spare : Type 0 where
  pub out : List ℕ
  pub lent : List ℕ
  pub first : ℕ
  pub second : ℕ
  pub kind : ℕ
  pub code : ℕ

-- A session, seen from outside. It is lent both buffers at each step, and a call's path or data (of a read or a fault only its length
-- counts). `holds`: the bytes that it has received and not consumed; `tail`: where the free end of the receive buffer begins, behind them.
pub record Engine (X : Type 0) : Type 0 where
  pub start : X → List ℕ → List ℕ → Made → Spare → Step X
  pub on_read : X → List ℕ → List ℕ → (lent : List ℕ) → (count : ℕ) → Spare → Step X
  pub on_wrote : X → List ℕ → List ℕ → (lent : List ℕ) → Spare → Step X
  pub on_fault : X → List ℕ → List ℕ → (lent : List ℕ) → End → Spare → Step X
  pub holds : X → List ℕ → List ℕ
  pub tail : X → ℕ

-- a read that was asked: the bytes still to come, those held, the window, the pieces of this call written before; how many bytes it brought
pub record Ask : Type 0 where
  pub rest : List ℕ
  pub holds : List ℕ
  pub at : ℕ
  pub len : ℕ
  pub before : List (List ℕ)
  pub brought : ℕ

-- a write that came to a fault: the piece offered, the fault, the pieces of this call accepted before
pub record Broken : Type 0 where
  pub piece : List ℕ
  pub fault : End
  pub before : List (List ℕ)

-- a read that came to a fault while bytes were still to come: the fault, and those bytes
pub record Stop : Type 0 where
  pub fault : End
  pub rest : List ℕ

-- Bytes still to come; calls, reads and writes so far. Of this call: the reads asked, the last first; the pieces accepted, in order; the writes
-- that came to a fault, the last first; for each piece offered from the receive buffer, where it begins there; for each close asked, the
-- pieces accepted before it; the read that came to a fault too early.
pub record World : Type 0 where
  pub left : List ℕ
  pub calls : ℕ
  pub reads : ℕ
  pub writes : ℕ
  pub asks : List Ask
  pub pieces : List (List ℕ)
  pub broken : List Broken
  pub composed : List ℕ
  pub closes : List (List (List ℕ))
  pub stopped : Option Stop

-- The host's choices: the count of its i-th read; the bytes that this read leaves in the rest of its window; the fault that it comes to, if
-- it does so while bytes are still to come; what it reports of its i-th write; of the close; the error that follows the incoming bytes and
-- persists; what it lends besides, by all that has happened. Each step makes another world, so this is chosen anew at each.
pub record Host : Type 0 where
  pub count : ℕ → ℕ
  pub junk : ℕ → ℕ → ℕ
  pub fails : ℕ → Option End
  pub writes : ℕ → Report
  pub close : Report
  pub end : End
  pub spare : World → Spare

-- what was reported of a call's writes: that all were accepted, or a fault
abbrev pub outcome_of : List Broken → Report
outcome_of [] = accepted
outcome_of (b ∷ bs) = broke b.fault

abbrev pub at_start : List ℕ → World
at_start incoming = record { left = incoming; calls = 0; reads = 0; writes = 0; asks = []; pieces = []; broken = []; composed = []; closes = []; stopped = none }

abbrev pub new_call : World → World
new_call w = record { left = w.left; calls = w.calls + 1; reads = w.reads; writes = w.writes; asks = []; pieces = []; broken = []; composed = []; closes = []; stopped = none }

-- n of the bytes to come are read, where the engine asked for a read
abbrev pub has_read : ℕ → Ask → World → World
has_read n a w = record { left = drop n w.left; calls = w.calls; reads = w.reads + 1; writes = w.writes; asks = a ∷ w.asks; pieces = w.pieces; broken = w.broken; composed = w.composed; closes = w.closes; stopped = w.stopped }

abbrev pub has_written : List ℕ → World → World
has_written b w = record { left = w.left; calls = w.calls; reads = w.reads; writes = w.writes + 1; asks = w.asks; pieces = w.pieces ++ b ∷ []; broken = w.broken; composed = w.composed; closes = w.closes; stopped = w.stopped }

abbrev pub has_broken : List ℕ → End → World → World
has_broken b e w = record { left = w.left; calls = w.calls; reads = w.reads; writes = w.writes + 1; asks = w.asks; pieces = w.pieces; broken = record { piece = b; fault = e; before = w.pieces } ∷ w.broken; composed = w.composed; closes = w.closes; stopped = w.stopped }

-- a piece is offered that begins at i in the receive buffer
abbrev pub composing : ℕ → World → World
composing i w = record { left = w.left; calls = w.calls; reads = w.reads; writes = w.writes; asks = w.asks; pieces = w.pieces; broken = w.broken; composed = i ∷ w.composed; closes = w.closes; stopped = w.stopped }

abbrev pub has_closed : World → World
has_closed w = record { left = w.left; calls = w.calls; reads = w.reads; writes = w.writes; asks = w.asks; pieces = w.pieces; broken = w.broken; composed = w.composed; closes = w.pieces ∷ w.closes; stopped = w.stopped }

-- a read comes to the fault e, and these bytes are still to come
abbrev pub has_stopped : End → World → World
has_stopped e w = record { left = w.left; calls = w.calls; reads = w.reads; writes = w.writes; asks = w.asks; pieces = w.pieces; broken = w.broken; composed = w.composed; closes = w.closes; stopped = some (record { fault = e; rest = w.left }) }

-- a count from one to the smaller of the window and what is left
abbrev pub counted : ℕ → ℕ → ℕ → ℕ
counted k window left = max 1 (min k (min window left))

abbrev pub filling : (ℕ → ℕ) → ℕ → List ℕ
filling f zero = []
filling f (suc n) = f n ∷ filling f n

-- the window, overwritten: the bytes that came, and then any
abbrev pub windowed : (ℕ → ℕ) → List ℕ → ℕ → ℕ → List ℕ → List ℕ
windowed f rx at len v = over rx at (v ++ filling f (len - length v))

-- what a call lends: its path or its data; any other call, what the host likes
abbrev pub lent_of : Spare → Call → List ℕ
lent_of z (call (ask i p)) = p
lent_of z (call (rcv2 p f)) = p
lent_of z (call (send p m)) = p
lent_of z (call (snd2 p m f)) = p
lent_of z (call (chunk x)) = x
lent_of z (call (done t)) = z.lent
lent_of z (call quit) = z.lent
lent_of z (next_entry v) = z.lent
lent_of z next_chunk = z.lent

-- how a call against the host comes out. `unended` is a call that asked more than the host can grant: a window of no bytes, a part
-- outside its buffer, or more steps than were allowed.
pub data Run (X : Type 0) : Type 0 where
  over_with : X → (rx msg : List ℕ) → Answer → World → Run X
  unended : Run X

module _ {X : Type 0} (E : Engine X) (h : Host) (lent : List ℕ) (k : World → Step X → Run X) where
  -- the read asked, where it brings n bytes
  abbrev pub asking : World → Step X → (at len n : ℕ) → Ask
  asking w s at len n = record { rest = w.left; holds = E.holds s.x s.rx; at = at; len = len; before = w.pieces; brought = n }

  abbrev pub grant_read : World → Step X → (at len : ℕ) → List ℕ → Option End → Run X
  grant_read w s at len [] fails =
      k (has_read 0 (asking w s at len 0) w) (E.on_fault s.x (windowed (h.junk w.reads) s.rx at len []) s.msg lent h.end (h.spare w))
  grant_read w s at len (b ∷ bs) (some e) =
      k (has_stopped e (has_read 0 (asking w s at len 0) w))
      (E.on_fault s.x (windowed (h.junk w.reads) s.rx at len []) s.msg lent e (h.spare w))
  grant_read w s at len (b ∷ bs) none =
      let n = counted (h.count w.reads) len (length w.left) in
      k (has_read n (asking w s at len n) w) (E.on_read s.x (windowed (h.junk w.reads) s.rx at len (take n w.left)) s.msg lent n (h.spare w))

  abbrev pub grant_write : World → Step X → List ℕ → Report → Run X
  grant_write w s b accepted = k (has_written b w) (E.on_wrote s.x s.rx s.msg lent (h.spare w))
  grant_write w s b (broke e) = k (has_broken b e w) (E.on_fault s.x s.rx s.msg lent e (h.spare w))

  abbrev pub grant_close : World → Step X → Report → Run X
  grant_close w s accepted = k (has_closed w) (E.on_wrote s.x s.rx s.msg lent (h.spare w))
  grant_close w s (broke e) = k (has_closed w) (E.on_fault s.x s.rx s.msg lent e (h.spare w))

  abbrev pub granted : World → Step X → Show → Run X
  granted w s (told a) = over_with s.x s.rx s.msg a w
  granted w s (read at len) =
      pick (ltb 0 len && leb (at + len) (length s.rx)) (grant_read w s at len w.left (h.fails w.reads)) unended
  granted w s (write_rx at len) =
      pick (leb (at + len) (length s.rx)) (grant_write (composing at w) s (take len (drop at s.rx)) (h.writes w.writes)) unended
  granted w s (write_lent at len) =
      pick (leb (at + len) (length lent)) (grant_write w s (take len (drop at lent)) (h.writes w.writes)) unended
  granted w s (write_bytes b) = grant_write w s b (h.writes w.writes)
  granted w s close = grant_close w s h.close

-- at most n steps
unfoldable pub run : {X : Type 0} → Engine X → Host → List ℕ → ℕ → World → Step X → Run X
run E h lent zero w s = unended
run E h lent (suc n) w s = granted E h lent (λ w' s'. run E h lent n w' s') w s s.show

-- Steps allowed to a call: a read for each byte to come, five pieces for each message, the end error, the close, the answer.
abbrev pub enough : Call → World → ℕ
enough q w = length w.left + (5 * length (messages q) + 5)

abbrev pub run_call : {X : Type 0} → Engine X → Host → Made → World → X → List ℕ → List ℕ → Run X
run_call E h m w x rx msg = run E h (lent_of (h.spare w) m.call) (enough m.call w) (new_call w) (E.start x rx msg m (h.spare w))

-- what is logged of a call
pub record Entry : Type 0 where
  -- the bytes held, tail and the message buffer when it began
  pub held : List ℕ
  pub tail : ℕ
  pub msg : List ℕ
  pub answer : Answer
  pub asks : List Ask
  pub pieces : List (List ℕ)
  pub broken : List Broken
  pub composed : List ℕ
  pub closes : List (List (List ℕ))
  pub stopped : Option Stop
  -- the bytes held and still to come, tail and the message buffer when it was over
  pub unread : List ℕ
  pub ends : ℕ
  pub kept : List ℕ

abbrev pub on_run : {X : Type 0} → Engine X → (held : List ℕ) → (tail : ℕ) → (msg : List ℕ) → (World → X → List ℕ → List ℕ → List Entry) → Run X → List Entry
on_run E held tail msg k (over_with x rx msg' a w) =
    record { held = held; tail = tail; msg = msg; answer = a; asks = w.asks; pieces = w.pieces; broken = w.broken; composed = w.composed; closes = w.closes; stopped = w.stopped; unread = E.holds x rx ++ w.left; ends = E.tail x; kept = msg' } ∷ k w x rx msg'
on_run E held tail msg k unended = []

-- a list of calls; the log ends early where a call does not end
unfoldable pub log_of : {X : Type 0} → Engine X → Host → List Made → World → X → List ℕ → List ℕ → List Entry
log_of E h [] w x rx msg = []
log_of E h (m ∷ ms) w x rx msg = on_run E (E.holds x rx) (E.tail x) msg (λ w' x' rx' msg'. log_of E h ms w' x' rx' msg') (run_call E h m w x rx msg)
