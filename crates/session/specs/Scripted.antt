-- Facts on the host: what is logged of a session that follows a script, one thing asked or told after another. It grants what was asked, byte
-- for byte, reports it, and writes down each read, piece, fault and close; "a call ends or says "read into this window" or "write this piece";
-- the host reports and continues" (document 01).
-- Assumes nothing.
use Rattle.std.specs.Prelude.{ℕ, List, [], ◌∷◌, eqb, length, drop}
use Rattle.std.proofs.Math.Option.{none}
use Rattle.protocol.specs.Answers as A
use Rattle.protocol.specs.Answers.{Answer, End, closed, error}
use Rattle.protocol.specs.Bytes.{pick, ascii}
use Rattle.protocol.specs.Calls.{Call, call, anytimes}
use Rattle.protocol.specs.Fact.{Fact}
use Rattle.protocol.specs.Messages.{send}
use Rattle.protocol.specs.Reader.{Report, accepted, broke}
use Rattle.session.specs.Host.{Show, told, read, write_rx, write_lent, write_bytes, close, Step, Engine, Ask, Broken, Host, Entry, at_start, log_of}

-- the next line of a script
abbrev line : List Show → (rx msg : List ℕ) → Step (List Show)
line [] rx msg = record { x = []; rx = rx; msg = msg; show = told A.done }
line (s ∷ more) rx msg = record { x = more; rx = rx; msg = msg; show = s }

-- It holds what lies from 4 on; a fault ends its call with that error, and the script goes on with the next.
abbrev scripted : Engine (List Show)
scripted =
    record {
      start = λ x rx msg q z. line x rx msg;
      on_read = λ x rx msg lent n z. line x rx msg;
      on_wrote = λ x rx msg lent z. line x rx msg;
      on_fault = λ x rx msg lent e z. record { x = x; rx = rx; msg = msg; show = told (A.broken e) };
      holds = λ x rx. drop 4 rx;
      tail = λ x. length x;
    }

-- reads of three bytes, the rest of a window filled with "-"; what is reported of the second write and of the close
abbrev host : Report → Report → Host
host second at_close =
    record {
      count = λ i. 3;
      fails = λ i. none;
      junk = λ i j. 45;
      writes = λ i. pick (eqb i 1) second accepted;
      close = at_close;
      end = error 7;
      spare = λ w. record { out = []; lent = []; first = 0; second = 0; kind = 0; code = 0 };
    }

abbrev pushes : Call
pushes = call (send (ascii "/t") 1)

abbrev msg : List ℕ
msg = ascii "ABCDEFGHIJ"

-- the log of some calls on a buffer "abcdefgh"
abbrev row : Report → Report → List Call → List Show → (incoming : List ℕ) → List Entry → Fact (List Entry)
row second at_close qs script incoming log =
    record { computed = log_of scripted (host second at_close) (anytimes qs) (at_start incoming) script (ascii "abcdefgh") msg; paper = log }

abbrev script : List Show
script = write_rx 2 3 ∷ write_lent 0 2 ∷ write_bytes (ascii "QU") ∷ read 4 4 ∷ close ∷ told A.end ∷ []

abbrev three : List (List ℕ)
three = ascii "cde" ∷ ascii "/t" ∷ ascii "QU" ∷ []

-- an entry that begins with "efgh" held and a tail of so much
abbrev entry : (tail : ℕ) → Answer → List Ask → List (List ℕ) → List Broken → (composed : List ℕ) → (closes : List (List (List ℕ))) → (unread : List ℕ) → (ends : ℕ) → Entry
entry tail a asks pieces broken composed closes unread ends =
    record {
      held = ascii "efgh";
      tail = tail;
      msg = msg;
      answer = a;
      asks = asks;
      pieces = pieces;
      broken = broken;
      composed = composed;
      closes = closes;
      stopped = none;
      unread = unread;
      ends = ends;
      kept = msg;
    }

abbrev asked : (rest : List ℕ) → (before : List (List ℕ)) → (brought : ℕ) → Ask
asked rest before n = record { rest = rest; holds = ascii "efgh"; at = 4; len = 4; before = before; brought = n }

abbrev pub logs : List (Fact (List Entry))
logs =
    row accepted accepted (pushes ∷ []) script (ascii "123456")
    (entry 6 A.end (asked (ascii "123456") three 3 ∷ []) three [] (2 ∷ []) (three ∷ []) (ascii "123-456") 0 ∷ [])
    -- the close comes to a fault
    ∷ row accepted (broke closed) (pushes ∷ []) script (ascii "123456")
    (entry 6 (A.broken closed) (asked (ascii "123456") three 3 ∷ []) three [] (2 ∷ []) (three ∷ []) (ascii "123-456") 1 ∷ [])
    -- the second write does: the pieces before it, and that one
    ∷ row (broke (error 9)) accepted (pushes ∷ []) script (ascii "123456")
    (entry 6 (A.broken (error 9)) [] (ascii "cde" ∷ []) (record { piece = ascii "/t"; fault = error 9; before = ascii "cde" ∷ [] } ∷ []) (2 ∷ []) [] (ascii "efgh123456") 4 ∷ [])
    -- the incoming bytes have ended, or end in the window
    ∷ row accepted accepted (pushes ∷ []) (read 4 4 ∷ told A.end ∷ []) [] (entry 2 (A.broken (error 7)) (asked [] [] 0 ∷ []) [] [] [] [] (ascii "----") 1 ∷ [])
    ∷ row accepted accepted (pushes ∷ []) (read 4 4 ∷ told A.end ∷ []) (ascii "12")
    (entry 2 A.end (asked (ascii "12") [] 2 ∷ []) [] [] [] [] (ascii "12--") 0 ∷ [])
    -- a second call begins with nothing logged, and writes on
    ∷ row (broke closed) accepted (pushes ∷ pushes ∷ []) (write_rx 1 1 ∷ told A.done ∷ write_rx 3 2 ∷ told A.end ∷ []) []
    (entry 4 A.done [] (ascii "b" ∷ []) [] (1 ∷ []) [] (ascii "efgh") 2
    ∷ entry 2 (A.broken closed) [] [] (record { piece = ascii "de"; fault = closed; before = [] } ∷ []) (3 ∷ []) [] (ascii "efgh") 1
    ∷ [])
    -- what cannot be granted ends the log: a window of no bytes, one past the buffer, parts past the buffer and past what is lent
    ∷ row accepted accepted (pushes ∷ []) (read 4 0 ∷ []) (ascii "123") []
    ∷ row accepted accepted (pushes ∷ []) (read 5 4 ∷ []) (ascii "123") []
    ∷ row accepted accepted (pushes ∷ []) (write_rx 6 3 ∷ []) [] []
    ∷ row accepted accepted (pushes ∷ []) (write_lent 1 2 ∷ []) [] []
    ∷ []
