-- Facts on what is reported: a read's end, a write's fault, the close; and on what a list of calls comes to. All are document 01's, "The plain
-- reader": "A push write that finds the channel closed: next(nothing); a 14 is the answer, all else is 12, and what was dropped stays
-- dropped. quit takes such a write as done. quit answers the write's error, else the close's."
-- Assumes nothing.
use Rattle.std.specs.Prelude.{ℕ, true, false, List, [], ◌∷◌, ◌++◌, map, drop, replicate}
use Rattle.std.proofs.Math.Option.{none}
use Rattle.protocol.specs.Answers as A
use Rattle.protocol.specs.Answers.{Answer, End, closed, error}
use Rattle.protocol.specs.Bytes.{ascii}
use Rattle.protocol.specs.Calls.{v1, v2, Call, call, next_entry, next_chunk, anytimes}
use Rattle.protocol.specs.Fact.{Fact}
use Rattle.protocol.specs.Ids.{published}
use Rattle.protocol.specs.Messages.{ask, stat, sta2, list, lis2, recv, rcv2, send, snd2, chunk, done, quit}
use Rattle.protocol.specs.Reader.{Config, Report, accepted, broke, Reply, plain_call, plain_answers, plain_writes}

-- a session with a capacity of 9 and every feature; what is reported of its close
abbrev session : Report → Config
session close = record { setting = record { dialect = published; features = replicate 7 true; ended = false }; capacity = 9; close = close }

abbrev left : Answer → List ℕ → Reply
left a u = record { answer = a; unread = u }

-- a call on these unread bytes, with r reported of its writes and e behind the bytes
abbrev row : Report → End → Call → (unread : List ℕ) → Reply → Fact Reply
row r e q u p = record { computed = plain_call (session accepted) e r q u; paper = p }

-- the same of some calls
abbrev each : List Call → Report → End → (unread : List ℕ) → Reply → List (Fact Reply)
each qs r e u p = map (λ q. row r e q u p) qs

abbrev path : List ℕ
path = ascii "/t"

abbrev readers : List Call
readers = call (ask stat path) ∷ call (ask sta2 path) ∷ next_entry v1 ∷ next_entry v2 ∷ next_chunk ∷ call (done 5) ∷ []

-- the calls that write and are no push
abbrev asking : List Call
asking = call (ask stat path) ∷ call (ask sta2 path) ∷ call (ask list path) ∷ call (ask lis2 path) ∷ call (ask recv path) ∷ call (rcv2 path 0) ∷ []

abbrev pushing : List Call
pushing = call (send path 1) ∷ call (snd2 path 1 0) ∷ call (chunk path) ∷ call (done 5) ∷ []

-- a FAIL whose text has 3 bytes, and one whose text has 11, 2 over the capacity
abbrev fail3 : List ℕ
fail3 = ascii "FAIL" ++ 3 ∷ 0 ∷ 0 ∷ 0 ∷ []

abbrev fail11 : List ℕ
fail11 = ascii "FAIL" ++ 11 ∷ 0 ∷ 0 ∷ 0 ∷ []

-- "E if U has fewer than n": 12, or 13 with its code
abbrev ends : List (Fact Reply)
ends =
    each readers accepted closed (ascii "DATA") (left (A.broken closed) (ascii "DATA"))
    ++ each readers accepted (error 7) (ascii "DATA") (left (A.broken (error 7)) (ascii "DATA"))
    ++ each readers accepted (error 0xffff_ffff) [] (left (A.broken (error 0xffff_ffff)) [])
    ++ each readers accepted (error 7) (fail3 ++ ascii "no") (left (A.broken (error 7)) (ascii "no"))

-- a write that broke, of a call that is no push: 12 or 13, nothing read
abbrev asked : List (Fact Reply)
asked =
    each asking (broke closed) (error 7) (fail3 ++ ascii "no!") (left (A.broken closed) (fail3 ++ ascii "no!"))
    ++ each asking (broke (error 9)) (error 7) (fail3 ++ ascii "no!") (left (A.broken (error 9)) (fail3 ++ ascii "no!"))
    ++ each asking (broke closed) (error 7) [] (left (A.broken closed) [])

-- a lost push: FAIL, whole, cut, and not all come; another id, its header left; too few bytes; nothing. Never the end error.
abbrev lost : List (Fact Reply)
lost =
    each pushing (broke closed) (error 7) (fail3 ++ ascii "no!DONE") (left (A.fail (ascii "no!")) (ascii "DONE"))
    ++ each pushing (broke closed) (error 7) (fail11 ++ ascii "no such dirDONE") (left (A.fail (ascii "no such d")) (ascii "DONE"))
    ++ each pushing (broke closed) (error 7) (fail3 ++ ascii "no") (left (A.broken closed) (ascii "no"))
    ++ each pushing (broke closed) (error 7) (fail11 ++ ascii "no such di") (left (A.broken closed) (ascii "i"))
    ++ each pushing (broke closed) (error 7) (ascii "OKAY" ++ 1 ∷ 2 ∷ 3 ∷ 4 ∷ 5 ∷ []) (left (A.broken closed) (ascii "OKAY" ++ 1 ∷ 2 ∷ 3 ∷ 4 ∷ 5 ∷ []))
    ++ each pushing (broke closed) (error 7) (ascii "DONE" ++ 1 ∷ 2 ∷ 3 ∷ 4 ∷ 5 ∷ []) (left (A.broken closed) (ascii "DONE" ++ 1 ∷ 2 ∷ 3 ∷ 4 ∷ 5 ∷ []))
    ++ each pushing (broke closed) (error 7) (ascii "FAIL") (left (A.broken closed) (ascii "FAIL"))
    ++ each pushing (broke closed) (error 7) [] (left (A.broken closed) [])
    -- "12 channel closed; 13 another error": only a closed channel is looked behind
    ++ each pushing (broke (error 9)) (error 7) (fail3 ++ ascii "no!") (left (A.broken (error 9)) (fail3 ++ ascii "no!"))
    ++ each pushing (broke (error 9)) closed [] (left (A.broken (error 9)) [])

-- quit by every pair of its write's report and the close's; it reads nothing
abbrev quits : (write close : Report) → Answer → Fact Reply
quits w c a = record { computed = plain_call (session c) (error 7) w (call quit) (fail3 ++ ascii "no!"); paper = left a (fail3 ++ ascii "no!") }

abbrev quitting : List (Fact Reply)
quitting =
    quits accepted accepted A.done
    ∷ quits accepted (broke closed) (A.broken closed)
    ∷ quits accepted (broke (error 8)) (A.broken (error 8))
    ∷ quits (broke closed) accepted A.done
    ∷ quits (broke closed) (broke closed) (A.broken closed)
    ∷ quits (broke closed) (broke (error 8)) (A.broken (error 8))
    ∷ quits (broke (error 9)) accepted (A.broken (error 9))
    ∷ quits (broke (error 9)) (broke closed) (A.broken (error 9))
    ∷ quits (broke (error 9)) (broke (error 8)) (A.broken (error 9))
    ∷ []

-- the close's report is quit's alone
abbrev unclosed : List (Fact Reply)
unclosed =
    map (λ q. record { computed = plain_call (session (broke (error 8))) (error 7) accepted q []; paper = left A.done [] })
    (call (ask list path) ∷ call (ask recv path) ∷ call (send path 1) ∷ call (chunk path) ∷ [])

-- "A call first meets refusals 6 to 10 in their order; a refused call changes nothing", whatever is reported of it
abbrev turned : List (Fact Reply)
turned =
    each (call (ask stat (0 ∷ [])) ∷ call (send (0 ∷ []) 1) ∷ call (send (replicate 1024 97 ++ 0 ∷ []) 1) ∷ []) (broke closed) (error 7) (fail3 ++ ascii "no!")
    (left (A.refused 8) (fail3 ++ ascii "no!"))

abbrev pub losses : List (Fact Reply)
losses = ends ++ asked ++ lost ++ quitting ++ unclosed ++ turned

-- ---- lists of calls

-- what a list of calls answers on these unread bytes, and W
pub record Listed : Type 0 where
  pub answers : List Answer
  pub bytes : List ℕ

abbrev listed : List Call → (unread : List ℕ) → List Answer → (W : List ℕ) → Fact Listed
listed qs u answers w =
    record {
      computed = record { answers = plain_answers none (session accepted) (error 7) (anytimes qs) u; bytes = plain_writes none (session accepted) (anytimes qs) };
      paper = record { answers = answers; bytes = w };
    }

abbrev chunk_calls : List Call
chunk_calls = next_chunk ∷ next_chunk ∷ next_chunk ∷ []

-- each call reads on where the one before it left off; "quit: write, close, ended", no other call ends a session, and 6 writes nothing
abbrev pub lists : List (Fact Listed)
lists =
    listed (call (ask recv path) ∷ chunk_calls)
    (ascii "DATA" ++ 1 ∷ 0 ∷ 0 ∷ 0 ∷ [] ++ ascii "x" ++ ascii "DATA" ++ 0 ∷ 0 ∷ 0 ∷ 0 ∷ [] ++ ascii "DONE" ++ 0 ∷ 0 ∷ 0 ∷ 0 ∷ [])
    (A.done ∷ A.chunk (ascii "x") ∷ A.chunk [] ∷ A.end ∷ [])
    (ascii "RECV" ++ 2 ∷ 0 ∷ 0 ∷ 0 ∷ [] ++ path)
    -- 15 and 17 leave the header, so that they come again; 14 takes all of it
    ∷ listed chunk_calls (ascii "OKAY" ++ 0 ∷ 0 ∷ 0 ∷ 0 ∷ []) (A.unexpected (ascii "OKAY") ∷ A.unexpected (ascii "OKAY") ∷ A.unexpected (ascii "OKAY") ∷ []) []
    ∷ listed chunk_calls (ascii "DATA" ++ 2 ∷ 0 ∷ 0 ∷ 0 ∷ [] ++ ascii "xy") (A.too_large ∷ A.too_large ∷ A.too_large ∷ []) []
    ∷ listed chunk_calls (fail3 ++ ascii "no!" ++ ascii "DONE" ++ 0 ∷ 0 ∷ 0 ∷ 0 ∷ []) (A.fail (ascii "no!") ∷ A.end ∷ A.broken (error 7) ∷ []) []
    ∷ listed (call quit ∷ call quit ∷ call (ask stat path) ∷ call (send path 1) ∷ call (chunk path) ∷ call (done 5) ∷ next_entry v1 ∷ next_chunk ∷ [])
    (ascii "DONE" ++ 0 ∷ 0 ∷ 0 ∷ 0 ∷ [])
    (A.done ∷ A.refused 6 ∷ A.refused 6 ∷ A.refused 6 ∷ A.refused 6 ∷ A.refused 6 ∷ A.refused 6 ∷ A.refused 6 ∷ [])
    (ascii "QUIT" ++ 0 ∷ 0 ∷ 0 ∷ 0 ∷ [])
    -- what a session knows stays: its features, and the close's report
    ∷ listed (call (ask lis2 path) ∷ call (ask lis2 path) ∷ call (rcv2 path 4) ∷ []) [] (A.done ∷ A.done ∷ A.done ∷ [])
    (ascii "LIS2" ++ 2 ∷ 0 ∷ 0 ∷ 0 ∷ [] ++ path ++ ascii "LIS2" ++ 2 ∷ 0 ∷ 0 ∷ 0 ∷ [] ++ path ++ ascii "RCV2" ++ 2 ∷ 0 ∷ 0 ∷ 0 ∷ [] ++ path ++ ascii "RCV2" ++ 4 ∷ 0 ∷ 0 ∷ 0 ∷ [])
    -- SEND-file, all that was sent and all that came
    ∷ listed (call (send (ascii "/w/a") 33188) ∷ call (chunk (ascii "contents" ++ 10 ∷ [])) ∷ call (done 1600000000) ∷ [])
    (ascii "OKAY" ++ 0 ∷ 0 ∷ 0 ∷ 0 ∷ [])
    (A.done ∷ A.done ∷ A.done ∷ [])
    (ascii "SEND" ++ 10 ∷ 0 ∷ 0 ∷ 0 ∷ [] ++ ascii "/w/a,33188" ++ ascii "DATA" ++ 9 ∷ 0 ∷ 0 ∷ 0 ∷ [] ++ ascii "contents" ++ 10 ∷ ascii "DONE" ++ 0 ∷ 0x10 ∷ 0x5e ∷ 0x5f ∷ [])
    ∷ []

-- no call but quit ends the session: the next one is not refused; the close's report is there for the quit that comes later
abbrev pub goes_on : List (Fact (List Answer))
goes_on =
    record { computed = plain_answers none (session (broke (error 8))) (error 7) (anytimes (call (ask list path) ∷ call quit ∷ [])) []; paper = A.done ∷ A.broken (error 8) ∷ [] }
    ∷ map (λ q. record { computed = drop 1 (plain_answers none (session accepted) (error 7) (anytimes (q ∷ next_chunk ∷ [])) []); paper = A.broken (error 7) ∷ [] })
    (asking ++ pushing ++ next_entry v1 ∷ next_entry v2 ∷ next_chunk ∷ [])
