-- Facts on misuse: what is answered where more than one reason is there, by "The written order becomes 1, 2, then 3, 6, 4, 5, 8, 7, 9, 10"
-- (document 02, [6]) and "For a report: 3, 6, 5, 11" (document 01), and each reason by itself.
-- Assumes nothing.
use Rattle.std.specs.Prelude.{ℕ, ◌<◌, ◌^◌, Bool, true, false, List, [], ◌∷◌, ◌++◌, map, length, replicate}
use Rattle.std.proofs.Math.Option.{Option, none, some}
use Rattle.protocol.specs.Answers as A
use Rattle.protocol.specs.Answers.{Answer, refused, missing}
use Rattle.protocol.specs.Bytes.{Bytes, ascii}
use Rattle.protocol.specs.Fact.{Fact}
use Rattle.record.specs.Record.{size}
use Rattle.session.specs.Host.{Show, told, read, write_rx, write_lent, write_bytes, close}
use Rattle.boundary_misuse.specs.Misuse.{Act, start, report, HostReport, has_read, wrote, fault, WideAct, Wide, Event, Seen, open_refused, refusal}
use Rattle.boundary_misuse.specs.Claim.{seen_after}

-- a session opened with buffers of 16 and 20 bytes and no feature, whose last call was lent two bytes; what was last asked or told
abbrev seen : Show → (ended : Bool) → Seen
seen last ended = record { capacity = 16; message = 20; features = replicate 7 false; lent = 2; last = last; ended = ended }

abbrev lending : Act → (lent : List ℕ) → (rx msg out : ℕ) → Event
lending a lent rx msg out = record { act = a; lent = lent; rx = replicate rx 0; msg = replicate msg 0; out = replicate out 0 }

-- with these two bytes and slices of these lengths
abbrev row : Show → (ended : Bool) → Act → (lent : List ℕ) → (rx msg out : ℕ) → Option Answer → Fact (Option Answer)
row last ended a lent rx msg out p = record { computed = refusal (seen last ended) (lending a lent rx msg out); paper = p }

abbrev path : List ℕ
path = ascii "/t"

-- with the lengths of the opening
abbrev fits : Show → (ended : Bool) → Act → Option Answer → Fact (Option Answer)
fits last ended a p = row last ended a path 16 20 120 p

abbrev idle : Show
idle = told A.done

-- what can be asked
abbrev asks : List Show
asks = read 3 5 ∷ write_rx 3 5 ∷ write_lent 0 2 ∷ write_bytes path ∷ close ∷ []

-- the slices of other lengths: either buffer, and a reply's slice of 119
abbrev misfit : Show → (ended : Bool) → Act → List (Fact (Option Answer))
misfit last ended a =
    row last ended a path 15 20 120 (some (refused 3))
    ∷ row last ended a path 17 20 120 (some (refused 3))
    ∷ row last ended a path 16 19 120 (some (refused 3))
    ∷ row last ended a path 16 21 120 (some (refused 3))
    ∷ row last ended a path 16 20 119 (some (refused 3))
    ∷ []

-- a path of 1,025 bytes; one whose NUL is the first byte behind the limit; both beside a NUL alone; the calls that have a path
abbrev long : List ℕ
long = replicate 1025 97

abbrev long_nul : List ℕ
long_nul = replicate 1024 97 ++ 0 ∷ []

abbrev bad_paths : List (List ℕ)
bad_paths = (0 ∷ []) ∷ long_nul ∷ long ∷ []

abbrev path_calls : List ℕ
path_calls = 1 ∷ 2 ∷ 3 ∷ 4 ∷ 5 ∷ 6 ∷ 7 ∷ 8 ∷ []

abbrev called : List (Fact (Option Answer))
called =
    fits idle false (start 1 0 0 0) none
    ∷ row idle false (start 1 0 0 0) (ascii "/a/longer/path") 16 20 120 none
    ∷ row idle false (start 1 0 0 0) path 16 20 200 none
    -- 3 before 6, 4 and 5
    ∷ misfit idle false (start 1 0 0 0)
    ++ misfit idle true (start 0 0 0 0)
    ++ misfit (read 3 5) false (start 0 0 0 0)
    -- 6 before 4 and 5; 4 before 5, whatever is asked; 5 for a number that is no call's
    ++ fits idle true (start 0 0 0 0) (some (refused 6))
    ∷ fits (read 3 5) true (start 1 0 0 0) (some (refused 6))
    ∷ map (λ s. fits s false (start 0 0 0 0) (some (refused 4))) asks
    ++ map (λ s. fits s false (start 1 0 0 0) (some (refused 4))) asks
    ++ map (λ n. fits idle false (start n 3 3 0) (some (refused 5))) (0 ∷ 15 ∷ 255 ∷ 257 ∷ [])
    -- 3, 6, 4 and 5 before 8 and 7; 8 before 7; both before 9, 9 before 10; the flags are the second number, of 6 and 8
    ++ map (λ p. row idle true (start 6 3 3 0) p 15 20 120 (some (refused 3))) bad_paths
    ++ map (λ p. row idle true (start 6 3 3 0) p 16 20 120 (some (refused 6))) bad_paths
    ++ map (λ p. row (read 3 5) false (start 6 3 3 0) p 16 20 120 (some (refused 4))) bad_paths
    ++ map (λ p. row idle false (start 15 3 3 0) p 16 20 120 (some (refused 5))) bad_paths
    ++ map (λ n. row idle false (start n 3 3 0) long_nul 16 20 120 (some (refused 8))) path_calls
    ++ map (λ n. row idle false (start n 3 3 0) long 16 20 120 (some (refused 7))) path_calls
    ++ row idle false (start 6 3 3 0) (0 ∷ []) 16 20 120 (some (refused 8))
    ∷ fits idle false (start 6 0 3 0) (some (refused 9))
    ∷ fits idle false (start 8 0 3 0) (some (refused 9))
    ∷ fits idle false (start 6 3 0 0) (some (missing 3))
    ∷ fits idle false (start 8 3 0 0) (some (missing 3))
    ∷ fits idle false (start 2 3 3 0) (some (missing 1))
    ∷ fits idle false (start 4 3 3 0) (some (missing 2))
    ∷ map (λ n. fits idle false (start n 3 3 0) none) (1 ∷ 3 ∷ 5 ∷ 7 ∷ 9 ∷ 10 ∷ 11 ∷ 12 ∷ 13 ∷ 14 ∷ [])

abbrev reports : List HostReport
reports = has_read 1 ∷ wrote ∷ fault 0 0 ∷ fault 1 7 ∷ []

-- a report, with a path of another length
abbrev other_lent : Show → (ended : Bool) → HostReport → Option Answer → Fact (Option Answer)
other_lent last ended r p = row last ended (report r) (ascii "/") 16 20 120 p

abbrev reported : List (Fact (Option Answer))
reported =
    -- 3 before 6 and 5, of the buffers; of the path or data while a call is pending
    misfit idle true (report wrote)
    ++ misfit (read 3 5) false (report wrote)
    ++ map (λ s. other_lent s false wrote (some (refused 3))) asks
    ++ map (λ s. other_lent s false (has_read 0) (some (refused 3))) asks
    ++ map (λ r. other_lent idle false r (some (refused 5))) reports
    -- 6 before 5; 5 before 11
    ++ map (λ r. fits idle true (report r) (some (refused 6))) reports
    ++ map (λ r. fits idle false (report r) (some (refused 5))) reports
    ++ map (λ s. fits s false (report (has_read 0)) (some (refused 5))) (write_rx 3 5 ∷ write_lent 0 2 ∷ write_bytes path ∷ close ∷ [])
    ++ fits (read 3 5) false (report wrote) (some (refused 5))
    -- 11 "a read of 0 bytes or beyond the window"
    ∷ fits (read 3 5) false (report (has_read 0)) (some (refused 11))
    ∷ fits (read 3 5) false (report (has_read 6)) (some (refused 11))
    ∷ fits (read 3 5) false (report (has_read 5)) none
    ∷ fits (read 3 5) false (report (has_read 1)) none
    -- a write or the close is accepted, or any of them comes to a fault
    ∷ map (λ s. fits s false (report wrote) none) (write_rx 3 5 ∷ write_lent 0 2 ∷ write_bytes path ∷ close ∷ [])
    ++ map (λ s. fits s false (report (fault 0 0)) none) asks
    ++ map (λ s. fits s false (report (fault 1 7)) none) asks

-- "1 receive buffer under 8; 2 message buffer shorter than the receive buffer"; a record of another length than the session takes; settings of another
-- length than 128, without a table, with two equal ids
abbrev room : List ℕ
room = replicate 68 0

abbrev small : List ℕ
small = ascii "statsta2listlis2sendsnd2recvrcv2datadoneokayfaildentdnt2quit" ++ room

abbrev spaced : List ℕ
spaced = ascii "statsta2listlis2sendsnd2recvrcv2datadoneokayfaildentdn 2stat" ++ room

abbrev twice : List ℕ
twice = ascii "statsta2listlis2sendsnd2recvrcv2datadoneokayfaildentdnt2stat" ++ room

abbrev lends : (record-length : ℕ) → (settings : List ℕ) → (rx msg : ℕ) → Option Answer → Fact (Option Answer)
lends n s rx msg p = record { computed = open_refused size (replicate n 0) s rx msg; paper = p }

abbrev opens : (record-length rx msg : ℕ) → Option Answer → Fact (Option Answer)
opens n rx msg p = lends n small rx msg p

abbrev opening : List (Fact (Option Answer))
opening =
    opens 256 8 8 none
    ∷ opens 256 8 9 none
    ∷ opens 256 7 7 (some (refused 1))
    ∷ opens 256 7 6 (some (refused 1))
    ∷ opens 256 8 7 (some (refused 2))
    ∷ opens 255 7 6 (some (refused 1))
    ∷ opens 255 8 7 (some (refused 2))
    ∷ opens 255 8 8 (some (refused 3))
    ∷ opens 257 8 8 (some (refused 3))
    -- "22 .. 23, form first", behind 1, 2 and 3
    ∷ lends 256 (0 ∷ small) 8 8 (some (refused 3))
    ∷ lends 256 [] 8 8 (some (refused 3))
    ∷ lends 256 spaced 8 8 (some (refused 22))
    ∷ lends 256 twice 8 8 (some (refused 23))
    ∷ lends 256 (replicate 128 0) 8 8 (some (refused 22))
    ∷ lends 256 twice 7 7 (some (refused 1))
    ∷ lends 256 spaced 8 7 (some (refused 2))
    ∷ lends 255 twice 8 8 (some (refused 3))
    ∷ []

abbrev pub cases : List (Fact (Option Answer))
cases = called ++ reported ++ opening

-- what the host has seen afterwards: quit has ended once its close is reported, whatever the report; a call's lent length is its own
abbrev after : Show → Act → Bool × ℕ → Fact (Bool × ℕ)
after last a p =
    let s = seen_after (seen last false) (lending a (ascii "/a/b") 16 20 120) a idle in
    record { computed = (s.ended, s.lent); paper = p }

abbrev pub afterwards : List (Fact (Bool × ℕ))
afterwards =
    after close (report wrote) (true, 2)
    ∷ after close (report (fault 0 0)) (true, 2)
    ∷ after close (report (fault 1 7)) (true, 2)
    ∷ after (write_bytes path) (report wrote) (false, 2)
    ∷ after (write_rx 3 5) (report wrote) (false, 2)
    ∷ after (read 3 5) (report (has_read 5)) (false, 2)
    ∷ after idle (start 11 0 0 0) (false, 4)
    ∷ []

-- what is said of misuse is said of every number of a call, every mode, time, flag word, moment and code of 32 bits, every count, all slices of under 2^63 bytes
pub record Widths : Type 0 where
  pub starts : (n a b t : ℕ) → a < 2 ^ 32 → b < 2 ^ 32 → t < 2 ^ 32 → WideAct (start n a b t)
  pub reads : (k : ℕ) → WideAct (report (has_read k))
  pub writes : WideAct (report wrote)
  pub faults : (kind code : ℕ) → code < 2 ^ 32 → WideAct (report (fault kind code))
  pub events : (e : Event) → WideAct e.act → length e.lent < 2 ^ 63 → length e.msg < 2 ^ 63 → length e.out < 2 ^ 63 → Bytes e.rx → Wide e
