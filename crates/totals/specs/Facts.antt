-- Facts on totals and reads: document 02's [7] and [8] and the trials that came with them. What an event adds, what is refused, where the numbers lie, sessions run on
-- a record with totals, moment by moment, and the plain reader's card.
-- Assumes nothing.
use Rattle.std.specs.Prelude.{ℕ, suc, ◌+◌, ◌*◌, ◌≤◌, ◌<◌, ◌^◌, Bool, true, false, List, [], ◌∷◌, ◌++◌, ◌≡◌, length, replicate}
use Rattle.std.proofs.Math.Option.{Option, none, some}
use Rattle.protocol.specs.Answers as A
use Rattle.protocol.specs.Answers.{Answer, refused, closed}
use Rattle.protocol.specs.Bytes.{ascii, over}
use Rattle.protocol.specs.Calls.{v1, Call, call, next_entry, Made, anytimes}
use Rattle.protocol.specs.Hours.{Hours}
use Rattle.protocol.specs.Fact.{Fact}
use Rattle.protocol.specs.Ids.{letters, published}
use Rattle.protocol.specs.Messages.{stat, ask, quit, send}
use Rattle.protocol.specs.Reader.{Config, accepted, plain_writes}
use Rattle.id_table.specs.Settings.{settings_of}
use Rattle.record.specs.Record.{words}
use Rattle.session.specs.Demand3.{below, Within}
use Rattle.session.specs.Host.{Show, told, read, write_rx, write_lent, write_bytes, close, Entry}
use Rattle.session_layer.specs.Layer.{sizes, brought}
use Rattle.session_reads.specs.Counted.{reads_in}
use Rattle.boundary.specs.Crossing.{Crossed, crossed}
use Rattle.boundary.specs.Told.{out_size}
use Rattle.boundary_misuse.specs.Misuse.{Act, start, report, has_read, wrote, fault, Event, Seen}
use Rattle.totals.specs.System.{total_functions}
use Rattle.totals.specs.Card.{total_by, Sums, adds, sums_after, Shows, refused_by, count_in, AnswersBy, EveryMoment}
use Rattle.totals.specs.Crossing.{record_size, limit, overflowed, received_of, consumed_of, written_of, reads_of, total_open}
use Rattle.totals.specs.Logged.{CardAt, CardsAt, plain_cards, shown_by}

-- ---- the sums: "the sum of the counts reported by accepted reads, written the sum of accepted piece lengths"

abbrev path : List ℕ
path = ascii "/t"

abbrev seen : Show → (ended : Bool) → Seen
seen last ended = record { capacity = 16; message = 20; features = replicate 7 false; lent = 2; last = last; ended = ended }

abbrev sums : (received written : ℕ) → Sums
sums r n = record { received = r; written = n; reads = 0 }

abbrev summing : (received written reads : ℕ) → Sums
summing r n k = record { received = r; written = n; reads = k }

abbrev adding : Show → Act → (received written reads : ℕ) → Fact Sums
adding last a r n k = record { computed = adds (seen last false) (summing 100 200 7) a; paper = summing r n k }

abbrev pub added : List (Fact Sums)
added =
    adding (read 3 5) (report (has_read 4)) 104 200 8
    ∷ adding (write_rx 3 5) (report wrote) 100 205 7
    ∷ adding (write_lent 3 6) (report wrote) 100 206 7
    ∷ adding (write_bytes (ascii "QUIT1234")) (report wrote) 100 208 7
    ∷ adding (write_lent 3 65536) (report wrote) 100 65736 7
    ∷ adding (write_rx 3 4294967297) (report wrote) 100 4294967497 7
    ∷ adding (read 3 5) (report (has_read 4294967297)) 4294967397 200 8
    -- "a fault or a close adds nothing", nor does a call
    ∷ adding close (report wrote) 100 200 7
    ∷ adding (read 3 5) (report (fault 0 0)) 100 200 7
    ∷ adding (write_rx 3 5) (report (fault 1 7)) 100 200 7
    ∷ adding close (report (fault 1 7)) 100 200 7
    ∷ adding (told A.done) (start 1 0 0 0) 100 200 0
    -- what is refused adds nothing
    ∷ record { computed = sums_after (some (refused 11)) (summing 1 2 5) (summing 3 4 6); paper = summing 1 2 5 }
    ∷ record { computed = sums_after none (summing 1 2 5) (summing 3 4 6); paper = summing 3 4 6 }
    ∷ []

-- ---- "A read or write report that would pass 2^64 − 1 in a total is answered 21, after 11"; "order of a report: 3, 6, 5, 11, 21"

-- the largest total
abbrev most : ℕ
most = 18446744073709551615

abbrev refusing : Show → (ended : Bool) → Sums → Act → (rx : ℕ) → Option Answer → Fact (Option Answer)
refusing last ended t a rx p =
    record {
      computed = refused_by none (seen last ended) t (record { act = a; lent = path; rx = replicate rx 0; msg = replicate 20 0; out = replicate 120 0 });
      paper = p;
    }

abbrev pub refusals : List (Fact (Option Answer))
refusals =
    -- reaching it is allowed, of either total
    refusing (read 3 5) false (sums 18446744073709551612 0) (report (has_read 3)) 16 none
    ∷ refusing (read 3 5) false (sums 18446744073709551612 0) (report (has_read 4)) 16 (some (refused 21))
    ∷ refusing (write_rx 3 5) false (sums 0 18446744073709551610) (report wrote) 16 none
    ∷ refusing (write_rx 3 6) false (sums 0 18446744073709551610) (report wrote) 16 (some (refused 21))
    ∷ refusing (write_lent 0 2) false (sums 0 most) (report wrote) 16 (some (refused 21))
    ∷ refusing (write_bytes path) false (sums 0 most) (report wrote) 16 (some (refused 21))
    -- each total by itself; a close, a fault and a call add nothing
    ∷ refusing (read 3 5) false (sums 0 most) (report (has_read 5)) 16 none
    ∷ refusing (write_rx 3 5) false (sums most 0) (report wrote) 16 none
    ∷ refusing close false (sums most most) (report wrote) 16 none
    ∷ refusing (write_rx 3 5) false (sums most most) (report (fault 1 7)) 16 none
    ∷ refusing (read 3 5) false (sums most most) (report (fault 0 0)) 16 none
    ∷ refusing (told A.done) false (sums most most) (start 1 0 0 0) 16 none
    -- "a read report that would take a pending call's read count past 2^64 − 1 is 21 too" ([12]); a write, a close and a fault are no read, and a call begins with none
    ∷ refusing (read 3 5) false (summing 0 0 18446744073709551614) (report (has_read 5)) 16 none
    ∷ refusing (read 3 5) false (summing 0 0 most) (report (has_read 1)) 16 (some (refused 21))
    ∷ refusing (read 3 5) false (summing 0 0 most) (report (has_read 6)) 16 (some (refused 11))
    ∷ refusing (write_rx 3 5) false (summing 0 0 most) (report wrote) 16 none
    ∷ refusing close false (summing 0 0 most) (report wrote) 16 none
    ∷ refusing (read 3 5) false (summing 0 0 most) (report (fault 0 0)) 16 none
    ∷ refusing (told A.done) false (summing 0 0 most) (start 1 0 0 0) 16 none
    -- 3, 6, 5 and 11 first
    ∷ refusing (read 3 5) false (sums most 0) (report (has_read 5)) 15 (some (refused 3))
    ∷ refusing (write_rx 3 5) false (sums 0 most) (report wrote) 15 (some (refused 3))
    ∷ refusing (write_rx 3 5) true (sums 0 most) (report wrote) 16 (some (refused 6))
    ∷ refusing (read 3 5) true (sums most 0) (report (has_read 5)) 16 (some (refused 6))
    ∷ refusing (told A.done) false (sums most most) (report (has_read 5)) 16 (some (refused 5))
    ∷ refusing (read 3 5) false (sums most most) (report wrote) 16 (some (refused 5))
    ∷ refusing (write_rx 3 5) false (sums most most) (report (has_read 5)) 16 (some (refused 5))
    ∷ refusing (read 3 5) false (sums most most) (report (has_read 6)) 16 (some (refused 11))
    ∷ refusing (read 3 5) false (sums most most) (report (has_read 0)) 16 (some (refused 11))
    ∷ refusing (read 3 5) false (sums most most) (start 1 0 0 0) 16 (some (refused 4))
    ∷ []

-- ---- where the numbers lie (include/yuglasno.h): 296 bytes ahead of the hours, the totals from byte 256 on, the reads from 288 on, eight bytes each, the lowest first; in a reply of 120
-- bytes the reads from 112 on

abbrev numbered : ℕ → ℕ → Fact ℕ
numbered a b = record { computed = a; paper = b }

abbrev marked : List ℕ
marked = replicate 256 9 ++ 1 ∷ 2 ∷ 0 ∷ 0 ∷ 0 ∷ 0 ∷ 0 ∷ 0 ∷ 3 ∷ 4 ∷ 0 ∷ 0 ∷ 0 ∷ 0 ∷ 0 ∷ 0 ∷ 5 ∷ 6 ∷ 0 ∷ 0 ∷ 0 ∷ 0 ∷ 0 ∷ 0x80 ∷ replicate 8 9 ++ 7 ∷ 8 ∷ replicate 6 0

abbrev pub places : List (Fact ℕ)
places =
    numbered record_size 296
    ∷ numbered limit 18446744073709551616
    ∷ numbered overflowed 21
    ∷ numbered (received_of marked) 513
    ∷ numbered (consumed_of marked) 1027
    ∷ numbered (written_of marked) 9223372036854777349
    ∷ numbered (reads_of marked) 2055
    ∷ numbered (count_in (crossed [] [] [] (replicate 112 9 ++ 3 ∷ 4 ∷ replicate 6 0) 0)) 1027
    ∷ numbered out_size 120
    ∷ []

-- "3 for a record of another length", behind 1 and 2 (DECISIONS 70)
abbrev lends : (record-length rx msg : ℕ) → ℕ → Fact ℕ
lends n rx msg p = record { computed = (total_open (replicate n 9) (settings_of letters) [] rx msg).number; paper = p }

abbrev pub opening : List (Fact ℕ)
opening =
    lends 296 8 8 0
    ∷ lends 295 8 8 3
    ∷ lends 297 8 8 3
    ∷ lends 288 8 8 3
    ∷ lends 256 8 8 3
    ∷ lends 0 8 8 3
    ∷ lends 256 7 8 1
    ∷ lends 256 8 7 2
    ∷ []

-- ---- sessions, moment by moment

-- bytes that were read into a window that begins there, or what is done without any: a call, a report
pub data Move : Type 0 where
  brings : (start : ℕ) → List ℕ → Move
  does : Act → Move

abbrev calls : (number : ℕ) → Move
calls n = does (start n 0 0 0)

abbrev writes : Move
writes = does (report wrote)

abbrev nothing : Move
nothing = does (report (has_read 0))

abbrev faults : (code : ℕ) → Move
faults code = does (report (fault 1 code))

abbrev shuts : Move
shuts = does (report (fault 0 0))

abbrev slice : List ℕ
slice = replicate 120 9

-- what is lent does not change
module _ (lent : List ℕ) where
  abbrev event : Crossed → (rx : List ℕ) → Act → Event
  event c rx a = record { act = a; lent = lent; rx = rx; msg = c.msg; out = slice }

  abbrev moved : Crossed → Move → Crossed
  moved c (brings i b) = total_by c.rec (event c (over c.rx i b) (report (has_read (length b))))
  moved c (does a) = total_by c.rec (event c c.rx a)

  -- the number returned; received, consumed, written and the reads in the record; the reads in the reply
  abbrev shown : Crossed → List ℕ
  shown c = c.number ∷ received_of c.rec ∷ consumed_of c.rec ∷ written_of c.rec ∷ reads_of c.rec ∷ count_in c ∷ []

  abbrev moments : Crossed → List Move → List (List ℕ)
  moments c [] = []
  moments c (m ∷ ms) = shown (moved c m) ∷ moments (moved c m) ms

-- something is asked, and the slice's last eight bytes stay nines
abbrev asks : (number received consumed written reads : ℕ) → List ℕ
asks a r c n k = a ∷ r ∷ c ∷ n ∷ k ∷ 0x0909_0909_0909_0909 ∷ []

-- document 01's number is told, with a count
abbrev tells : (number received consumed written reads count : ℕ) → List ℕ
tells a r c n k i = 256 * a ∷ r ∷ c ∷ n ∷ k ∷ i ∷ []

-- a fresh session with no features, on buffers of c bytes, its record put on top of nines
abbrev fresh : ℕ → Crossed
fresh c = crossed (total_open (replicate 296 9) (settings_of letters) [] c c).rec (replicate c 7) (replicate c 7) slice 0

abbrev runs : (capacity : ℕ) → (lent : List ℕ) → List Move → List (List ℕ) → Fact (List (List ℕ))
runs c lent ms p = record { computed = moments lent (fresh c) ms; paper = p }

abbrev stat_reply : List ℕ
stat_reply = ascii "STAT" ++ replicate 12 1

-- "stat "/a", its reply in reads of 3 and 13: received 16, consumed 16, written 10. .. A read of 0: 11, totals unchanged."
abbrev pub stats : List (Fact (List (List ℕ)))
stats =
    -- refused with 11, 4 and 5 in between, each with no reads, and leaving those in the record; two reads, and the next call has none yet
    runs 16 (ascii "/a")
    (calls 1 ∷ writes ∷ nothing ∷ brings 0 (ascii "STA") ∷ nothing ∷ calls 1 ∷ writes ∷ brings 3 (ascii "T" ++ replicate 12 1) ∷ writes ∷ calls 1 ∷ writes ∷ [])
    (asks 2 0 0 0 0
    ∷ asks 1 0 0 10 0
    ∷ tells 11 0 0 10 0 0
    ∷ asks 1 3 0 10 1
    ∷ tells 11 3 0 10 1 0
    ∷ tells 4 3 0 10 1 0
    ∷ tells 5 3 0 10 1 0
    ∷ tells 0 16 16 10 2 2
    ∷ tells 5 16 16 10 2 0
    ∷ asks 2 16 16 10 0
    ∷ asks 1 16 16 20 0
    ∷ [])
    -- a faulted piece is not counted
    ∷ runs 16 (ascii "/a") (calls 1 ∷ faults 5 ∷ []) (asks 2 0 0 0 0 ∷ tells 13 0 0 0 0 0 ∷ [])
    ∷ runs 16 (ascii "/a") (calls 1 ∷ shuts ∷ []) (asks 2 0 0 0 0 ∷ tells 12 0 0 0 0 0 ∷ [])
    -- bytes behind the reply are received, and held; a call that is refused with 10 has no reads, and leaves those in the record
    ∷ runs 24 (ascii "/a") (calls 1 ∷ writes ∷ brings 0 (stat_reply ++ replicate 2 1) ∷ calls 2 ∷ []) (asks 2 0 0 0 0 ∷ asks 1 0 0 10 0 ∷ tells 0 18 16 10 1 1 ∷ tells 10 18 16 10 1 0 ∷ [])
    -- "15; the same bytes; 1, 6, 1 → 17 3 0, again 17 0 0" (capacity; incoming; lengths of the reads → answer, reads, consumed)
    ∷ runs 15 (ascii "/a")
    (calls 1 ∷ writes ∷ brings 0 (ascii "S") ∷ brings 1 (ascii "TAT" ++ replicate 3 1) ∷ brings 7 (1 ∷ []) ∷ calls 1 ∷ writes ∷ writes ∷ [])
    (asks 2 0 0 0 0
    ∷ asks 1 0 0 10 0
    ∷ asks 1 1 0 10 1
    ∷ asks 1 7 0 10 2
    ∷ tells 17 8 0 10 3 3
    ∷ asks 4 8 0 10 0
    ∷ asks 3 8 0 18 0
    ∷ tells 17 8 0 20 0 0
    ∷ [])
    ∷ []

-- "8; DATA of 1; ones → 17 8 0", "64; T98 and DONE in one read of 43 → entry 1 23, end 0 20"
abbrev listing : List ℕ
listing = ascii "DENT" ++ replicate 12 0 ++ 3 ∷ 0 ∷ 0 ∷ 0 ∷ ascii "T98" ++ ascii "DONE" ++ replicate 16 0

abbrev pub pulls : List (Fact (List (List ℕ)))
pulls =
    runs 8 []
    (calls 14 ∷ brings 0 (ascii "D") ∷ brings 1 (ascii "A") ∷ brings 2 (ascii "T") ∷ brings 3 (ascii "A") ∷ brings 4 (1 ∷ []) ∷ brings 5 (0 ∷ []) ∷ brings 6 (0 ∷ []) ∷ brings 7 (0 ∷ []) ∷ [])
    (asks 1 0 0 0 0
    ∷ asks 1 1 0 0 1
    ∷ asks 1 2 0 0 2
    ∷ asks 1 3 0 0 3
    ∷ asks 1 4 0 0 4
    ∷ asks 1 5 0 0 5
    ∷ asks 1 6 0 0 6
    ∷ asks 1 7 0 0 7
    ∷ tells 17 8 0 0 8 8
    ∷ [])
    ∷ runs 64 [] (calls 12 ∷ brings 0 listing ∷ calls 12 ∷ []) (asks 1 0 0 0 0 ∷ tells 0 43 23 0 1 1 ∷ tells 0 43 43 0 0 0 ∷ [])
    ∷ []

-- A push write that finds the channel closed goes on to a FAIL that is held: all of it, and the report of the fault drops it and is answered 14; or its
-- first bytes, and a read brings the rest. The piece is not counted, and the fault is no read.
abbrev fail_reply : List ℕ
fail_reply = ascii "FAIL" ++ 2 ∷ 0 ∷ 0 ∷ 0 ∷ ascii "no"

abbrev pub pushes : List (Fact (List (List ℕ)))
pushes =
    runs 32 (ascii "/a") (calls 1 ∷ writes ∷ brings 0 (stat_reply ++ fail_reply) ∷ calls 9 ∷ shuts ∷ [])
    (asks 2 0 0 0 0 ∷ asks 1 0 0 10 0 ∷ tells 0 26 16 10 1 1 ∷ asks 2 26 16 10 0 ∷ tells 14 26 26 10 0 0 ∷ [])
    ∷ runs 32 (ascii "/a") (calls 1 ∷ writes ∷ brings 0 (stat_reply ++ fail_reply) ∷ calls 10 ∷ shuts ∷ [])
    (asks 2 0 0 0 0 ∷ asks 1 0 0 10 0 ∷ tells 0 26 16 10 1 1 ∷ asks 4 26 16 10 0 ∷ tells 14 26 26 10 0 0 ∷ [])
    ∷ runs 32 (ascii "/a") (calls 1 ∷ writes ∷ brings 0 (stat_reply ++ ascii "FAIL") ∷ calls 9 ∷ shuts ∷ brings 4 (2 ∷ 0 ∷ 0 ∷ 0 ∷ ascii "no") ∷ [])
    (asks 2 0 0 0 0 ∷ asks 1 0 0 10 0 ∷ tells 0 20 16 10 1 1 ∷ asks 2 20 16 10 0 ∷ asks 1 20 16 10 0 ∷ tells 14 26 26 10 1 1 ∷ [])
    ∷ []

-- "Capacity 8, FAIL of 20: consumed 28"; "A failed FAIL drain counts what it dropped"
abbrev header20 : List ℕ
header20 = ascii "FAIL" ++ 20 ∷ 0 ∷ 0 ∷ 0 ∷ []

abbrev sent : List (List ℕ)
sent = asks 4 0 0 0 0 ∷ asks 3 0 0 8 0 ∷ asks 1 0 0 10 0 ∷ asks 1 8 8 10 1 ∷ asks 1 16 16 10 2 ∷ []

-- the stat goes out, the FAIL's header comes, and the text that is kept
abbrev began : List Move
began = calls 1 ∷ writes ∷ writes ∷ brings 0 header20 ∷ brings 0 (replicate 8 65) ∷ []

abbrev failing : List Move → List (List ℕ) → Fact (List (List ℕ))
failing ms p = runs 8 (ascii "/a") (began ++ ms) (sent ++ p)

abbrev pub drains : List (Fact (List (List ℕ)))
drains =
    -- "8; FAIL of 20; 8, 8, 8, 4 → 14 4 28"
    failing (brings 0 (replicate 8 66) ∷ brings 0 (replicate 4 67) ∷ []) (asks 1 24 24 10 3 ∷ tells 14 28 28 10 4 4 ∷ [])
    ∷ failing (faults 5 ∷ []) (tells 13 16 16 10 2 2 ∷ [])
    ∷ failing (brings 0 (replicate 5 66) ∷ faults 5 ∷ []) (asks 1 21 16 10 3 ∷ tells 13 21 16 10 3 3 ∷ [])
    ∷ failing (brings 0 (replicate 8 66) ∷ faults 5 ∷ []) (asks 1 24 24 10 3 ∷ tells 13 24 24 10 3 3 ∷ [])
    ∷ failing (brings 0 (replicate 8 66) ∷ brings 0 (replicate 3 67) ∷ shuts ∷ []) (asks 1 24 24 10 3 ∷ asks 1 27 24 10 4 ∷ tells 12 27 24 10 4 4 ∷ [])
    ∷ []

-- quit: its header, and a close, which adds nothing and is no read
abbrev pub closes : List (Fact (List (List ℕ)))
closes = runs 8 [] (calls 11 ∷ writes ∷ writes ∷ []) (asks 4 0 0 0 0 ∷ asks 5 0 0 8 0 ∷ tells 0 0 0 8 0 0 ∷ []) ∷ []

-- the same stat where the totals and the reads stand elsewhere: near the largest, each is reached, and then 21
abbrev standing : (received written reads : ℕ) → Crossed
standing r n k =
    let c = moved (ascii "/a") (fresh 16) (calls 1) in
    crossed (over (over c.rec 256 (words (r ∷ r ∷ n ∷ []))) 288 (words (k ∷ []))) c.rx c.msg c.out c.number

abbrev stood : (received written reads : ℕ) → List Move → List (List ℕ) → Fact (List (List ℕ))
stood r n k ms p = record { computed = moments (ascii "/a") (standing r n k) ms; paper = p }

abbrev pub overs : List (Fact (List (List ℕ)))
overs =
    -- each total by itself; a fault and a close have room; a write and a fault leave the reads
    stood most 0 7 (writes ∷ []) (asks 1 most most 10 7 ∷ [])
    ∷ stood most most 7 (faults 5 ∷ []) (tells 13 most most most 7 7 ∷ [])
    ∷ stood 0 18446744073709551597 7 (writes ∷ brings 0 stat_reply ∷ calls 11 ∷ writes ∷ writes ∷ [])
    (asks 1 0 0 18446744073709551607 7
    ∷ tells 0 16 16 18446744073709551607 8 8
    ∷ asks 4 16 16 18446744073709551607 0
    ∷ asks 5 16 16 most 0
    ∷ tells 0 16 16 most 0 0
    ∷ [])
    ∷ stood 0 18446744073709551605 0 (writes ∷ []) (asks 1 0 0 most 0 ∷ [])
    ∷ stood 0 18446744073709551606 7 (writes ∷ writes ∷ []) (tells 21 0 0 18446744073709551606 7 0 ∷ tells 21 0 0 18446744073709551606 7 0 ∷ [])
    ∷ stood 18446744073709551612 0 0 (writes ∷ brings 0 (ascii "STAT") ∷ brings 0 (ascii "STA") ∷ nothing ∷ brings 3 (ascii "T") ∷ [])
    (asks 1 18446744073709551612 18446744073709551612 10 0
    ∷ tells 21 18446744073709551612 18446744073709551612 10 0 0
    ∷ asks 1 most 18446744073709551612 10 1
    ∷ tells 11 most 18446744073709551612 10 1 0
    ∷ tells 21 most 18446744073709551612 10 1 0
    ∷ [])
    -- the reads by themselves: a write has room, a fault too, and the next call
    ∷ stood 0 0 18446744073709551614 (writes ∷ brings 0 (ascii "STA") ∷ nothing ∷ brings 3 (ascii "T") ∷ faults 5 ∷ calls 1 ∷ [])
    (asks 1 0 0 10 18446744073709551614
    ∷ asks 1 3 0 10 most
    ∷ tells 11 3 0 10 most 0
    ∷ tells 21 3 0 10 most 0
    ∷ tells 13 3 0 10 most most
    ∷ asks 2 3 0 10 0
    ∷ [])
    ∷ []

-- every byte of a slice: of 21, an answer that is a number alone; of 3, to a record of another length and to one that holds no session, and to a slice that is too short
abbrev away : (record-length : ℕ) → (out : List ℕ) → List ℕ
away n out = (total_by (replicate n 9) (record { act = start 1 0 0 0; lent = ascii "/a"; rx = replicate 16 7; msg = replicate 16 7; out = out })).out

abbrev pub replies : List (Fact (List ℕ))
replies =
    record { computed = (moved (ascii "/a") (standing 0 most 7) writes).out; paper = 7 ∷ replicate 23 0 ++ replicate 88 9 ++ replicate 8 0 }
    ∷ record { computed = away 295 slice; paper = replicate 112 9 ++ replicate 8 0 }
    ∷ record { computed = away 296 slice; paper = replicate 112 9 ++ replicate 8 0 }
    ∷ record { computed = away 295 (replicate 121 9); paper = replicate 112 9 ++ replicate 8 0 ++ 9 ∷ [] }
    ∷ record { computed = away 295 (replicate 119 9); paper = replicate 119 9 }
    ∷ record { computed = away 296 (replicate 119 9); paper = replicate 119 9 }
    ∷ []

-- ---- the plain reader's card: consumed and written after each call

abbrev under : Option Hours → (capacity : ℕ) → List Call → (incoming : List ℕ) → List (ℕ × ℕ) → Fact (List (ℕ × ℕ))
under h c qs u p =
    record {
      computed = plain_cards h (record { setting = record { dialect = published; features = replicate 7 false; ended = false }; capacity = c; close = accepted }) closed (anytimes qs) (length u) u [];
      paper = p;
    }

abbrev plainly : (capacity : ℕ) → List Call → (incoming : List ℕ) → List (ℕ × ℕ) → Fact (List (ℕ × ℕ))
plainly c qs u p = under none c qs u p

abbrev stat1 : Call
stat1 = call (ask stat (ascii "/a"))

abbrev pub plains : List (Fact (List (ℕ × ℕ)))
plains =
    -- a refused call changes neither, and a short reply is left
    plainly 16 (stat1 ∷ call (ask stat (0 ∷ [])) ∷ stat1 ∷ []) (stat_reply ++ ascii "ST") ((16, 10) ∷ (16, 10) ∷ (16, 20) ∷ [])
    ∷ plainly 15 (stat1 ∷ stat1 ∷ []) stat_reply ((0, 10) ∷ (0, 20) ∷ [])
    ∷ plainly 8 (stat1 ∷ []) (header20 ++ replicate 20 65) ((28, 10) ∷ [])
    ∷ plainly 8 (stat1 ∷ []) (header20 ++ replicate 13 65) ((16, 10) ∷ [])
    ∷ plainly 64 (next_entry v1 ∷ next_entry v1 ∷ []) listing ((23, 0) ∷ (43, 0) ∷ [])
    -- quit, and 6 from then on
    ∷ plainly 16 (stat1 ∷ call quit ∷ stat1 ∷ []) (stat_reply ++ stat_reply) ((16, 10) ∷ (16, 18) ∷ (16, 18) ∷ [])
    -- a push that starts, and one that the hours turn away
    ∷ plainly 16 (stat1 ∷ call (send (ascii "/a") 1) ∷ []) stat_reply ((16, 10) ∷ (16, 22) ∷ [])
    ∷ under (some []) 16 (stat1 ∷ call (send (ascii "/a") 1) ∷ []) stat_reply ((16, 10) ∷ (16, 10) ∷ [])
    ∷ []

abbrev pub showings : List (Fact (List (ℕ × ℕ)))
showings = record { computed = shown_by (marked ∷ replicate 296 0 ∷ []); paper = (1027, 9223372036854777349) ∷ (0, 0) ∷ [] } ∷ []

-- ---- the words of the claims

-- "Sessions compared .. are ones whose totals stay below that": as many bytes as a total can have, come and are written, and no more; and which bytes those are
pub record Bounded : Type 0 where
  pub most_fits : below limit most most
  pub over_in : below limit (suc most) 0 → ⊥
  pub over_out : below limit 0 (suc most) → ⊥
  pub means : (h : Option Hours) (g : Config) (ms : List Made) (u : List ℕ) → length u < 2 ^ 64 → length (plain_writes h g ms) < 2 ^ 64 → Within (below limit) h g ms u

-- what the record shows when a call is over: a refused call leaves the reads, any other has its own; a record for each call, and no other
pub record Ended : Type 0 where
  pub refused_leaves : (m r n k : ℕ) (e : Entry) (rec : List ℕ) → e.answer ≡ refused 8 → CardAt m r n k e rec → reads_of rec ≡ k
  pub missing_leaves : (m r n k : ℕ) (e : Entry) (rec : List ℕ) → e.answer ≡ A.missing 1 → CardAt m r n k e rec → reads_of rec ≡ k
  pub closed_leaves : (m r n k : ℕ) (e : Entry) (rec : List ℕ) → e.answer ≡ refused 25 → CardAt m r n k e rec → reads_of rec ≡ k
  pub others_count : (m r n k : ℕ) (e : Entry) (rec : List ℕ) → e.answer ≡ A.broken closed → CardAt m r n k e rec → reads_of rec ≡ reads_in e.asks
  pub all_consumed : (r n k : ℕ) (e : Entry) (rec : List ℕ) → e.unread ≡ [] → CardAt 5 r n k e rec → consumed_of rec ≡ 5
  pub adds_up : (m r n k : ℕ) (e f : Entry) (a b : List ℕ) → CardsAt m r n k (e ∷ f ∷ []) (a ∷ b ∷ [])
      → (received_of b ≡ r + brought e.asks + brought f.asks) × (written_of b ≡ n + sizes e.pieces + sizes f.pieces)
  pub next_counts : (m r n k : ℕ) (e f : Entry) (a b : List ℕ) → f.answer ≡ A.done → CardsAt m r n k (e ∷ f ∷ []) (a ∷ b ∷ []) → reads_of b ≡ reads_in f.asks
  pub next_leaves : (m r n k : ℕ) (e f : Entry) (a b : List ℕ) → e.answer ≡ A.done → f.answer ≡ refused 6 → CardsAt m r n k (e ∷ f ∷ []) (a ∷ b ∷ []) → reads_of b ≡ reads_in e.asks
  pub not_fewer : (m r n k : ℕ) (e : Entry) → CardsAt m r n k (e ∷ []) [] → ⊥
  pub not_more : (m r n k : ℕ) (rec : List ℕ) → CardsAt m r n k [] (rec ∷ []) → ⊥

-- what shows the sums, and what does not; 21 is no answer to what is let in
pub record Shown : Type 0 where
  pub none_yet : Shows 8 (sums 0 0) (replicate 296 0)
  pub not_received : Shows 8 (sums 1 0) (replicate 296 0) → ⊥
  pub not_written : Shows 8 (sums 0 1) (replicate 296 0) → ⊥
  pub not_consumed : Shows 8 (sums 0 0) (replicate 264 0 ++ 1 ∷ replicate 31 0) → ⊥
  pub not_reads : Shows 8 (summing 0 0 1) (replicate 296 0) → ⊥
  pub not_told : (e : Event) → out_size ≤ length e.out → AnswersBy none 1 [] e (crossed [] [] [] (replicate 120 0) 0) → ⊥
  pub not_over : (e : Event) → AnswersBy none 0 [] e (crossed [] [] [] [] (256 * 21)) → ⊥
  -- a refusal tells no reads
  pub not_in_refusal : (e : Event) → out_size ≤ length e.out → AnswersBy (some (refused 11)) 1 [] e (crossed [] [] [] (7 ∷ replicate 111 0 ++ 1 ∷ replicate 7 0) (256 * 11)) → ⊥

-- .. at every moment: each event is answered, what it leaves shows the sums, and the next goes on from there
pub record Momentary : Type 0 where
  pub first : (s : Seen) (t : Sums) (rec : List ℕ) → EveryMoment total_functions none s t rec [] → reads_of rec ≡ t.reads
  pub answered : (s : Seen) (t : Sums) (rec : List ℕ) (e : Event) → refused_by none s t e ≡ none → out_size ≤ length e.out → (total_by rec e).number ≡ 0
      → EveryMoment total_functions none s t rec (e ∷ []) → count_in (total_by rec e) ≡ (adds s t e.act).reads
  pub taken : (s : Seen) (t : Sums) (rec : List ℕ) (e f : Event) → refused_by none s t e ≡ none → EveryMoment total_functions none s t rec (e ∷ f ∷ []) → reads_of (total_by rec e).rec ≡ (adds s t e.act).reads
  pub turned_away_lem : (s : Seen) (t : Sums) (rec : List ℕ) (e f : Event) → refused_by none s t e ≡ some (refused 4) → EveryMoment total_functions none s t rec (e ∷ f ∷ []) → reads_of (total_by rec e).rec ≡ t.reads
  pub last : (s : Seen) (t : Sums) (rec : List ℕ) (e : Event) → refused_by none s t e ≡ none → EveryMoment total_functions none s t rec (e ∷ []) → reads_of (total_by rec e).rec ≡ (adds s t e.act).reads
