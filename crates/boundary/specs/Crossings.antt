-- Facts on what crosses: the numbers of calls and faults, and what a host reads from the number returned and the slice of the reply. Document
-- 01 has the numbers of the answers; the others are this library's own, as docs/DECISIONS.md 18 to 21 fix them for every host: "what + 256 ×
-- document 01's number", the calls 1 to 14, a fault's kind and code, eight bytes for each number of a reply, the lowest first.
-- Assumes nothing.
use Rattle.std.specs.Prelude.{ℕ, ◌*◌, List, [], ◌∷◌, ◌++◌, map, pos, negsuc, replicate}
use Rattle.protocol.specs.Answers as P
use Rattle.protocol.specs.Answers.{Answer, End, closed, error}
use Rattle.protocol.specs.Bytes.{ascii}
use Rattle.protocol.specs.Calls.{v1, v2, Call, call, next_entry, next_chunk}
use Rattle.protocol.specs.Fact.{Fact}
use Rattle.protocol.specs.Messages.{ask, stat, sta2, list, lis2, recv, rcv2, send, snd2, chunk, done, quit}
use Rattle.record.specs.Record.{size, stored}
use Rattle.request.specs.declared.Request.TheVariants as Q
use Rattle.session.specs.Host.{Spare, Show, told, read, write_rx, write_lent, write_bytes, close, lent_of}
use Rattle.boundary.specs.Boundary.{call_number, first_number, flag_number, end_kind, end_code}
use Rattle.session.specs.Resuming as Resuming
use Rattle.session.specs.declared.Pending.{Pending}
use Rattle.session.specs.declared.Pending.TheVariants.{Idle, Writing}
use Rattle.boundary.specs.Crossing.{Crossed, cross_start, cross_read, cross_wrote, cross_fault}
use Rattle.boundary.specs.Heard.{heard}
use Rattle.boundary.specs.Told.{out_size}

-- ---- to the library: "1 stat, 2 stat_v2, 3 list, 4 list_v2, 5 recv, 6 recv_v2, 7 send, 8 send_v2, 9 data, 10 send_done, 11 quit, 12 and 13 a
-- listing step, 14 recv_next"; then the mode or the time, the flags, the path or data; where a call takes none, whatever the host passes

abbrev spare : Spare
spare = record { out = []; lent = ascii "any"; first = 71; second = 72; kind = 4; code = 73 }

pub record Passed : Type 0 where
  pub call : ℕ
  pub a : ℕ
  pub b : ℕ
  pub lent : List ℕ

abbrev row : Call → (number a b : ℕ) → List ℕ → Fact Passed
row q n a b lent =
    record {
      computed = record { call = call_number q; a = first_number spare q; b = flag_number spare q; lent = lent_of spare q };
      paper = record { call = n; a = a; b = b; lent = lent };
    }

abbrev path : List ℕ
path = ascii "/t"

abbrev pub passed : List (Fact Passed)
passed =
    row (call (ask stat path)) 1 71 72 path
    ∷ row (call (ask sta2 path)) 2 71 72 path
    ∷ row (call (ask list path)) 3 71 72 path
    ∷ row (call (ask lis2 path)) 4 71 72 path
    ∷ row (call (ask recv path)) 5 71 72 path
    ∷ row (call (rcv2 path 6)) 6 71 6 path
    ∷ row (call (send path 5)) 7 5 72 path
    ∷ row (call (snd2 path 5 6)) 8 5 6 path
    ∷ row (call (chunk path)) 9 71 72 path
    ∷ row (call (done 5)) 10 5 72 (ascii "any")
    ∷ row (call quit) 11 71 72 (ascii "any")
    ∷ row (next_entry v1) 12 71 72 (ascii "any")
    ∷ row (next_entry v2) 13 71 72 (ascii "any")
    ∷ row next_chunk 14 71 72 (ascii "any")
    ∷ []

-- "A fault is a kind and a code: 0 the channel is closed, any other kind an error with its code"; the sizes of a record and of a reply's slice
abbrev numbered : ℕ → ℕ → Fact ℕ
numbered a b = record { computed = a; paper = b }

abbrev pub sizes : List (Fact ℕ)
sizes =
    numbered (end_kind spare closed) 0
    ∷ numbered (end_kind spare (error 9)) 5
    ∷ numbered (end_code spare (error 9)) 9
    ∷ numbered size 256
    ∷ numbered out_size 120
    ∷ []

-- ---- a path over the limit that is pending goes on, and the next call is 7 (session/specs/Resuming): what each function returns

abbrev record_at : Pending → List ℕ
record_at p = stored (Resuming.session_at p).ses

abbrev slice : List ℕ
slice = replicate out_size 0

abbrev wrote : (piece : ℕ) → Crossed
wrote k = cross_wrote (record_at (Writing Q.Stat 0 k)) Resuming.rx Resuming.msg Resuming.path slice

abbrev reads : (count : ℕ) → Crossed
reads k = cross_read (record_at Resuming.awaiting) Resuming.rx Resuming.msg Resuming.path k slice

abbrev pub long_pending : List (Fact ℕ)
long_pending =
    numbered (wrote 1).number 3
    ∷ numbered (wrote 2).number 1
    ∷ numbered (reads 3).number 1
    ∷ numbered (reads 16).number 0
    ∷ numbered (cross_fault (record_at Resuming.awaiting) Resuming.rx Resuming.msg Resuming.path 1 5 slice).number (256 * 13)
    ∷ numbered (cross_start (record_at Idle) Resuming.rx Resuming.msg Resuming.path 1 0 0 slice).number (256 * 7)
    ∷ []

-- ---- from the library

-- numbers below 256 in eight bytes each
abbrev eights : List ℕ → List ℕ
eights [] = []
eights (n ∷ ns) = n ∷ replicate 7 0 ++ eights ns

abbrev rx : List ℕ
rx = ascii "abcdefghijklmnop"

abbrev msg : List ℕ
msg = ascii "ABCDEFGHIJKLMNOP"

-- what is heard: the number returned, the slice, what is asked or told
abbrev hears : ℕ → (out : List ℕ) → Show → Fact Show
hears n out s = record { computed = heard n out rx msg; paper = s }

-- an answer, by document 01's number: a kind, where a part starts, how long it is, then the numbers that the answer carries
abbrev tells : ℕ → (out : List ℕ) → Answer → Fact Show
tells n out a = hears (256 * n) out (told a)

-- eight distinct bytes, the highest of them 0x80 and 0x7f
abbrev minus : List ℕ
minus = 1 ∷ 2 ∷ 3 ∷ 4 ∷ 5 ∷ 6 ∷ 7 ∷ 0x80 ∷ []

abbrev plus : List ℕ
plus = 1 ∷ 2 ∷ 3 ∷ 4 ∷ 5 ∷ 6 ∷ 7 ∷ 0x7f ∷ []

abbrev pub heard_facts : List (Fact Show)
heard_facts =
    hears 1 (eights (3 ∷ 5 ∷ [])) (read 3 5)
    ∷ hears 1 (plus ++ eights (5 ∷ [])) (read 0x7f07_0605_0403_0201 5)
    ∷ hears 2 (eights (3 ∷ 5 ∷ [])) (write_rx 3 5)
    ∷ hears 3 (eights (3 ∷ 5 ∷ [])) (write_lent 3 5)
    ∷ hears 4 (eights (3 ∷ []) ++ ascii "QUITE") (write_bytes (ascii "QUI"))
    ∷ hears 5 [] close
    -- the kinds: 0 done, 1 end, 2 stat, 3 stat_v2, 4 entry, 5 entry_v2, 6 chunk
    ∷ tells 0 (eights (0 ∷ 9 ∷ 9 ∷ [])) P.done
    ∷ tells 0 (eights (1 ∷ 9 ∷ 9 ∷ [])) P.end
    ∷ tells 0 (eights (2 ∷ 9 ∷ 9 ∷ 21 ∷ 22 ∷ 23 ∷ [])) (P.stat (record { mode = 21; size = 22; mtime = 23 }))
    ∷ tells 0 (eights (3 ∷ 9 ∷ 9 ∷ 21 ∷ 22 ∷ 23 ∷ 24 ∷ 25 ∷ 26 ∷ 27 ∷ 28 ∷ []) ++ minus ++ plus ++ eights (29 ∷ []))
    (P.stat2
    (record {
      error = 21;
      dev = 22;
      ino = 23;
      mode = 24;
      nlink = 25;
      uid = 26;
      gid = 27;
      size = 28;
      atime = negsuc 0x7ff8_f9fa_fbfc_fdfe;
      mtime = pos 0x7f07_0605_0403_0201;
      ctime = pos 29;
    }))
    ∷ tells 0 (eights (4 ∷ 2 ∷ 3 ∷ 21 ∷ 22 ∷ 23 ∷ [])) (P.entry (record { mode = 21; size = 22; mtime = 23 }) (ascii "cde"))
    ∷ tells 0 (eights (5 ∷ 2 ∷ 3 ∷ 21 ∷ 22 ∷ 23 ∷ 24 ∷ 25 ∷ 26 ∷ 27 ∷ 28 ∷ 29 ∷ []) ++ minus ++ plus)
    (P.entry2
    (record {
      error = 21;
      dev = 22;
      ino = 23;
      mode = 24;
      nlink = 25;
      uid = 26;
      gid = 27;
      size = 28;
      atime = pos 29;
      mtime = negsuc 0x7ff8_f9fa_fbfc_fdfe;
      ctime = pos 0x7f07_0605_0403_0201;
    })
    (ascii "cde"))
    ∷ tells 0 (eights (6 ∷ 2 ∷ 3 ∷ [])) (P.chunk (ascii "cde"))
    -- a part outside its buffer, and a kind that is none: no answer
    ∷ tells 0 (eights (6 ∷ 2 ∷ 15 ∷ [])) (P.refused 0)
    ∷ tells 0 (eights (7 ∷ 0 ∷ 0 ∷ [])) (P.refused 0)
    -- document 01's numbers
    ∷ tells 10 (eights (7 ∷ 0 ∷ 0 ∷ 5 ∷ [])) (P.missing 5)
    ∷ tells 12 (eights (7 ∷ 0 ∷ 0 ∷ [])) (P.broken P.closed)
    ∷ tells 13 (eights (7 ∷ 0 ∷ 0 ∷ 5 ∷ [])) (P.broken (P.error 5))
    ∷ tells 14 (eights (7 ∷ 0 ∷ 3 ∷ [])) (P.fail (ascii "ABC"))
    ∷ tells 15 (eights (7 ∷ 0 ∷ 0 ∷ []) ++ ascii "OKAY" ++ replicate 4 0) (P.unexpected (ascii "OKAY"))
    ∷ tells 16 (eights (7 ∷ 0 ∷ 0 ∷ 5 ∷ [])) (P.errno 5)
    ∷ tells 17 (eights (7 ∷ 0 ∷ 0 ∷ [])) P.too_large
    ∷ map (λ n. tells n (eights (7 ∷ 0 ∷ 0 ∷ [])) (P.refused n)) (1 ∷ 2 ∷ 3 ∷ 4 ∷ 5 ∷ 6 ∷ 7 ∷ 8 ∷ 9 ∷ 11 ∷ 21 ∷ [])
