-- Facts on where a session reads and writes: when a call compacts, where windows and messages lie, what is closed, what the message buffer
-- takes, and what an answer of the code says. All are document 01's: recv_buf.rs, sync.rs, "The plain reader", and the answers.
-- Assumes nothing.
use Rattle.std.specs.Prelude.{ℕ, ◌+◌, Bool, true, false, List, [], ◌∷◌, ◌++◌, map, pos, negsuc, replicate}
use Rattle.protocol.specs.Answers as P
use Rattle.protocol.specs.Answers.{End, closed, error}
use Rattle.protocol.specs.Bytes.{ascii}
use Rattle.protocol.specs.Calls.{v1, v2, Call, call, next_entry, next_chunk}
use Rattle.protocol.specs.Fact.{Fact}
use Rattle.protocol.specs.Ids.{published}
use Rattle.protocol.specs.Messages.{ask, stat, sta2, list, lis2, recv, rcv2, send, snd2, chunk, done, quit}
use Rattle.protocol.specs.Reader.{Config, Report, accepted, broke}
use Rattle.format_record.specs.declared.StatV1.{StatV1}
use Rattle.format_record.specs.declared.StatV2.{StatV2}
use Rattle.session.specs.declared.Answer.{Answer}
use Rattle.session.specs.declared.Answer.TheVariants as A
use Rattle.session.specs.Faithful.{compacts, rests_at, tail_after, window_at, closes_for, call_pieces, fail_text, text_of, keeping}
use Rattle.session.specs.Host.{Ask, counted, windowed}
use Rattle.session.specs.Shown.{paper}

abbrev path : List ℕ
path = ascii "/t"

-- a session of a capacity of 16 with every feature
abbrev session : Config
session = record { setting = record { dialect = published; features = replicate 7 true; ended = false }; capacity = 16; close = accepted }

-- ---- compaction: "After compaction, one that fits is composed ..; otherwise the header goes out"; "DONE and QUIT are header only, no
-- compaction. `recv_next` compacts first, `send_done` before its reply"; "empty data writes nothing"; a listing step only reads

-- the calls with a message that is composed
abbrev composing : List Call
composing =
    call (ask stat path) ∷ call (ask sta2 path) ∷ call (ask list path) ∷ call (ask lis2 path) ∷ call (ask recv path) ∷ call (rcv2 path 0) ∷ call (send path 1)
    ∷ call (snd2 path 1 0) ∷ call (chunk path)
    ∷ []

abbrev others : List Call
others = call (chunk []) ∷ call quit ∷ next_entry v1 ∷ next_entry v2 ∷ []

abbrev compacting : Report → Bool → List Call → List (Fact Bool)
compacting r b qs = map (λ q. record { computed = compacts r q; paper = b }) qs

abbrev pub moments : List (Fact Bool)
moments =
    compacting accepted true composing
    ++ compacting accepted false others
    ++ compacting accepted true (call (done 5) ∷ next_chunk ∷ [])
    -- where a write broke: the message was composed before; DONE had not come to its reply
    ++ compacting (broke closed) true composing
    ++ compacting (broke closed) false (call (done 5) ∷ others)
    ++ compacting (broke (error 7)) true composing
    ++ compacting (broke (error 7)) false (call (done 5) ∷ others)

-- ---- "Held bytes lie from head to tail": where tail stands before the first read, with 5 bytes held and tail at 12

abbrev placed : ℕ → ℕ → Fact ℕ
placed a b = record { computed = a; paper = b }

-- a read that was asked at 12 and brought 3 bytes, and one before it
abbrev reads : List Ask
reads =
    record { rest = []; holds = []; at = 12; len = 4; before = []; brought = 3 }
    ∷ record { rest = []; holds = []; at = 10; len = 6; before = []; brought = 2 }
    ∷ []

abbrev pub places : List (Fact ℕ)
places =
    -- "Compaction moves held bytes to the front"
    map (λ q. placed (rests_at session accepted q 5 12) 5) composing
    ++ map (λ q. placed (rests_at session accepted q 5 12) 12) others
    -- "a refused call changes nothing"
    ++ placed (rests_at session accepted (call (ask stat (0 ∷ []))) 5 12) 12
    -- "read until n are held, compacting only when tail meets the end": capacity, held, tail
    ∷ placed (window_at 16 3 12) 12
    ∷ placed (window_at 16 3 15) 15
    ∷ placed (window_at 16 3 16) 3
    ∷ placed (window_at 16 0 16) 0
    -- "head and tail move forward with each take and fill"
    ∷ placed (tail_after 7 []) 7
    ∷ placed (tail_after 7 reads) 15
    -- a host's count: from one to the smaller of the window and what is left
    ∷ placed (counted 0 9 9) 1
    ∷ placed (counted 2 9 9) 2
    ∷ placed (counted 5 3 9) 3
    ∷ placed (counted 5 9 2) 2
    ∷ []

-- ---- pieces, with so many bytes held: "one that fits is composed in the free end of the receive buffer"

abbrev offered : Call → (held : ℕ) → List (List ℕ) → Fact (List (List ℕ))
offered q n ps = record { computed = call_pieces session q n; paper = ps }

abbrev pub pieces : List (Fact (List (List ℕ)))
pieces =
    offered (call (ask stat path)) 0 ((ascii "STAT" ++ 2 ∷ 0 ∷ 0 ∷ 0 ∷ [] ++ path) ∷ [])
    ∷ offered (call (ask stat path)) 6 ((ascii "STAT" ++ 2 ∷ 0 ∷ 0 ∷ 0 ∷ [] ++ path) ∷ [])
    ∷ offered (call (ask stat path)) 7 ((ascii "STAT" ++ 2 ∷ 0 ∷ 0 ∷ 0 ∷ []) ∷ path ∷ [])
    ∷ offered (call (ask stat (0 ∷ []))) 0 []
    ∷ offered (call (chunk [])) 0 []
    ∷ offered (call quit) 16 ((ascii "QUIT" ++ 0 ∷ 0 ∷ 0 ∷ 0 ∷ []) ∷ [])
    ∷ offered next_chunk 0 []
    -- "quit: write, close, ended": one close, behind what was written; none for another call, and none for a quit that is refused
    ∷ record { computed = call_pieces session (next_entry v1) 0; paper = [] }
    ∷ []

abbrev pub closes : List (Fact (List (List (List ℕ))))
closes =
    record { computed = closes_for true false (path ∷ []); paper = (path ∷ []) ∷ [] }
    ∷ record { computed = closes_for true true (path ∷ []); paper = [] }
    ∷ record { computed = closes_for false false (path ∷ []); paper = [] }
    ∷ record { computed = closes_for false true (path ∷ []); paper = [] }
    ∷ []

-- ---- "The message buffer's first m bytes become the text once those have come, even if the rest never does; its others never alter"

abbrev text : List ℕ → List ℕ → Fact (List ℕ)
text a b = record { computed = a; paper = b }

-- a FAIL whose text has n bytes, of which these have come
abbrev failing : ℕ → List ℕ → List ℕ
failing n s = ascii "FAIL" ++ n ∷ 0 ∷ 0 ∷ 0 ∷ s

abbrev failed : List Call → Report → List ℕ → List (Fact (List ℕ))
failed qs r t = map (λ q. text (text_of session r q (failing 3 (ascii "no!x"))) t) qs

abbrev pushes : List Call
pushes = call (send path 1) ∷ call (snd2 path 1 0) ∷ call (chunk path) ∷ []

abbrev pub texts : List (Fact (List ℕ))
texts =
    -- m = min(L, c), with a capacity of 9: L below it, at it, over it; the rest not come; a byte of the text not come; no FAIL, no header
    text (fail_text published 9 (failing 3 (ascii "no!x"))) (ascii "no!")
    ∷ text (fail_text published 9 (failing 9 (ascii "no such dir"))) (ascii "no such d")
    ∷ text (fail_text published 9 (failing 11 (ascii "no such dir"))) (ascii "no such d")
    ∷ text (fail_text published 9 (failing 11 (ascii "no such d"))) (ascii "no such d")
    ∷ text (fail_text published 9 (failing 11 (ascii "no such "))) []
    ∷ text (fail_text published 9 (failing 3 (ascii "no"))) []
    ∷ text (fail_text published 9 (ascii "OKAY" ++ 3 ∷ 0 ∷ 0 ∷ 0 ∷ ascii "no!x")) []
    ∷ text (fail_text published 9 (ascii "FAIL")) []
    -- the calls that read, and those that do not; a lost push reads, and none after another error; a refused call does not
    ∷ failed (call (ask stat path) ∷ call (ask sta2 path) ∷ next_entry v1 ∷ next_entry v2 ∷ next_chunk ∷ call (done 5) ∷ []) accepted (ascii "no!")
    ++ failed (call (ask list path) ∷ call (ask recv path) ∷ call (rcv2 path 0) ∷ call quit ∷ call (ask stat (0 ∷ [])) ∷ pushes) accepted []
    ++ failed (call (done 5) ∷ pushes) (broke closed) (ascii "no!")
    ++ failed (call (ask stat path) ∷ call (ask list path) ∷ call quit ∷ []) (broke closed) []
    ++ failed (call (done 5) ∷ call (ask stat path) ∷ pushes) (broke (error 7)) []
    -- "its others never alter"
    ++ text (keeping (ascii "no!") (ascii "abcde")) (ascii "no!de")
    ∷ text (keeping [] (ascii "abcde")) (ascii "abcde")
    -- a read leaves the bytes before and behind its window; what it did not bring of the window may be any
    ∷ text (windowed (λ i. 70 + i) (ascii "abcdef") 1 4 (ascii "xy")) (ascii "axyGFf")
    ∷ []

-- ---- "a definition gives this paper's number and values for each of the enum's cases"; a part that lies outside its buffer is no answer

abbrev stat_v1 : StatV1
stat_v1 = record { mode = record { 0 = 1 }; size = 2; mtime = 3 }

abbrev stat_v2 : StatV2
stat_v2 =
    record {
      error = 1;
      dev = 2;
      ino = 3;
      mode = record { 0 = 4 };
      nlink = 5;
      uid = 6;
      gid = 7;
      size = 8;
      atime = pos 9;
      mtime = negsuc 10;
      ctime = pos 11;
    }

abbrev stat1 : P.Answer
stat1 = P.stat (record { mode = 1; size = 2; mtime = 3 })

abbrev shown : Answer → P.Answer → Fact P.Answer
shown a b = record { computed = paper (ascii "abcdef") (ascii "uvwxyz") a; paper = b }

abbrev pub answers : List (Fact P.Answer)
answers =
    shown A.Done P.done
    ∷ shown A.End P.end
    ∷ shown (A.StatV1 stat_v1) stat1
    ∷ shown (A.StatV2 stat_v2)
    (P.stat2
    (record { error = 1; dev = 2; ino = 3; mode = 4; nlink = 5; uid = 6; gid = 7; size = 8; atime = pos 9; mtime = negsuc 10; ctime = pos 11 }))
    ∷ shown (A.EntryV1 stat_v1 1 3) (P.entry (record { mode = 1; size = 2; mtime = 3 }) (ascii "bcd"))
    ∷ shown (A.EntryV2 stat_v2 2 3)
    (P.entry2 (record { error = 1; dev = 2; ino = 3; mode = 4; nlink = 5; uid = 6; gid = 7; size = 8; atime = pos 9; mtime = negsuc 10; ctime = pos 11 })
    (ascii "cde"))
    ∷ shown (A.Chunk 1 5) (P.chunk (ascii "bcdef"))
    ∷ shown (A.Chunk 1 6) (P.refused 0)
    ∷ shown (A.Refused 8) (P.refused 8)
    ∷ shown (A.Missing 5) (P.missing 5)
    ∷ shown A.Closed (P.broken P.closed)
    ∷ shown (A.Error 5) (P.broken (P.error 5))
    ∷ shown (A.Fail 3) (P.fail (ascii "uvw"))
    ∷ shown (A.Fail 7) (P.refused 0)
    ∷ shown (A.Unexpected 79 75 65 89) (P.unexpected (ascii "OKAY"))
    ∷ shown (A.Errno 5) (P.errno 5)
    ∷ shown A.TooLarge P.too_large
    ∷ []
