-- Facts on the replies: what each call comes to on the unread bytes, and what it leaves of them. The bytes are laid out as SYNC.TXT and
-- file_sync_protocol.h say (or are AOSP's, from captures.jsonl, by the label given); what they come to is document 01's "The plain reader".
-- Assumes nothing.
use Rattle.std.specs.Prelude.{ℕ, zero, suc, ◌+◌, ◌-◌, true, false, List, [], ◌∷◌, ◌++◌, map, pos, negsuc, take, drop, replicate}
use Rattle.protocol.specs.Answers as A
use Rattle.protocol.specs.Bytes.{ascii}
use Rattle.protocol.specs.Calls.{v1, v2, Call, call, next_entry, next_chunk}
use Rattle.protocol.specs.Fact.{Fact}
use Rattle.protocol.specs.Ids.{published}
use Rattle.protocol.specs.Messages.{ask, stat, sta2, list, lis2, recv, rcv2, send, snd2, chunk, done, quit}
use Rattle.protocol.specs.Reader.{Config, accepted, Result, ended, short, plain, program}
use Rattle.protocol.specs.Records.{Stat, Stat2}

-- ---- rows

-- a session with that capacity and every feature
abbrev pub session : ℕ → Config
session c = record { setting = record { dialect = published; features = replicate 7 true; ended = false }; capacity = c; close = accepted }

-- the call on these unread bytes, its writes accepted
abbrev pub on : (capacity : ℕ) → Call → (unread : List ℕ) → Result
on c q u = plain c (program (session c) accepted q) u

abbrev row : (capacity : ℕ) → Call → (unread : List ℕ) → Result → Fact Result
row c q u r = record { computed = on c q u; paper = r }

-- n numbers from `first` on
abbrev pub counting : (first n : ℕ) → List ℕ
counting first zero = []
counting first (suc n) = first ∷ counting (first + 1) n

-- the bytes of a record from one offset on, n of them, each its own offset; and each 255 less its offset, all of them high
abbrev low : (offset n : ℕ) → List ℕ
low o n = counting o n

abbrev high : (offset n : ℕ) → List ℕ
high o n = map (λ i. 255 - i) (counting o n)

abbrev zeros : ℕ → List ℕ
zeros n = replicate n 0

-- what the panel sent behind the reply: it must stay
abbrev behind : List ℕ
behind = ascii "OKAY, and more"

abbrev path : List ℕ
path = ascii "/t"

abbrev stat_call : Call
stat_call = call (ask stat path)

abbrev stat2_call : Call
stat2_call = call (ask sta2 path)

abbrev done_call : Call
done_call = call (done 5)

-- ---- stats: "STAT, 16 bytes: mode 4, size 8, mtime 12", "STA2, 72: error 4, dev 8 (u64), ino 16 (u64), mode 24, .."

-- "a stat or entry answers its numbers at the offsets above"
abbrev pub low_stat : Stat
low_stat = record { mode = 0x0706_0504; size = 0x0b0a_0908; mtime = 0x0f0e_0d0c }

abbrev high_stat : Stat
high_stat = record { mode = 0xf8f9_fafb; size = 0xf4f5_f6f7; mtime = 0xf0f1_f2f3 }

abbrev pub low_stat2 : (error : ℕ) → Stat2
low_stat2 e =
    record {
      error = e;
      dev = 0x0f0e_0d0c_0b0a_0908;
      ino = 0x1716_1514_1312_1110;
      mode = 0x1b1a_1918;
      nlink = 0x1f1e_1d1c;
      uid = 0x2322_2120;
      gid = 0x2726_2524;
      size = 0x2f2e_2d2c_2b2a_2928;
      atime = pos 0x3736_3534_3332_3130;
      mtime = pos 0x3f3e_3d3c_3b3a_3938;
      ctime = pos 0x4746_4544_4342_4140;
    }

-- the times are negative: -1 - x, where x has the offsets for its bytes
abbrev pub high_stat2 : (error : ℕ) → Stat2
high_stat2 e =
    record {
      error = e;
      dev = 0xf0f1_f2f3_f4f5_f6f7;
      ino = 0xe8e9_eaeb_eced_eeef;
      mode = 0xe4e5_e6e7;
      nlink = 0xe0e1_e2e3;
      uid = 0xdcdd_dedf;
      gid = 0xd8d9_dadb;
      size = 0xd0d1_d2d3_d4d5_d6d7;
      atime = negsuc 0x3736_3534_3332_3130;
      mtime = negsuc 0x3f3e_3d3c_3b3a_3938;
      ctime = negsuc 0x4746_4544_4342_4140;
    }

abbrev stats : List (Fact Result)
stats =
    row 16 stat_call (ascii "STAT" ++ low 4 12 ++ behind) (ended (A.stat low_stat) behind)
    ∷ row 99 stat_call (ascii "STAT" ++ high 4 12 ++ behind) (ended (A.stat high_stat) behind)
    -- STAT-5GiB
    ∷ row 16 stat_call (ascii "STAT" ++ 0xa4 ∷ 0x81 ∷ 0 ∷ 0 ∷ 7 ∷ 0 ∷ 0 ∷ 0x40 ∷ 0 ∷ 0x10 ∷ 0x5e ∷ 0x5f ∷ [])
    (ended (A.stat (record { mode = 33188; size = 1073741831; mtime = 1600000000 })) [])
    ∷ row 72 stat2_call (ascii "STA2" ++ zeros 4 ++ low 8 64 ++ behind) (ended (A.stat2 (low_stat2 0)) behind)
    ∷ row 99 stat2_call (ascii "STA2" ++ zeros 4 ++ high 8 64 ++ behind) (ended (A.stat2 (high_stat2 0)) behind)
    -- "stat_v2: likewise STA2, 72; then error ≠ 0 is 16": all four bytes of it, and the highest alone
    ∷ row 72 stat2_call (ascii "STA2" ++ low 4 68 ++ behind) (ended (A.errno 0x0706_0504) behind)
    ∷ row 72 stat2_call (ascii "STA2" ++ 0 ∷ 0 ∷ 0 ∷ 0x80 ∷ [] ++ low 8 64 ++ behind) (ended (A.errno 0x8000_0000) behind)
    -- STA2-missing
    ∷ row 72 stat2_call (ascii "STA2" ++ 2 ∷ [] ++ zeros 67) (ended (A.errno 2) [])
    ∷ []

-- ---- listing steps: "DENT, 20: mode 4, size 8, mtime 12, namelen 16, then the name", "DNT2, 76: as STA2, namelen 72, then the name"

abbrev listings : List (Fact Result)
listings =
    row 20 (next_entry v1) (ascii "DENT" ++ low 4 12 ++ 3 ∷ 0 ∷ 0 ∷ 0 ∷ [] ++ ascii "T98" ++ behind) (ended (A.entry low_stat (ascii "T98")) behind)
    ∷ row 99 (next_entry v1) (ascii "DENT" ++ high 4 12 ++ 3 ∷ 0 ∷ 0 ∷ 0 ∷ [] ++ ascii "T98" ++ behind) (ended (A.entry high_stat (ascii "T98")) behind)
    ∷ row 20 (next_entry v1) (ascii "DENT" ++ low 4 12 ++ zeros 4 ++ behind) (ended (A.entry low_stat []) behind)
    -- "A v2 entry with error ≠ 0 is still an entry"
    ∷ row 76 (next_entry v2) (ascii "DNT2" ++ low 4 68 ++ 3 ∷ 0 ∷ 0 ∷ 0 ∷ [] ++ ascii "T98" ++ behind)
    (ended (A.entry2 (low_stat2 0x0706_0504) (ascii "T98")) behind)
    ∷ row 99 (next_entry v2) (ascii "DNT2" ++ high 4 68 ++ 3 ∷ 0 ∷ 0 ∷ 0 ∷ [] ++ ascii "T98" ++ behind)
    (ended (A.entry2 (high_stat2 0xf8f9_fafb) (ascii "T98")) behind)
    -- "for an entry need namelen": the four bytes of it; the entry's are dropped by then; a name of all the capacity, and of one more
    ∷ row 0x1_0000_0000 (next_entry v1) (ascii "DENT" ++ low 4 16 ++ ascii "T98") (short 0x1312_1110 (ascii "T98"))
    ∷ row 0x1_0000_0000 (next_entry v2) (ascii "DNT2" ++ low 4 72 ++ ascii "T98") (short 0x4b4a_4948 (ascii "T98"))
    ∷ row 20 (next_entry v1) (ascii "DENT" ++ low 4 12 ++ 20 ∷ 0 ∷ 0 ∷ 0 ∷ [] ++ low 65 22) (ended (A.entry low_stat (low 65 20)) (85 ∷ 86 ∷ []))
    ∷ row 20 (next_entry v1) (ascii "DENT" ++ low 4 12 ++ 21 ∷ 0 ∷ 0 ∷ 0 ∷ [] ++ low 65 22) (ended A.too_large (low 65 22))
    ∷ row 76 (next_entry v2) (ascii "DNT2" ++ low 4 68 ++ 77 ∷ 0 ∷ 0 ∷ 0 ∷ [] ++ low 65 77) (ended A.too_large (low 65 77))
    -- "next(DENT or DONE, v2 DNT2 or DONE); need 20 (76); drop it": DONE is as long as an entry, and its other bytes may be any
    ∷ row 20 (next_entry v1) (ascii "DONE" ++ low 4 16 ++ behind) (ended A.end behind)
    ∷ row 76 (next_entry v2) (ascii "DONE" ++ low 4 72 ++ behind) (ended A.end behind)
    -- no entry, no DONE, no stat within the capacity: 17, nothing dropped
    ∷ row 19 (next_entry v1) (ascii "DENT" ++ low 4 16) (ended A.too_large (ascii "DENT" ++ low 4 16))
    ∷ row 19 (next_entry v1) (ascii "DONE" ++ low 4 16) (ended A.too_large (ascii "DONE" ++ low 4 16))
    ∷ row 75 (next_entry v2) (ascii "DNT2" ++ low 4 72) (ended A.too_large (ascii "DNT2" ++ low 4 72))
    ∷ row 75 (next_entry v2) (ascii "DONE" ++ low 4 72) (ended A.too_large (ascii "DONE" ++ low 4 72))
    ∷ row 71 stat2_call (ascii "STA2" ++ low 4 68) (ended A.too_large (ascii "STA2" ++ low 4 68))
    ∷ []

-- ---- recv_next and send_done: "DONE: drop 8. DATA: need 8 + length, drop both", "next(OKAY); drop 8"; "length can be ignored" (SYNC.TXT)

abbrev chunks : List (Fact Result)
chunks =
    -- RECV-file
    row 21 next_chunk (ascii "DATA" ++ 13 ∷ 0 ∷ 0 ∷ 0 ∷ [] ++ ascii "hello, world" ++ 10 ∷ ascii "DONE" ++ zeros 4)
    (ended (A.chunk (ascii "hello, world" ++ 10 ∷ [])) (ascii "DONE" ++ zeros 4))
    ∷ row 99 next_chunk (ascii "DATA" ++ 3 ∷ 0 ∷ 0 ∷ 0 ∷ [] ++ ascii "T98" ++ behind) (ended (A.chunk (ascii "T98")) behind)
    ∷ row 10 next_chunk (ascii "DATA" ++ 3 ∷ 0 ∷ 0 ∷ 0 ∷ [] ++ ascii "T98") (ended A.too_large (ascii "DATA" ++ 3 ∷ 0 ∷ 0 ∷ 0 ∷ [] ++ ascii "T98"))
    ∷ row 0x1_0000_0000 next_chunk (ascii "DATA" ++ low 4 9) (short 0x0706_050c (ascii "DATA" ++ low 4 9))
    ∷ row 0x1_0000_0000 next_chunk (ascii "DATA" ++ high 4 9) (short 0xf8f9_fb03 (ascii "DATA" ++ high 4 9))
    ∷ row 8 next_chunk (ascii "DONE" ++ low 4 4 ++ behind) (ended A.end behind)
    ∷ row 8 done_call (ascii "OKAY" ++ low 4 4 ++ behind) (ended A.done behind)
    ∷ []

-- ---- FAIL, in every call that reads: "drop 8, need m = min(L, c), drop m as the text; while some of L is left, need the smaller of the rest
-- and c, drop it; answer 14 with the text"

abbrev readers : List Call
readers = stat_call ∷ stat2_call ∷ next_entry v1 ∷ next_entry v2 ∷ next_chunk ∷ done_call ∷ []

-- the same of every call that reads
abbrev each : (capacity : ℕ) → (unread : List ℕ) → Result → List (Fact Result)
each c u r = map (λ q. row c q u r) readers

-- L bytes of text and the capacity 9: L below it, at it, over it; twice and three times; none
abbrev failed : (L : ℕ) → (text left : List ℕ) → List (Fact Result)
failed n text left = each 9 (ascii "FAIL" ++ n ∷ 0 ∷ 0 ∷ 0 ∷ low 65 22) (ended (A.fail text) left)

abbrev fails : List (Fact Result)
fails =
    failed 0 [] (low 65 22)
    ++ failed 8 (low 65 8) (low 73 14)
    ++ failed 9 (low 65 9) (low 74 13)
    ++ failed 10 (low 65 9) (low 75 12)
    ++ failed 18 (low 65 9) (low 83 4)
    ++ failed 20 (low 65 9) (low 85 2)
    -- all four bytes of L; a text that has not all come, and a rest that has not
    ++ each 0x1_0000_0000 (ascii "FAIL" ++ low 4 9) (short 0x0706_0504 (low 8 5))
    ++ each 9 (ascii "FAIL" ++ 20 ∷ 0 ∷ 0 ∷ 0 ∷ low 65 8) (short 9 (low 65 8))
    ++ each 9 (ascii "FAIL" ++ 20 ∷ 0 ∷ 0 ∷ 0 ∷ low 65 10) (short 9 (74 ∷ []))
    ++ each 9 (ascii "FAIL" ++ 20 ∷ 0 ∷ 0 ∷ 0 ∷ low 65 19) (short 2 (83 ∷ []))

-- ---- 15: "an id not allowed is 15 with its bytes, header left"

abbrev unexpected : (ids : List (List ℕ)) → Call → List (Fact Result)
unexpected ids q = map (λ i. row 99 q (i ++ low 4 72) (ended (A.unexpected i) (i ++ low 4 72))) ids

-- every id that a call does not read; LST2 (LST2-symlink) is none of the fifteen
abbrev foreign : List (Fact Result)
foreign =
    unexpected (ascii "STA2" ∷ ascii "DENT" ∷ ascii "DNT2" ∷ ascii "DATA" ∷ ascii "DONE" ∷ ascii "OKAY" ∷ ascii "QUIT" ∷ ascii "LST2" ∷ []) stat_call
    ++ unexpected (ascii "STAT" ∷ ascii "DENT" ∷ ascii "DNT2" ∷ ascii "DATA" ∷ ascii "DONE" ∷ ascii "OKAY" ∷ ascii "QUIT" ∷ ascii "LST2" ∷ []) stat2_call
    ++ unexpected (ascii "STAT" ∷ ascii "STA2" ∷ ascii "DNT2" ∷ ascii "DATA" ∷ ascii "LIST" ∷ ascii "OKAY" ∷ ascii "RECV" ∷ []) (next_entry v1)
    ++ unexpected (ascii "STAT" ∷ ascii "STA2" ∷ ascii "DENT" ∷ ascii "DATA" ∷ ascii "LIS2" ∷ ascii "OKAY" ∷ ascii "RCV2" ∷ []) (next_entry v2)
    ++ unexpected (ascii "STAT" ∷ ascii "STA2" ∷ ascii "DENT" ∷ ascii "DNT2" ∷ ascii "SEND" ∷ ascii "OKAY" ∷ ascii "SND2" ∷ []) next_chunk
    ++ unexpected (ascii "STAT" ∷ ascii "STA2" ∷ ascii "DENT" ∷ ascii "DNT2" ∷ ascii "DATA" ∷ ascii "DONE" ∷ []) done_call

-- ---- inputs that end: "need(n): 17 if n > c; E if U has fewer than n", and nothing is consumed by it

-- of the bytes u the first k, for each k of some: the call stops at need(n) with `left` of them
abbrev cut_at : (capacity : ℕ) → Call → (u : List ℕ) → (ks : List ℕ) → (n dropped : ℕ) → List (Fact Result)
cut_at c q u ks n dropped = map (λ k. row c q (take k u) (short n (drop dropped (take k u)))) ks

abbrev cuts : List (Fact Result)
cuts =
    cut_at 99 stat_call (ascii "STAT" ++ low 4 12) (counting 0 8) 8 0
    ++ cut_at 99 stat_call (ascii "STAT" ++ low 4 12) (counting 8 8) 16 0
    ++ cut_at 99 stat2_call (ascii "STA2" ++ zeros 68) (0 ∷ 7 ∷ []) 8 0
    ++ cut_at 99 stat2_call (ascii "STA2" ++ zeros 68) (8 ∷ 16 ∷ 71 ∷ []) 72 0
    ++ cut_at 99 (next_entry v1) (ascii "DENT" ++ low 4 12 ++ 3 ∷ 0 ∷ 0 ∷ 0 ∷ [] ++ ascii "T98") (0 ∷ 7 ∷ []) 8 0
    ++ cut_at 99 (next_entry v1) (ascii "DENT" ++ low 4 12 ++ 3 ∷ 0 ∷ 0 ∷ 0 ∷ [] ++ ascii "T98") (counting 8 12) 20 0
    ++ cut_at 99 (next_entry v1) (ascii "DENT" ++ low 4 12 ++ 3 ∷ 0 ∷ 0 ∷ 0 ∷ [] ++ ascii "T98") (20 ∷ 21 ∷ 22 ∷ []) 3 20
    ++ cut_at 99 (next_entry v1) (ascii "DONE" ++ zeros 16) (counting 8 12) 20 0
    ++ cut_at 99 (next_entry v2) (ascii "DNT2" ++ low 4 68 ++ 3 ∷ 0 ∷ 0 ∷ 0 ∷ [] ++ ascii "T98") (0 ∷ 7 ∷ []) 8 0
    ++ cut_at 99 (next_entry v2) (ascii "DNT2" ++ low 4 68 ++ 3 ∷ 0 ∷ 0 ∷ 0 ∷ [] ++ ascii "T98") (8 ∷ 20 ∷ 75 ∷ []) 76 0
    ++ cut_at 99 (next_entry v2) (ascii "DNT2" ++ low 4 68 ++ 3 ∷ 0 ∷ 0 ∷ 0 ∷ [] ++ ascii "T98") (76 ∷ 77 ∷ 78 ∷ []) 3 76
    ++ cut_at 99 (next_entry v2) (ascii "DONE" ++ zeros 72) (8 ∷ 20 ∷ 75 ∷ []) 76 0
    ++ cut_at 99 next_chunk (ascii "DATA" ++ 3 ∷ 0 ∷ 0 ∷ 0 ∷ [] ++ ascii "T98") (counting 0 8) 8 0
    ++ cut_at 99 next_chunk (ascii "DATA" ++ 3 ∷ 0 ∷ 0 ∷ 0 ∷ [] ++ ascii "T98") (8 ∷ 9 ∷ 10 ∷ []) 11 0
    ++ cut_at 99 done_call (ascii "OKAY" ++ zeros 4) (counting 0 8) 8 0
    ++ cut_at 99 next_chunk (ascii "FAIL" ++ 3 ∷ 0 ∷ 0 ∷ 0 ∷ [] ++ ascii "T98") (counting 0 8) 8 0
    ++ cut_at 99 next_chunk (ascii "FAIL" ++ 3 ∷ 0 ∷ 0 ∷ 0 ∷ [] ++ ascii "T98") (8 ∷ 9 ∷ 10 ∷ []) 3 8

-- ---- "Starts (list and list_v2 too) and data only write": they read nothing, whatever has come

abbrev starts : List (Fact Result)
starts =
    map (λ q. row 8 q (ascii "FAIL" ++ zeros 4) (ended A.done (ascii "FAIL" ++ zeros 4)))
    (call (ask list path) ∷ call (ask lis2 path) ∷ call (ask recv path) ∷ call (rcv2 path 0) ∷ call (send path 1) ∷ call (snd2 path 1 0)
    ∷ call (chunk path) ∷ call (chunk []) ∷ call quit
    ∷ [])

abbrev pub replies : List (Fact Result)
replies = stats ++ listings ++ chunks ++ fails ++ foreign ++ cuts ++ starts
