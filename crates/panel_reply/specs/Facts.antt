-- Facts on the panel's replies, by hand: the layouts are those of SYNC.TXT and file_sync_protocol.h (or the bytes are AOSP's, from captures.jsonl,
-- by the label given), the limits document 02's, [4].
-- Assumes nothing.
use Rattle.std.specs.Prelude.{ℕ, ◌+◌, ◌-◌, Bool, true, false, List, [], ◌∷◌, ◌++◌, map, pos, replicate}
use Rattle.protocol.specs.Bytes.{ascii}
use Rattle.protocol.specs.Calls.{v1, v2}
use Rattle.protocol.specs.Fact.{Fact}
use Rattle.protocol.specs.Ids.{Table, letters, under, published}
use Rattle.protocol.specs.Records.{Stat, Stat2}
use Rattle.protocol.specs.Replies.{counting, low_stat, low_stat2, high_stat2}
use Rattle.panel_reply.specs.Replies.{Reply, stat, stat2, entry, entry2, listing_end, chunk, transfer_end, okay, fail, bytes_of_reply, too_many, is_short, spoken}

abbrev row : {A : Type 0} → A → A → Fact A
row c p = record { computed = c; paper = p }

abbrev says : Reply → List ℕ → Fact (List ℕ)
says r b = row (bytes_of_reply published r) b

-- document 01's file: "mode 33188, size 1998, mtime 5"
abbrev pub file : Stat
file = record { mode = 33188; size = 1998; mtime = 5 }

abbrev file_fields : List ℕ
file_fields = 0xa4 ∷ 0x81 ∷ 0 ∷ 0 ∷ 0xce ∷ 7 ∷ 0 ∷ 0 ∷ 5 ∷ 0 ∷ 0 ∷ 0 ∷ []

-- STA2-missing: nothing but an errno
abbrev pub missing : Stat2
missing = record { error = 2; dev = 0; ino = 0; mode = 0; nlink = 0; uid = 0; gid = 0; size = 0; atime = pos 0; mtime = pos 0; ctime = pos 0 }

-- ---- the bytes of each reply

abbrev pub replies : List (Fact (List ℕ))
replies =
    -- "STAT, 16 bytes: mode 4, size 8, mtime 12": each byte its own offset; document 01's file; STAT-5GiB
    says (stat low_stat) (ascii "STAT" ++ counting 4 12)
    ∷ says (stat file) (0x53 ∷ 0x54 ∷ 0x41 ∷ 0x54 ∷ file_fields)
    ∷ says (stat (record { mode = 33188; size = 1073741831; mtime = 1600000000 }))
    (ascii "STAT" ++ 0xa4 ∷ 0x81 ∷ 0 ∷ 0 ∷ 7 ∷ 0 ∷ 0 ∷ 0x40 ∷ 0 ∷ 0x10 ∷ 0x5e ∷ 0x5f ∷ [])
    ∷ says (stat (record { mode = 0xffff_ffff; size = 0xffff_ffff; mtime = 0xffff_ffff })) (ascii "STAT" ++ replicate 12 255)
    -- "STA2, 72: error 4, dev 8 (u64), ino 16 (u64), mode 24, nlink 28, uid 32, gid 36, size 40 (u64), atime 48, mtime 56, ctime 64 (each i64)"
    ∷ says (stat2 (low_stat2 0x0706_0504)) (ascii "STA2" ++ counting 4 68)
    ∷ says (stat2 (high_stat2 0xf8f9_fafb)) (ascii "STA2" ++ map (λ i. 255 - i) (counting 4 68))
    ∷ says (stat2 missing) (ascii "STA2" ++ 2 ∷ replicate 67 0)
    -- "DENT, 20: .. namelen 16, then the name": document 01's listing; no name; any bytes
    ∷ says (entry file (ascii "T98")) (ascii "DENT" ++ file_fields ++ 3 ∷ 0 ∷ 0 ∷ 0 ∷ 0x54 ∷ 0x39 ∷ 0x38 ∷ [])
    ∷ says (entry low_stat []) (ascii "DENT" ++ counting 4 12 ++ 0 ∷ 0 ∷ 0 ∷ 0 ∷ [])
    ∷ says (entry low_stat (0 ∷ 255 ∷ 47 ∷ [])) (ascii "DENT" ++ counting 4 12 ++ 3 ∷ 0 ∷ 0 ∷ 0 ∷ 0 ∷ 255 ∷ 47 ∷ [])
    ∷ says (entry low_stat (replicate 258 97)) (ascii "DENT" ++ counting 4 12 ++ 2 ∷ 1 ∷ 0 ∷ 0 ∷ replicate 258 97)
    -- "DNT2, 76: as STA2, namelen 72, then the name", an errno or none
    ∷ says (entry2 (low_stat2 0x0706_0504) (ascii "T98")) (ascii "DNT2" ++ counting 4 68 ++ 3 ∷ 0 ∷ 0 ∷ 0 ∷ 0x54 ∷ 0x39 ∷ 0x38 ∷ [])
    ∷ says (entry2 missing []) (ascii "DNT2" ++ 2 ∷ replicate 71 0)
    -- the DONE of a listing: "a whole entry record", its other bytes zeros
    ∷ says (listing_end v1) (0x44 ∷ 0x4f ∷ 0x4e ∷ 0x45 ∷ replicate 16 0)
    ∷ says (listing_end v2) (0x44 ∷ 0x4f ∷ 0x4e ∷ 0x45 ∷ replicate 72 0)
    -- RECV-file, its chunk and its end; no data
    ∷ says (chunk (ascii "hello, world" ++ 10 ∷ [])) (ascii "DATA" ++ 13 ∷ 0 ∷ 0 ∷ 0 ∷ [] ++ ascii "hello, world" ++ 10 ∷ [])
    ∷ says (chunk []) (ascii "DATA" ++ 0 ∷ 0 ∷ 0 ∷ 0 ∷ [])
    ∷ says transfer_end (0x44 ∷ 0x4f ∷ 0x4e ∷ 0x45 ∷ 0 ∷ 0 ∷ 0 ∷ 0 ∷ [])
    ∷ says okay (0x4f ∷ 0x4b ∷ 0x41 ∷ 0x59 ∷ 0 ∷ 0 ∷ 0 ∷ 0 ∷ [])
    ∷ says (fail (ascii "no")) (0x46 ∷ 0x41 ∷ 0x49 ∷ 0x4c ∷ 2 ∷ 0 ∷ 0 ∷ 0 ∷ 0x6e ∷ 0x6f ∷ [])
    ∷ says (fail []) (ascii "FAIL" ++ 0 ∷ 0 ∷ 0 ∷ 0 ∷ [])
    ∷ []

-- ---- under other letters: each 32 above the published one

abbrev others : Table
others i = map (λ (b : ℕ). b + 32) (letters i)

abbrev says_under : Reply → List ℕ → Fact (List ℕ)
says_under r b = row (bytes_of_reply (under others) r) b

abbrev pub lettered : List (Fact (List ℕ))
lettered =
    says_under (stat file) (ascii "stat" ++ file_fields)
    ∷ says_under (stat2 missing) (ascii "staR" ++ 2 ∷ replicate 67 0)
    ∷ says_under (entry file []) (ascii "dent" ++ file_fields ++ 0 ∷ 0 ∷ 0 ∷ 0 ∷ [])
    ∷ says_under (entry2 missing []) (ascii "dntR" ++ 2 ∷ replicate 71 0)
    ∷ says_under (listing_end v1) (ascii "done" ++ replicate 16 0)
    ∷ says_under (listing_end v2) (ascii "done" ++ replicate 72 0)
    ∷ says_under (chunk (ascii "DATA")) (ascii "data" ++ 4 ∷ 0 ∷ 0 ∷ 0 ∷ ascii "DATA")
    ∷ says_under transfer_end (ascii "done" ++ 0 ∷ 0 ∷ 0 ∷ 0 ∷ [])
    ∷ says_under okay (ascii "okay" ++ 0 ∷ 0 ∷ 0 ∷ 0 ∷ [])
    ∷ says_under (fail (ascii "OKAY")) (ascii "fail" ++ 4 ∷ 0 ∷ 0 ∷ 0 ∷ ascii "OKAY")
    ∷ []

-- ---- limits: "data over 65,536 bytes, or a name or text of 2^32 bytes or more"

-- the first length of each that is too many
abbrev pub lengths : List (Fact ℕ)
lengths =
    row (too_many (entry file [])) 4294967296
    ∷ row (too_many (entry2 missing [])) 4294967296
    ∷ row (too_many (fail [])) 4294967296
    ∷ row (too_many (chunk [])) 65537
    ∷ []

abbrev pub limits : List (Fact Bool)
limits =
    row (is_short (chunk (replicate 65536 0))) true
    ∷ row (is_short (chunk (replicate 65537 0))) false
    ∷ row (is_short (entry file (replicate 65537 0))) true
    ∷ row (is_short (entry2 missing (replicate 65537 0))) true
    ∷ row (is_short (fail (replicate 65537 0))) true
    ∷ []

-- ---- into a buffer: the reply and its length, "bytes beyond the reply don't alter"; a byte too little, and nothing is written

abbrev into : Reply → (out : List ℕ) → (after : List ℕ) → (length : ℕ) → Fact (List ℕ × ℕ)
into r out after n = row (spoken published r out) (after, n)

abbrev pub buffers : List (Fact (List ℕ × ℕ))
buffers =
    into okay (ascii "..........") (ascii "OKAY" ++ 0 ∷ 0 ∷ 0 ∷ 0 ∷ ascii "..") 8
    ∷ into okay (ascii "........") (ascii "OKAY" ++ 0 ∷ 0 ∷ 0 ∷ 0 ∷ []) 8
    ∷ into okay (ascii ".......") (ascii ".......") 0
    ∷ into transfer_end [] [] 0
    ∷ into (fail (ascii "no")) (ascii "...........") (ascii "FAIL" ++ 2 ∷ 0 ∷ 0 ∷ 0 ∷ ascii "no.") 10
    ∷ into (fail (ascii "no")) (ascii ".........") (ascii ".........") 0
    ∷ into (entry file []) (replicate 21 46) (ascii "DENT" ++ file_fields ++ 0 ∷ 0 ∷ 0 ∷ 0 ∷ 46 ∷ []) 20
    ∷ into (entry file (ascii "T98")) (replicate 22 46) (replicate 22 46) 0
    ∷ into (listing_end v1) (replicate 19 46) (replicate 19 46) 0
    ∷ into (listing_end v2) (replicate 77 46) (ascii "DONE" ++ replicate 72 0 ++ 46 ∷ []) 76
    ∷ []
