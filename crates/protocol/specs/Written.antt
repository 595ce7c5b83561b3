-- Facts on what is written: the bytes of each call, and the pieces they go out in. The bytes are those of SYNC.TXT and file_sync_protocol.h, or
-- what AOSP's service was sent and took (captures.jsonl, by the label given); the pieces are document 01's: "one that fits is composed .. and
-- written as one piece; otherwise the header goes out, then each nonempty part".
-- Assumes nothing.
use Rattle.std.specs.Prelude.{ℕ, ◌-◌, Bool, true, false, List, [], ◌∷◌, ◌++◌, map, replicate}
use Rattle.protocol.specs.Bytes.{ascii}
use Rattle.protocol.specs.Calls.{v1, v2, Call, call, next_entry, next_chunk}
use Rattle.protocol.specs.Fact.{Fact}
use Rattle.protocol.specs.Ids.{published}
use Rattle.protocol.specs.Messages.{ask, stat, sta2, list, lis2, recv, Request, rcv2, send, snd2, chunk, done, quit, pieces}
use Rattle.protocol.specs.Reader.{Config, accepted, writes}

-- a session with these features
abbrev pub session : List Bool → Config
session features = record { setting = record { dialect = published; features = features; ended = false }; capacity = 8; close = accepted }

-- what a call writes where every feature is there
abbrev row : Call → List ℕ → Fact (List ℕ)
row q s = record { computed = writes (session (replicate 7 true)) q; paper = s }

abbrev hello : List ℕ
hello = ascii "/t/hello.txt"

-- "STAT, STA2, LIST, LIS2, RECV: arg is the path length, then the path"
abbrev asked : List (Fact (List ℕ))
asked =
    -- STAT-file, STA2-file, LIST-dir, LIS2-dir, RECV-file
    row (call (ask stat hello)) (0x53 ∷ 0x54 ∷ 0x41 ∷ 0x54 ∷ 12 ∷ 0 ∷ 0 ∷ 0 ∷ hello)
    ∷ row (call (ask sta2 hello)) (0x53 ∷ 0x54 ∷ 0x41 ∷ 0x32 ∷ 12 ∷ 0 ∷ 0 ∷ 0 ∷ hello)
    ∷ row (call (ask list (ascii "/t"))) (0x4c ∷ 0x49 ∷ 0x53 ∷ 0x54 ∷ 2 ∷ 0 ∷ 0 ∷ 0 ∷ 0x2f ∷ 0x74 ∷ [])
    ∷ row (call (ask lis2 (ascii "/t"))) (0x4c ∷ 0x49 ∷ 0x53 ∷ 0x32 ∷ 2 ∷ 0 ∷ 0 ∷ 0 ∷ 0x2f ∷ 0x74 ∷ [])
    ∷ row (call (ask recv hello)) (0x52 ∷ 0x45 ∷ 0x43 ∷ 0x56 ∷ 12 ∷ 0 ∷ 0 ∷ 0 ∷ hello)
    -- the second byte of a length
    ∷ row (call (ask stat (replicate 0x102 97))) (ascii "STAT" ++ 2 ∷ 1 ∷ 0 ∷ 0 ∷ replicate 0x102 97)
    ∷ []

-- "RCV2: arg is the path length; path, "RCV2", flags. SND2: path, "SND2", mode, flags. SEND: arg counts path, comma and decimal mode."
abbrev transfers : List (Fact (List ℕ))
transfers =
    -- RCV2-file, RCV2-zstd-text
    row (call (rcv2 hello 0)) (0x52 ∷ 0x43 ∷ 0x56 ∷ 0x32 ∷ 12 ∷ 0 ∷ 0 ∷ 0 ∷ hello ++ 0x52 ∷ 0x43 ∷ 0x56 ∷ 0x32 ∷ 0 ∷ 0 ∷ 0 ∷ 0 ∷ [])
    ∷ row (call (rcv2 (ascii "/t/text") 4)) (ascii "RCV2" ++ 7 ∷ 0 ∷ 0 ∷ 0 ∷ [] ++ ascii "/t/text" ++ ascii "RCV2" ++ 4 ∷ 0 ∷ 0 ∷ 0 ∷ [])
    -- SND2-lz4, SND2-dry-run, and a mode of four distinct bytes
    ∷ row (call (snd2 (ascii "/w/lz4") 33188 2))
    (0x53 ∷ 0x4e ∷ 0x44 ∷ 0x32 ∷ 6 ∷ 0 ∷ 0 ∷ 0 ∷ ascii "/w/lz4" ++ 0x53 ∷ 0x4e ∷ 0x44 ∷ 0x32 ∷ 0xa4 ∷ 0x81 ∷ 0 ∷ 0 ∷ 2 ∷ 0 ∷ 0 ∷ 0 ∷ [])
    ∷ row (call (snd2 (ascii "/w/dry") 33188 0x8000_0000))
    (ascii "SND2" ++ 6 ∷ 0 ∷ 0 ∷ 0 ∷ [] ++ ascii "/w/dry" ++ ascii "SND2" ++ 0xa4 ∷ 0x81 ∷ 0 ∷ 0 ∷ 0 ∷ 0 ∷ 0 ∷ 0x80 ∷ [])
    ∷ row (call (snd2 (ascii "/w") 0xf403_0201 1)) (ascii "SND2" ++ 2 ∷ 0 ∷ 0 ∷ 0 ∷ [] ++ ascii "/w" ++ ascii "SND2" ++ 1 ∷ 2 ∷ 3 ∷ 0xf4 ∷ 1 ∷ 0 ∷ 0 ∷ 0 ∷ [])
    -- SEND-file, SEND-comma-in-path, SEND-symlink; zeros inside a mode
    ∷ row (call (send (ascii "/w/a") 33188)) (0x53 ∷ 0x45 ∷ 0x4e ∷ 0x44 ∷ 10 ∷ 0 ∷ 0 ∷ 0 ∷ ascii "/w/a" ++ 0x2c ∷ 0x33 ∷ 0x33 ∷ 0x31 ∷ 0x38 ∷ 0x38 ∷ [])
    ∷ row (call (send (ascii "/w/d,e") 33188)) (ascii "SEND" ++ 12 ∷ 0 ∷ 0 ∷ 0 ∷ [] ++ ascii "/w/d,e,33188")
    ∷ row (call (send (ascii "/w/l") 41471)) (ascii "SEND" ++ 10 ∷ 0 ∷ 0 ∷ 0 ∷ [] ++ ascii "/w/l,41471")
    ∷ row (call (send (ascii "/w") 10305)) (ascii "SEND" ++ 8 ∷ 0 ∷ 0 ∷ 0 ∷ [] ++ ascii "/w,10305")
    ∷ row (call (send (ascii "/w") 10)) (ascii "SEND" ++ 5 ∷ 0 ∷ 0 ∷ 0 ∷ [] ++ ascii "/w,10")
    ∷ []

-- "empty data writes nothing"; "Finishing a push: DONE with mtime"; QUIT, header only; the steps of a listing and of a pull write nothing
abbrev others : List (Fact (List ℕ))
others =
    -- SEND-file's data and DONE, QUIT
    row (call (chunk (ascii "contents" ++ 10 ∷ []))) (0x44 ∷ 0x41 ∷ 0x54 ∷ 0x41 ∷ 9 ∷ 0 ∷ 0 ∷ 0 ∷ ascii "contents" ++ 10 ∷ [])
    ∷ row (call (chunk [])) []
    ∷ row (call (done 1600000000)) (0x44 ∷ 0x4f ∷ 0x4e ∷ 0x45 ∷ 0 ∷ 0x10 ∷ 0x5e ∷ 0x5f ∷ [])
    ∷ row (call (done 0xf403_0201)) (ascii "DONE" ++ 1 ∷ 2 ∷ 3 ∷ 0xf4 ∷ [])
    ∷ row (call quit) (0x51 ∷ 0x55 ∷ 0x49 ∷ 0x54 ∷ 0 ∷ 0 ∷ 0 ∷ 0 ∷ [])
    ∷ row (next_entry v1) []
    ∷ row (next_entry v2) []
    ∷ row next_chunk []
    ∷ []

-- "a refused call changes nothing", W neither: 8, 9 and 10
abbrev unwritten : List (Fact (List ℕ))
unwritten =
    map (λ q. record { computed = writes (session []) q; paper = [] })
    (call (ask stat (0 ∷ [])) ∷ call (send (0 ∷ []) 1) ∷ call (rcv2 [] 3) ∷ call (snd2 [] 1 8) ∷ call (ask sta2 []) ∷ call (ask lis2 []) ∷ call (rcv2 [] 0)
    ∷ call (snd2 [] 1 0)
    ∷ [])

abbrev pub writing : List (Fact (List ℕ))
writing = asked ++ transfers ++ others ++ unwritten

-- ---- pieces

-- a request of that size: one piece where it fits, an exact fit included, and with one byte less these pieces
abbrev in_pieces : Request → (size : ℕ) → (whole : List ℕ) → (apart : List (List ℕ)) → List (Fact (List (List ℕ)))
in_pieces q size whole apart =
    record { computed = pieces published 99 q; paper = whole ∷ [] }
    ∷ record { computed = pieces published size q; paper = whole ∷ [] }
    ∷ map (λ free. record { computed = pieces published free q; paper = apart }) (0 ∷ (size - 1) ∷ [])

abbrev pub going : List (Fact (List (List ℕ)))
going =
    in_pieces (ask stat (ascii "/w")) 10 (ascii "STAT" ++ 2 ∷ 0 ∷ 0 ∷ 0 ∷ [] ++ ascii "/w") ((ascii "STAT" ++ 2 ∷ 0 ∷ 0 ∷ 0 ∷ []) ∷ ascii "/w" ∷ [])
    ++ in_pieces (ask recv []) 8 (ascii "RECV" ++ 0 ∷ 0 ∷ 0 ∷ 0 ∷ []) ((ascii "RECV" ++ 0 ∷ 0 ∷ 0 ∷ 0 ∷ []) ∷ [])
    ++ in_pieces (rcv2 (ascii "/w") 4) 18 (ascii "RCV2" ++ 2 ∷ 0 ∷ 0 ∷ 0 ∷ [] ++ ascii "/wRCV2" ++ 4 ∷ 0 ∷ 0 ∷ 0 ∷ [])
    ((ascii "RCV2" ++ 2 ∷ 0 ∷ 0 ∷ 0 ∷ []) ∷ ascii "/w" ∷ ascii "RCV2" ∷ (4 ∷ 0 ∷ 0 ∷ 0 ∷ []) ∷ [])
    ++ in_pieces (send (ascii "/w") 420) 14 (ascii "SEND" ++ 6 ∷ 0 ∷ 0 ∷ 0 ∷ [] ++ ascii "/w,420")
    ((ascii "SEND" ++ 6 ∷ 0 ∷ 0 ∷ 0 ∷ []) ∷ ascii "/w" ∷ ascii "," ∷ ascii "420" ∷ [])
    ++ in_pieces (snd2 [] 33188 2) 20 (ascii "SND2" ++ 0 ∷ 0 ∷ 0 ∷ 0 ∷ [] ++ ascii "SND2" ++ 0xa4 ∷ 0x81 ∷ 0 ∷ 0 ∷ 2 ∷ 0 ∷ 0 ∷ 0 ∷ [])
    ((ascii "SND2" ++ 0 ∷ 0 ∷ 0 ∷ 0 ∷ []) ∷ ascii "SND2" ∷ (0xa4 ∷ 0x81 ∷ 0 ∷ 0 ∷ []) ∷ (2 ∷ 0 ∷ 0 ∷ 0 ∷ []) ∷ [])
    ++ in_pieces (chunk (ascii "xyz")) 11 (ascii "DATA" ++ 3 ∷ 0 ∷ 0 ∷ 0 ∷ [] ++ ascii "xyz") ((ascii "DATA" ++ 3 ∷ 0 ∷ 0 ∷ 0 ∷ []) ∷ ascii "xyz" ∷ [])
    ++ in_pieces (done 5) 8 (ascii "DONE" ++ 5 ∷ 0 ∷ 0 ∷ 0 ∷ []) ((ascii "DONE" ++ 5 ∷ 0 ∷ 0 ∷ 0 ∷ []) ∷ [])
    ++ in_pieces quit 8 (ascii "QUIT" ++ 0 ∷ 0 ∷ 0 ∷ 0 ∷ []) ((ascii "QUIT" ++ 0 ∷ 0 ∷ 0 ∷ 0 ∷ []) ∷ [])
