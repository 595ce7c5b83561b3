-- A panel's replies as `yuglasno_speak` is called for them, their bytes by hand, the calls that they belong to, and the answers: document 01's
-- listing and its file's STAT reply, a v2 listing, a pull, a push, an errno, and a FAIL in every call that reads (document 02, [4]). All seven
-- features, and a receive buffer of 76 bytes: as long as the largest record.
-- Assumes nothing.
use Rattle.std.specs.Prelude.{ℕ, List, [], ◌∷◌, ◌++◌, replicate}
use Rattle.protocol.specs.Answers as A
use Rattle.protocol.specs.Answers.{Answer}
use Rattle.protocol.specs.Bytes.{ascii}
use Rattle.protocol.specs.Calls.{call, next_entry, next_chunk, v1, v2, Made, anytimes}
use Rattle.protocol.specs.Messages as Q
use Rattle.panel_reply.specs.Facts.{file, missing}
use Rattle.panel_reply.specs.Replies.{Reply, stat, stat2, entry, entry2, listing_end, chunk, transfer_end, okay, fail}
use Rattle.panel_side.specs.ReadBack.{Utterance}
use Rattle.claims.specs.Example.{dirty}

abbrev pub seven_banner : List ℕ
seven_banner =
    ascii "device::features=stat_v2,ls_v2,sendrecv_v2,sendrecv_v2_brotli,sendrecv_v2_lz4,sendrecv_v2_zstd,sendrecv_v2_dry_run_send"

-- a number below 256 in eight bytes
abbrev word : ℕ → List ℕ
word n = n ∷ replicate 7 0

-- mode 33188, size 1998, mtime 5
abbrev file_numbers : List ℕ
file_numbers = 0xa4 ∷ 0x81 ∷ replicate 6 0 ++ 0xce ∷ 7 ∷ replicate 6 0 ++ word 5

abbrev file_bytes : List ℕ
file_bytes = 0xa4 ∷ 0x81 ∷ 0 ∷ 0 ∷ 0xce ∷ 7 ∷ 0 ∷ 0 ∷ 5 ∷ 0 ∷ 0 ∷ 0 ∷ []

module _ (settings : List ℕ) where
  -- into a buffer of 80 bytes, the length into a slice of 120; both have bytes already
  abbrev pub say : (kind : ℕ) → (numbers lent : List ℕ) → Utterance
  say k numbers lent = record { settings = settings; kind = k; numbers = numbers; lent = lent; out = dirty 80; told = dirty 120 }

  abbrev no : Utterance
  no = say 7 [] (ascii "no")

  abbrev pub utterances : List Utterance
  utterances =
      say 2 file_numbers [] ∷ say 3 (word 2 ++ replicate 80 0) []
      ∷ say 4 file_numbers (ascii "T98") ∷ say 8 [] []
      ∷ say 5 (word 2 ++ replicate 80 0) (ascii "T98") ∷ say 9 [] []
      ∷ say 6 [] (ascii "heights") ∷ say 1 [] []
      ∷ say 0 [] []
      ∷ no ∷ no ∷ no ∷ no ∷ no ∷ no
      ∷ []

abbrev pub replies : List Reply
replies =
    stat file ∷ stat2 missing
    ∷ entry file (ascii "T98") ∷ listing_end v1
    ∷ entry2 missing (ascii "T98") ∷ listing_end v2
    ∷ chunk (ascii "heights") ∷ transfer_end
    ∷ okay
    ∷ fail (ascii "no") ∷ fail (ascii "no") ∷ fail (ascii "no") ∷ fail (ascii "no") ∷ fail (ascii "no") ∷ fail (ascii "no")
    ∷ []

abbrev failed : List ℕ
failed = ascii "FAIL" ++ 2 ∷ 0 ∷ 0 ∷ 0 ∷ 0x6e ∷ 0x6f ∷ []

-- what the panel sends
abbrev pub sent : List ℕ
sent =
    ascii "STAT" ++ file_bytes
    ++ ascii "STA2" ++ 2 ∷ replicate 67 0
    ++ ascii "DENT" ++ file_bytes ++ 3 ∷ 0 ∷ 0 ∷ 0 ∷ ascii "T98"
    ++ ascii "DONE" ++ replicate 16 0
    ++ ascii "DNT2" ++ 2 ∷ replicate 67 0 ++ 3 ∷ 0 ∷ 0 ∷ 0 ∷ ascii "T98"
    ++ ascii "DONE" ++ replicate 72 0
    ++ ascii "DATA" ++ 7 ∷ 0 ∷ 0 ∷ 0 ∷ ascii "heights"
    ++ ascii "DONE" ++ replicate 4 0
    ++ ascii "OKAY" ++ replicate 4 0
    ++ failed ++ failed ++ failed ++ failed ++ failed ++ failed

abbrev pub path : List ℕ
path = ascii "/j"

-- the calls, those that only write among them
abbrev pub made : List Made
made =
    anytimes
    (call (Q.ask Q.stat path) ∷ call (Q.ask Q.sta2 path)
    ∷ call (Q.ask Q.list path) ∷ next_entry v1 ∷ next_entry v1
    ∷ call (Q.ask Q.lis2 path) ∷ next_entry v2 ∷ next_entry v2
    ∷ call (Q.ask Q.recv path) ∷ next_chunk ∷ next_chunk
    ∷ call (Q.rcv2 path 4) ∷ call (Q.snd2 path 33188 0x8000_0002)
    ∷ call (Q.send path 33188) ∷ call (Q.chunk (ascii "heights")) ∷ call (Q.done 5)
    ∷ call (Q.ask Q.stat path) ∷ call (Q.ask Q.sta2 path) ∷ next_entry v1 ∷ next_entry v2 ∷ next_chunk ∷ call (Q.done 5)
    ∷ [])

abbrev pub heard : List Answer
heard =
    A.stat file ∷ A.errno 2
    ∷ A.done ∷ A.entry file (ascii "T98") ∷ A.end
    ∷ A.done ∷ A.entry2 missing (ascii "T98") ∷ A.end
    ∷ A.done ∷ A.chunk (ascii "heights") ∷ A.end
    ∷ A.done ∷ A.done
    ∷ A.done ∷ A.done ∷ A.done
    ∷ A.fail (ascii "no") ∷ A.fail (ascii "no") ∷ A.fail (ascii "no") ∷ A.fail (ascii "no") ∷ A.fail (ascii "no") ∷ A.fail (ascii "no")
    ∷ []
