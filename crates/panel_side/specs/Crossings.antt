-- Facts on the panel's side as it crosses, by hand: ids and layouts are those of SYNC.TXT and file_sync_protocol.h, the answers those of documents
-- 01 and 02; the kinds, the numbers, their places and the order of the answers are this library's own, as docs/DECISIONS.md 59 to 62 and 65 fix
-- them for every host.
-- Assumes nothing.
use Rattle.std.specs.Prelude.{ℕ, List, [], ◌∷◌, ◌++◌, ℤ, pos, negsuc, take, replicate}
use Rattle.std.proofs.Math.Option.{Option, none, some}
use Rattle.protocol.specs.Bytes.{ascii}
use Rattle.protocol.specs.Calls.{v1, v2}
use Rattle.protocol.specs.Fact.{Fact}
use Rattle.protocol.specs.Ids.{letters}
use Rattle.protocol.specs.Records.{Stat, Stat2}
use Rattle.id_table.specs.Settings.{settings_of}
use Rattle.panel_reply.specs.Replies.{Reply, stat, stat2, entry, entry2, listing_end, chunk, transfer_end, okay, fail, say_lent}
use Rattle.panel_side.specs.Crossing.{say_kind, say_numbers, reply_numbered, Spoken, spoke, cross_speak, cross_heard}

abbrev row : {A : Type 0} → A → A → Fact A
row c p = record { computed = c; paper = p }

-- ---- numbers in eight bytes each

-- three of 32 bits, each byte its own
abbrev numbers : List ℕ
numbers =
    0x01 ∷ 0x02 ∷ 0x03 ∷ 0x04 ∷ 0 ∷ 0 ∷ 0 ∷ 0
    ∷ 0x11 ∷ 0x12 ∷ 0x13 ∷ 0x14 ∷ 0 ∷ 0 ∷ 0 ∷ 0
    ∷ 0x21 ∷ 0x22 ∷ 0x23 ∷ 0x24 ∷ 0 ∷ 0 ∷ 0 ∷ 0
    ∷ []

abbrev file : Stat
file = record { mode = 0x0403_0201; size = 0x1413_1211; mtime = 0x2423_2221 }

-- eleven, the times before 1970
abbrev numbers2 : List ℕ
numbers2 =
    0x01 ∷ 0x02 ∷ 0x03 ∷ 0x04 ∷ 0 ∷ 0 ∷ 0 ∷ 0
    ∷ 0x11 ∷ 0x12 ∷ 0x13 ∷ 0x14 ∷ 0x15 ∷ 0x16 ∷ 0x17 ∷ 0x18
    ∷ 0x21 ∷ 0x22 ∷ 0x23 ∷ 0x24 ∷ 0x25 ∷ 0x26 ∷ 0x27 ∷ 0x28
    ∷ 0x31 ∷ 0x32 ∷ 0x33 ∷ 0x34 ∷ 0 ∷ 0 ∷ 0 ∷ 0
    ∷ 0x41 ∷ 0x42 ∷ 0x43 ∷ 0x44 ∷ 0 ∷ 0 ∷ 0 ∷ 0
    ∷ 0x51 ∷ 0x52 ∷ 0x53 ∷ 0x54 ∷ 0 ∷ 0 ∷ 0 ∷ 0
    ∷ 0x61 ∷ 0x62 ∷ 0x63 ∷ 0x64 ∷ 0 ∷ 0 ∷ 0 ∷ 0
    ∷ 0x71 ∷ 0x72 ∷ 0x73 ∷ 0x74 ∷ 0x75 ∷ 0x76 ∷ 0x77 ∷ 0x78
    ∷ 0x81 ∷ 0x82 ∷ 0x83 ∷ 0x84 ∷ 0x85 ∷ 0x86 ∷ 0x87 ∷ 0x88
    ∷ 0x91 ∷ 0x92 ∷ 0x93 ∷ 0x94 ∷ 0x95 ∷ 0x96 ∷ 0x97 ∷ 0x98
    ∷ 0xa1 ∷ 0xa2 ∷ 0xa3 ∷ 0xa4 ∷ 0xa5 ∷ 0xa6 ∷ 0xa7 ∷ 0xa8
    ∷ []

abbrev file2 : Stat2
file2 =
    record {
      error = 0x0403_0201;
      dev = 0x1817_1615_1413_1211;
      ino = 0x2827_2625_2423_2221;
      mode = 0x3433_3231;
      nlink = 0x4443_4241;
      uid = 0x5453_5251;
      gid = 0x6463_6261;
      size = 0x7877_7675_7473_7271;
      atime = negsuc 0x7778_797a_7b7c_7d7e;
      mtime = negsuc 0x6768_696a_6b6c_6d6e;
      ctime = negsuc 0x5758_595a_5b5c_5d5e;
    }

-- ---- a reply by its kind

abbrev name : List ℕ
name = ascii "a.c"

abbrev kind : (k : ℕ) → (numbers : List ℕ) → Option Reply → Fact (Option Reply)
kind k n r = row (reply_numbered k n name) r

abbrev pub kinds : List (Fact (Option Reply))
kinds =
    kind 0 [] (some okay)
    ∷ kind 1 [] (some transfer_end)
    ∷ kind 2 numbers (some (stat file))
    ∷ kind 3 numbers2 (some (stat2 file2))
    ∷ kind 4 numbers (some (entry file (ascii "a.c")))
    ∷ kind 5 numbers2 (some (entry2 file2 (ascii "a.c")))
    ∷ kind 6 [] (some (chunk (ascii "a.c")))
    ∷ kind 7 [] (some (fail (ascii "a.c")))
    ∷ kind 8 [] (some (listing_end v1))
    ∷ kind 9 [] (some (listing_end v2))
    ∷ kind 10 numbers2 none
    ∷ kind 0xffff_ffff numbers2 none
    -- bytes behind the numbers, and numbers of a kind that carries none, are not looked at; numbers that are not all there
    ∷ kind 2 (numbers ++ 255 ∷ []) (some (stat file))
    ∷ kind 3 (numbers2 ++ 255 ∷ []) (some (stat2 file2))
    ∷ kind 0 numbers2 (some okay)
    ∷ kind 1 numbers2 (some transfer_end)
    ∷ kind 6 numbers2 (some (chunk (ascii "a.c")))
    ∷ kind 7 numbers2 (some (fail (ascii "a.c")))
    ∷ kind 8 numbers2 (some (listing_end v1))
    ∷ kind 9 numbers2 (some (listing_end v2))
    ∷ kind 2 (take 23 numbers) none
    ∷ kind 3 (take 87 numbers2) none
    ∷ kind 4 (take 23 numbers) none
    ∷ kind 5 (take 87 numbers2) none
    ∷ kind 2 [] none
    ∷ kind 5 numbers none
    ∷ []

-- what a reply passes: its kind, its numbers, what is lent with it
pub record Passed : Type 0 where
  pub kind : ℕ
  pub numbers : List ℕ
  pub lent : List ℕ

abbrev passes : Reply → (k : ℕ) → (n lent : List ℕ) → Fact Passed
passes r k n lent =
    row (record { kind = say_kind r; numbers = say_numbers r; lent = say_lent r }) (record { kind = k; numbers = n; lent = lent })

abbrev pub passed : List (Fact Passed)
passed =
    passes okay 0 [] []
    ∷ passes transfer_end 1 [] []
    ∷ passes (stat file) 2 (0x0403_0201 ∷ 0x1413_1211 ∷ 0x2423_2221 ∷ []) []
    ∷ passes (stat2 file2) 3
    (0x0403_0201 ∷ 0x1817_1615_1413_1211 ∷ 0x2827_2625_2423_2221 ∷ 0x3433_3231 ∷ 0x4443_4241 ∷ 0x5453_5251 ∷ 0x6463_6261 ∷ 0x7877_7675_7473_7271
    ∷ 0x8887_8685_8483_8281 ∷ 0x9897_9695_9493_9291 ∷ 0xa8a7_a6a5_a4a3_a2a1
    ∷ [])
    []
    ∷ passes (entry file name) 4 (0x0403_0201 ∷ 0x1413_1211 ∷ 0x2423_2221 ∷ []) (ascii "a.c")
    ∷ passes (entry2 file2 name) 5
    (0x0403_0201 ∷ 0x1817_1615_1413_1211 ∷ 0x2827_2625_2423_2221 ∷ 0x3433_3231 ∷ 0x4443_4241 ∷ 0x5453_5251 ∷ 0x6463_6261 ∷ 0x7877_7675_7473_7271
    ∷ 0x8887_8685_8483_8281 ∷ 0x9897_9695_9493_9291 ∷ 0xa8a7_a6a5_a4a3_a2a1
    ∷ [])
    (ascii "a.c")
    ∷ passes (chunk name) 6 [] (ascii "a.c")
    ∷ passes (fail name) 7 [] (ascii "a.c")
    ∷ passes (listing_end v1) 8 [] []
    ∷ passes (listing_end v2) 9 [] []
    ∷ []

-- ---- fields of 32 bits, all three of v1, and error, mode, nlink, uid and gid of v2: a number of 2^32 is none of theirs (DECISIONS 61)

-- the most that 32 bits hold, one more, the most that 64 hold; zeros
abbrev most : List ℕ
most = 255 ∷ 255 ∷ 255 ∷ 255 ∷ 0 ∷ 0 ∷ 0 ∷ 0 ∷ []

abbrev more : List ℕ
more = 0 ∷ 0 ∷ 0 ∷ 0 ∷ 1 ∷ 0 ∷ 0 ∷ 0 ∷ []

abbrev all : List ℕ
all = replicate 8 255

abbrev zeros : ℕ → List ℕ
zeros n = replicate n 0

abbrev v1_of : (mode size mtime : ℕ) → Option Reply
v1_of m s t = some (stat (record { mode = m; size = s; mtime = t }))

-- all three times the same
abbrev v2_of : (error dev ino mode nlink uid gid size : ℕ) → (time : ℤ) → Option Reply
v2_of e d i m n u g s t =
    some (stat2
    (record {
      error = e;
      dev = d;
      ino = i;
      mode = m;
      nlink = n;
      uid = u;
      gid = g;
      size = s;
      atime = t;
      mtime = t;
      ctime = t;
    }))

abbrev pub widths : List (Fact (Option Reply))
widths =
    kind 2 (most ++ zeros 16) (v1_of 0xffff_ffff 0 0)
    ∷ kind 2 (zeros 8 ++ most ++ zeros 8) (v1_of 0 0xffff_ffff 0)
    ∷ kind 2 (zeros 16 ++ most) (v1_of 0 0 0xffff_ffff)
    ∷ kind 2 (more ++ zeros 16) none
    ∷ kind 2 (zeros 8 ++ more ++ zeros 8) none
    ∷ kind 2 (zeros 16 ++ more) none
    ∷ kind 4 (zeros 16 ++ more) none
    ∷ kind 3 (most ++ zeros 80) (v2_of 0xffff_ffff 0 0 0 0 0 0 0 (pos 0))
    ∷ kind 3 (zeros 24 ++ most ++ zeros 56) (v2_of 0 0 0 0xffff_ffff 0 0 0 0 (pos 0))
    ∷ kind 3 (zeros 32 ++ most ++ zeros 48) (v2_of 0 0 0 0 0xffff_ffff 0 0 0 (pos 0))
    ∷ kind 3 (zeros 40 ++ most ++ zeros 40) (v2_of 0 0 0 0 0 0xffff_ffff 0 0 (pos 0))
    ∷ kind 3 (zeros 48 ++ most ++ zeros 32) (v2_of 0 0 0 0 0 0 0xffff_ffff 0 (pos 0))
    ∷ kind 3 (more ++ zeros 80) none
    ∷ kind 3 (zeros 24 ++ more ++ zeros 56) none
    ∷ kind 3 (zeros 32 ++ more ++ zeros 48) none
    ∷ kind 3 (zeros 40 ++ more ++ zeros 40) none
    ∷ kind 3 (zeros 48 ++ more ++ zeros 32) none
    ∷ kind 5 (zeros 24 ++ more ++ zeros 56) none
    -- dev, ino, size and the times take 64 bits
    ∷ kind 3 (zeros 8 ++ all ++ all ++ zeros 32 ++ all ++ all ++ all ++ all)
    (v2_of 0 0xffff_ffff_ffff_ffff 0xffff_ffff_ffff_ffff 0 0 0 0 0xffff_ffff_ffff_ffff (negsuc 0))
    ∷ []

-- ---- speaking

-- the published ids; settings with two equal ids, which are 23, and with a byte that no id has, which are 22
abbrev published : List ℕ
published = settings_of letters

abbrev doubled : List ℕ
doubled = ascii "STATSTA2LISTLIS2SENDSND2RECVRCV2DATADONEOKAYFAILDENTDNT2STAT" ++ zeros 68

abbrev malformed : List ℕ
malformed = ascii "STATSTA2LISTLIS2SENDSND2RECVRCV2DATADONEOKAYFAILDENTDNT2QU,T" ++ zeros 68

-- what stands in the buffer and in the slice for the length before: 7 and 9
abbrev buffer : ℕ → List ℕ
buffer n = replicate n 7

abbrev slice : List ℕ
slice = replicate 120 9

abbrev speaks : (k : ℕ) → (numbers lent out : List ℕ) → Spoken → Fact Spoken
speaks k n lent out s = row (cross_speak published k n lent out slice) s

-- a reply, then the rest of the buffer; its length, then the rest of the slice
abbrev answer : (reply rest : List ℕ) → (len : ℕ) → Spoken
answer reply rest len = spoke (reply ++ rest) (len ∷ zeros 7 ++ replicate 112 9) 0

abbrev pub speaking : List (Fact Spoken)
speaking =
    speaks 0 [] [] (buffer 10) (answer (ascii "OKAY" ++ zeros 4) (7 ∷ 7 ∷ []) 8)
    ∷ speaks 1 [] [] (buffer 8) (answer (ascii "DONE" ++ zeros 4) [] 8)
    ∷ speaks 2 numbers [] (buffer 17)
    (answer (ascii "STAT" ++ 0x01 ∷ 0x02 ∷ 0x03 ∷ 0x04 ∷ 0x11 ∷ 0x12 ∷ 0x13 ∷ 0x14 ∷ 0x21 ∷ 0x22 ∷ 0x23 ∷ 0x24 ∷ []) (7 ∷ []) 16)
    -- an entry with an empty name, and one with a name of two bytes
    ∷ speaks 4 numbers [] (buffer 20)
    (answer (ascii "DENT" ++ 0x01 ∷ 0x02 ∷ 0x03 ∷ 0x04 ∷ 0x11 ∷ 0x12 ∷ 0x13 ∷ 0x14 ∷ 0x21 ∷ 0x22 ∷ 0x23 ∷ 0x24 ∷ zeros 4) [] 20)
    ∷ speaks 4 (zeros 24) (ascii "ab") (buffer 22) (answer (ascii "DENT" ++ zeros 12 ++ 2 ∷ 0 ∷ 0 ∷ 0 ∷ ascii "ab") [] 22)
    ∷ speaks 6 [] (ascii "xyz") (buffer 12) (answer (ascii "DATA" ++ 3 ∷ 0 ∷ 0 ∷ 0 ∷ ascii "xyz") (7 ∷ []) 11)
    ∷ speaks 7 [] (ascii "no") (buffer 12) (answer (ascii "FAIL" ++ 2 ∷ 0 ∷ 0 ∷ 0 ∷ ascii "no") (7 ∷ 7 ∷ []) 10)
    ∷ speaks 8 [] [] (buffer 21) (answer (ascii "DONE" ++ zeros 16) (7 ∷ []) 20)
    ∷ speaks 9 [] [] (buffer 77) (answer (ascii "DONE" ++ zeros 72) (7 ∷ []) 76)
    -- a reply that the buffer can't hold, by one byte: 20, and nothing is altered
    ∷ speaks 0 [] [] (buffer 7) (spoke (buffer 7) slice 20)
    ∷ speaks 7 [] (ascii "no") (buffer 9) (spoke (buffer 9) slice 20)
    ∷ speaks 8 [] [] (buffer 19) (spoke (buffer 19) slice 20)
    ∷ speaks 3 numbers2 [] (buffer 71) (spoke (buffer 71) slice 20)
    -- a kind that is none, numbers that are not all there, one too large: 3, ahead of 20
    ∷ speaks 10 [] [] (buffer 0) (spoke (buffer 0) slice 3)
    ∷ speaks 2 (take 23 numbers) [] (buffer 16) (spoke (buffer 16) slice 3)
    ∷ speaks 2 (more ++ zeros 16) [] (buffer 15) (spoke (buffer 15) slice 3)
    ∷ []

-- an answer that leaves both alone, by the settings and the slice
abbrev turned : (settings : List ℕ) → (k : ℕ) → (told : List ℕ) → (number : ℕ) → Fact Spoken
turned s k told n = row (cross_speak s k [] [] (buffer 10) told) (spoke (buffer 10) told n)

abbrev pub turned_away : List (Fact Spoken)
turned_away =
    turned published 0 (replicate 119 9) 3
    ∷ turned (take 127 published) 0 slice 3
    ∷ turned (published ++ 0 ∷ []) 0 slice 3
    ∷ turned malformed 0 slice 22
    ∷ turned doubled 0 slice 23
    -- 3 for the slice, then the settings, then 3 for the kind
    ∷ turned doubled 10 (replicate 119 9) 3
    ∷ turned malformed 10 slice 22
    ∷ turned doubled 10 slice 23
    ∷ []

-- ---- hearing

abbrev Answer : Type 0
Answer = List ℕ × ℕ

-- "STAT /a" and the like: the id, the length of what follows, and it
abbrev asks : (id text : List ℕ) → (len : ℕ) → List ℕ
asks id text len = id ++ len ∷ 0 ∷ 0 ∷ 0 ∷ text

-- numbers below 256 in eight bytes each
abbrev eights : List ℕ → List ℕ
eights [] = []
eights (n ∷ ns) = n ∷ zeros 7 ++ eights ns

abbrev hears : (bytes words : List ℕ) → Fact Answer
hears b w = row (cross_heard published b slice) (w ++ replicate 72 9, 0)

-- 33188, in eight bytes
abbrev mode : List ℕ
mode = 0xa4 ∷ 0x81 ∷ zeros 6

abbrev pub heard_facts : List (Fact Answer)
heard_facts =
    hears (asks (ascii "STAT") (ascii "/a") 2) (eights (1 ∷ 8 ∷ 2 ∷ 0 ∷ 0 ∷ 10 ∷ []))
    ∷ hears (asks (ascii "STA2") (ascii "/a") 2) (eights (2 ∷ 8 ∷ 2 ∷ 0 ∷ 0 ∷ 10 ∷ []))
    ∷ hears (asks (ascii "LIST") (ascii "/a/b") 4) (eights (3 ∷ 8 ∷ 4 ∷ 0 ∷ 0 ∷ 12 ∷ []))
    ∷ hears (asks (ascii "LIS2") [] 0) (eights (4 ∷ 8 ∷ 0 ∷ 0 ∷ 0 ∷ 8 ∷ []))
    ∷ hears (asks (ascii "RECV") (ascii "/a") 2) (eights (5 ∷ 8 ∷ 2 ∷ 0 ∷ 0 ∷ 10 ∷ []))
    ∷ hears (asks (ascii "RCV2") (ascii "/aRCV2" ++ 4 ∷ 0 ∷ 0 ∷ 0 ∷ []) 2) (eights (6 ∷ 8 ∷ 2 ∷ 0 ∷ 4 ∷ 18 ∷ []))
    ∷ hears (asks (ascii "SEND") (ascii "/a,33188") 8) (eights (7 ∷ 8 ∷ 2 ∷ []) ++ mode ++ eights (0 ∷ 16 ∷ []))
    ∷ hears (asks (ascii "SND2") (ascii "/aSND2" ++ 0xa4 ∷ 0x81 ∷ 0 ∷ 0 ∷ 2 ∷ 0 ∷ 0 ∷ 0x80 ∷ []) 2)
    (eights (8 ∷ 8 ∷ 2 ∷ []) ++ mode ++ 2 ∷ 0 ∷ 0 ∷ 0x80 ∷ zeros 4 ++ eights (22 ∷ []))
    ∷ hears (asks (ascii "DATA") (ascii "xyz") 3) (eights (9 ∷ 8 ∷ 3 ∷ 0 ∷ 0 ∷ 11 ∷ []))
    ∷ hears (ascii "DONE" ++ 1 ∷ 2 ∷ 3 ∷ 4 ∷ []) (eights (10 ∷ 8 ∷ 0 ∷ []) ++ 1 ∷ 2 ∷ 3 ∷ 4 ∷ zeros 4 ++ eights (0 ∷ 8 ∷ []))
    ∷ hears (ascii "QUIT" ++ zeros 4) (eights (11 ∷ 8 ∷ 0 ∷ 0 ∷ 0 ∷ 8 ∷ []))
    -- lengths, modes and flags of more than a byte; a mode in octal
    ∷ hears (ascii "STAT" ++ 0x2c ∷ 1 ∷ 0 ∷ 0 ∷ replicate 300 97) (eights (1 ∷ 8 ∷ []) ++ 0x2c ∷ 1 ∷ zeros 6 ++ zeros 16 ++ 0x34 ∷ 1 ∷ zeros 6)
    ∷ hears (ascii "DATA" ++ 0 ∷ 0 ∷ 1 ∷ 0 ∷ replicate 65536 0) (eights (9 ∷ 8 ∷ []) ++ 0 ∷ 0 ∷ 1 ∷ zeros 5 ++ zeros 16 ++ 8 ∷ 0 ∷ 1 ∷ zeros 5)
    ∷ hears (asks (ascii "SND2") (ascii "/aSND2" ++ 1 ∷ 2 ∷ 3 ∷ 4 ∷ 4 ∷ 0 ∷ 0 ∷ 0x80 ∷ []) 2)
    (eights (8 ∷ 8 ∷ 2 ∷ []) ++ 1 ∷ 2 ∷ 3 ∷ 4 ∷ zeros 4 ++ 4 ∷ 0 ∷ 0 ∷ 0x80 ∷ zeros 4 ++ eights (22 ∷ []))
    ∷ hears (asks (ascii "SEND") (ascii "/a,4294967295") 13) (eights (7 ∷ 8 ∷ 2 ∷ []) ++ 255 ∷ 255 ∷ 255 ∷ 255 ∷ zeros 4 ++ eights (0 ∷ 21 ∷ []))
    ∷ hears (asks (ascii "SEND") (ascii "/a,0100644") 10) (eights (7 ∷ 8 ∷ 2 ∷ []) ++ mode ++ eights (0 ∷ 18 ∷ []))
    -- what stands behind the message is not looked at
    ∷ hears (asks (ascii "STAT") (ascii "/amore") 2) (eights (1 ∷ 8 ∷ 2 ∷ 0 ∷ 0 ∷ 10 ∷ []))
    ∷ hears (ascii "DONE" ++ 5 ∷ 0 ∷ 0 ∷ 0 ∷ ascii "more") (eights (10 ∷ 8 ∷ 0 ∷ 5 ∷ 0 ∷ 8 ∷ []))
    -- "more": a header that is not whole, a path that is not
    ∷ hears [] (zeros 48)
    ∷ hears (ascii "STAT" ++ 2 ∷ 0 ∷ 0 ∷ []) (zeros 48)
    ∷ hears (asks (ascii "STAT") (ascii "/") 2) (zeros 48)
    ∷ []

-- an answer that leaves the slice alone
abbrev refuses : (settings bytes out : List ℕ) → (number : ℕ) → Fact Answer
refuses s b out n = row (cross_heard s b out) (out, n)

abbrev pub unheard : List (Fact Answer)
unheard =
    -- an id that is none, one of the panel's own, a QUIT with a number: 18
    refuses published (asks (ascii "STAX") (ascii "/a") 2) slice 18
    ∷ refuses published (ascii "OKAY" ++ zeros 4) slice 18
    ∷ refuses published (ascii "QUIT" ++ 1 ∷ 0 ∷ 0 ∷ 0 ∷ []) slice 18
    ∷ refuses published (asks (ascii "STAT") (ascii "/a") 2) (replicate 119 9) 3
    ∷ refuses (take 127 published) (asks (ascii "STAT") (ascii "/a") 2) slice 3
    ∷ refuses malformed (asks (ascii "STAT") (ascii "/a") 2) slice 22
    ∷ refuses doubled (asks (ascii "STAT") (ascii "/a") 2) slice 23
    -- 3 for the slice, then the settings, then 18
    ∷ refuses doubled (asks (ascii "STAX") (ascii "/a") 2) (replicate 119 9) 3
    ∷ refuses doubled (asks (ascii "STAX") (ascii "/a") 2) slice 23
    ∷ []
