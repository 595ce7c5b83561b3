-- Facts on the index, by hand from document 02, [1]: "up to 4,096 entries with mtime as a signed 64-bit number, names end to end .., at most
-- 65,536 bytes"; "exactly the entries it holds with mtime from a to b inclusive, each once with its name, in time order, equal times in listing
-- order"; "the latest entry it holds at or before t, or none; among equal times the first listed"; "turned away with 19".
-- Assumes nothing.
use Rattle.std.specs.Prelude.{ℕ, Bool, true, false, List, [], ◌∷◌, ◌++◌, ℤ, pos, negsuc, take, replicate}
use Prim.Native.String.{String}
use Rattle.std.proofs.Math.Option.{Option, none, some}
use Rattle.protocol.specs.Answers as A
use Rattle.protocol.specs.Answers.{Answer}
use Rattle.protocol.specs.Bytes.{ascii}
use Rattle.protocol.specs.Fact.{Fact}
use Rattle.protocol.specs.Records.{Stat2}
use Rattle.time_index.specs.Index.{Item, item, Offer, entry, nothing, unknown, offered, no_later, held_after, answered_to, between, latest}
use Rattle.time_index.specs.Slots.{headed, time_at, slot_of, slots_with, up_to, below}
use Rattle.time_index.specs.Crossing.{Indexed, has_slot, offered_by, added, entry_words, entry_in, latest_of, cross_index_add}

abbrev pub row : {A : Type 0} → A → A → Fact A
row c p = record { computed = c; paper = p }

-- ---- entries of either version

abbrev dent : (mtime : ℕ) → String → Answer
dent t name = A.entry (record { mode = 33188; size = 1998; mtime = t }) (ascii name)

-- atime, mtime and ctime differ
abbrev stat2 : (error : ℕ) → (mtime : ℤ) → Stat2
stat2 e t = record { error = e; dev = 1; ino = 2; mode = 33188; nlink = 1; uid = 3; gid = 4; size = 1998; atime = pos 111; mtime = t; ctime = pos 333 }

abbrev dent2 : (error : ℕ) → (mtime : ℤ) → String → Answer
dent2 e t name = A.entry2 (stat2 e t) (ascii name)

-- v1's mtime is unsigned; v2's has a sign; a v2 entry with an error is still an entry; the rest is none
abbrev pub offers : List (Fact Offer)
offers =
    row (offered (dent 0 "a")) (entry (pos 0) (97 ∷ []))
    ∷ row (offered (dent 5 "T98")) (entry (pos 5) (84 ∷ 57 ∷ 56 ∷ []))
    ∷ row (offered (dent 0xffff_ffff "")) (entry (pos 4294967295) [])
    ∷ row (offered (dent2 0 (pos 222) "b")) (entry (pos 222) (98 ∷ []))
    ∷ row (offered (dent2 2 (pos 0x7fff_ffff_ffff_ffff) "b")) (entry (pos 9223372036854775807) (98 ∷ []))
    ∷ row (offered (dent2 13 (negsuc 0) "")) (entry (negsuc 0) [])
    ∷ row (offered (dent2 0 (negsuc 0x7fff_ffff_ffff_ffff) "b")) (entry (negsuc 9223372036854775807) (98 ∷ []))
    ∷ row (offered A.end) nothing
    ∷ row (offered A.done) nothing
    ∷ row (offered (A.stat (record { mode = 1; size = 2; mtime = 3 }))) nothing
    ∷ row (offered (A.stat2 (stat2 0 (pos 222)))) nothing
    ∷ row (offered (A.chunk (ascii "x"))) nothing
    ∷ row (offered (A.refused 3)) nothing
    ∷ row (offered (A.refused 21)) nothing
    ∷ row (offered (A.missing 2)) nothing
    ∷ row (offered (A.broken A.closed)) nothing
    ∷ row (offered (A.broken (A.error 5))) nothing
    ∷ row (offered (A.fail (ascii "no"))) nothing
    ∷ row (offered (A.unexpected (ascii "OKAY"))) nothing
    ∷ row (offered (A.errno 2)) nothing
    ∷ row (offered A.too_large) nothing
    -- what no session answers
    ∷ row (offered (dent 0x1_0000_0000 "a")) unknown
    ∷ row (offered (A.refused 0)) unknown
    ∷ []

-- ---- times

abbrev pub times : List (Fact Bool)
times =
    row (no_later (pos 0) (pos 4294967295)) true
    ∷ row (no_later (pos 4294967295) (pos 0)) false
    ∷ row (no_later (pos 7) (pos 7)) true
    ∷ row (no_later (negsuc 0) (pos 0)) true
    ∷ row (no_later (pos 0) (negsuc 0)) false
    ∷ row (no_later (negsuc 1) (negsuc 0)) true
    ∷ row (no_later (negsuc 0) (negsuc 1)) false
    ∷ row (no_later (negsuc 4) (negsuc 4)) true
    ∷ row (no_later (pos 0x7fff_ffff_ffff_fffe) (pos 0x7fff_ffff_ffff_ffff)) true
    ∷ row (no_later (pos 0x7fff_ffff_ffff_ffff) (pos 0x7fff_ffff_ffff_fffe)) false
    ∷ row (no_later (negsuc 0x7fff_ffff_ffff_ffff) (negsuc 0x7fff_ffff_ffff_fffe)) true
    ∷ row (no_later (negsuc 0x7fff_ffff_ffff_fffe) (negsuc 0x7fff_ffff_ffff_ffff)) false
    ∷ row (no_later (negsuc 0x7fff_ffff_ffff_ffff) (pos 0x7fff_ffff_ffff_ffff)) true
    ∷ []

-- ---- what is held, and the answers

abbrev listing : List Answer
listing = dent 5 "a" ∷ dent 3 "b" ∷ dent 5 "c" ∷ A.end ∷ []

abbrev a : Item
a = item 0 (pos 5) (ascii "a")

abbrev b : Item
b = item 1 (pos 3) (ascii "b")

abbrev c : Item
c = item 2 (pos 5) (ascii "c")

-- names of 2 bytes, 2 and 1 beside an area of 3; an empty name in a full area
abbrev full : List Answer
full = dent2 0 (pos 1) "ab" ∷ dent2 0 (pos 2) "cd" ∷ dent2 0 (pos 3) "e" ∷ dent2 0 (pos 4) "" ∷ dent2 0 (pos 5) "f" ∷ dent2 0 (pos 6) "" ∷ []

abbrev pub holding : List (Fact (List Item))
holding =
    row (held_after 100 [] listing) (a ∷ b ∷ c ∷ [])
    ∷ row (held_after 100 [] (A.done ∷ A.end ∷ A.fail (ascii "no") ∷ [])) []
    ∷ row (held_after 100 [] (A.refused 0 ∷ dent 5 "a" ∷ [])) (a ∷ [])
    -- two equal entries are two
    ∷ row (held_after 100 [] (dent 5 "a" ∷ dent 5 "a" ∷ [])) (a ∷ item 1 (pos 5) (ascii "a") ∷ [])
    -- a shorter name fits again
    ∷ row (held_after 3 [] full)
    (item 0 (pos 1) (ascii "ab") ∷ item 1 (pos 3) (ascii "e") ∷ item 2 (pos 4) [] ∷ item 3 (pos 6) [] ∷ [])
    ∷ row (held_after 0 [] (dent 5 "a" ∷ dent 6 "" ∷ [])) (item 0 (pos 6) [] ∷ [])
    ∷ []

abbrev pub answering : List (Fact (List ℕ))
answering =
    row (answered_to 100 [] listing) (0 ∷ 0 ∷ 0 ∷ 0 ∷ [])
    ∷ row (answered_to 3 [] full) (0 ∷ 19 ∷ 0 ∷ 0 ∷ 19 ∷ 0 ∷ [])
    ∷ row (answered_to 100 [] (A.refused 0 ∷ dent 5 "a" ∷ [])) (3 ∷ 0 ∷ [])
    ∷ row (answered_to 0 [] (dent 5 "a" ∷ dent 6 "" ∷ A.end ∷ [])) (19 ∷ 0 ∷ 0 ∷ [])
    ∷ []

-- ---- between two times, and the latest

abbrev held : List Item
held = a ∷ b ∷ c ∷ []

-- before 1970, in 1970, and after 2106; two of one time
abbrev ages : List Item
ages = item 0 (pos 4294967296) (ascii "l") ∷ item 1 (negsuc 1) (ascii "m") ∷ item 2 (pos 0) [] ∷ item 3 (negsuc 9) (ascii "n") ∷ item 4 (negsuc 1) (ascii "o") ∷ []

abbrev pub spans : List (Fact (List Item))
spans =
    row (between (pos 3) (pos 5) held) (b ∷ a ∷ c ∷ [])
    ∷ row (between (pos 5) (pos 4) held) []
    ∷ row (between (pos 5) (pos 5) held) (a ∷ c ∷ [])
    ∷ row (between (pos 3) (pos 3) held) (b ∷ [])
    ∷ row (between (pos 3) (pos 4) held) (b ∷ [])
    ∷ row (between (pos 4) (pos 4) held) []
    ∷ row (between (pos 6) (pos 9) held) []
    ∷ row (between (negsuc 0) (pos 2) held) []
    ∷ row (between (negsuc 9) (pos 4294967296) ages)
    (item 3 (negsuc 9) (ascii "n") ∷ item 1 (negsuc 1) (ascii "m") ∷ item 4 (negsuc 1) (ascii "o") ∷ item 2 (pos 0) [] ∷ item 0 (pos 4294967296) (ascii "l") ∷ [])
    ∷ row (between (negsuc 1) (negsuc 0) ages) (item 1 (negsuc 1) (ascii "m") ∷ item 4 (negsuc 1) (ascii "o") ∷ [])
    ∷ row (between (pos 0) (pos 1) []) []
    ∷ []

abbrev pub latests : List (Fact (Option Item))
latests =
    row (latest (pos 5) held) (some a)
    ∷ row (latest (pos 4) held) (some b)
    ∷ row (latest (pos 3) held) (some b)
    ∷ row (latest (pos 2) held) none
    ∷ row (latest (pos 1000) held) (some a)
    ∷ row (latest (negsuc 0) ages) (some (item 1 (negsuc 1) (ascii "m")))
    ∷ row (latest (negsuc 8) ages) (some (item 3 (negsuc 9) (ascii "n")))
    ∷ row (latest (negsuc 10) ages) none
    ∷ row (latest (pos 0) ages) (some (item 2 (pos 0) []))
    ∷ row (latest (pos 0) []) none
    ∷ []

-- ---- the limits: slots and bytes that are taken, the area's length, the length of a name

abbrev pub rooms : List (Fact Bool)
rooms =
    row (has_slot (headed 70000 4095 0) 70000 1) true
    ∷ row (has_slot (headed 70000 4096 0) 70000 0) false
    ∷ row (has_slot (headed 70000 0 65535) 70000 1) true
    ∷ row (has_slot (headed 70000 0 65535) 70000 2) false
    ∷ row (has_slot (headed 70000 0 65536) 70000 0) true
    ∷ row (has_slot (headed 70000 0 65536) 70000 1) false
    ∷ row (has_slot (headed 70000 0 0) 70000 65536) true
    ∷ row (has_slot (headed 70000 0 0) 70000 65537) false
    ∷ row (has_slot (headed 65537 0 0) 65537 65537) false
    ∷ row (has_slot (headed 65535 0 0) 65535 65535) true
    ∷ row (has_slot (headed 65535 0 0) 65535 65536) false
    ∷ row (has_slot (headed 10 2 8) 10 2) true
    ∷ row (has_slot (headed 10 2 8) 10 3) false
    ∷ []

-- ---- bytes: four numbers, the mark among them, then the slots in time order

abbrev pub word : ℕ → List ℕ
word n = n ∷ 0 ∷ 0 ∷ 0 ∷ 0 ∷ 0 ∷ 0 ∷ 0 ∷ []

-- the time; where the name starts; 4,096 × length + number
abbrev slot_a : List ℕ
slot_a = word 5 ++ (0 ∷ 0 ∷ 0 ∷ 0 ∷ 0 ∷ 16 ∷ 0 ∷ 0 ∷ [])

abbrev slot_b : List ℕ
slot_b = word 3 ++ (1 ∷ 0 ∷ 0 ∷ 0 ∷ 1 ∷ 32 ∷ 0 ∷ 0 ∷ [])

abbrev slot_c : List ℕ
slot_c = word 5 ++ (3 ∷ 0 ∷ 0 ∷ 0 ∷ 2 ∷ 16 ∷ 0 ∷ 0 ∷ [])

abbrev pub head : (count used : ℕ) → List ℕ
head n u = ascii "yugindex" ++ word 9 ++ word n ++ word u

-- a at 5, then bb at 3, then c at 5, then one at -2: what stands behind the slots stays
abbrev pub slots : List (Fact (List ℕ))
slots =
    row (headed 9 3 4) (head 3 4)
    ∷ row (slot_of (negsuc 1) 258 3 5) (254 ∷ 255 ∷ 255 ∷ 255 ∷ 255 ∷ 255 ∷ 255 ∷ 255 ∷ 2 ∷ 1 ∷ 0 ∷ 0 ∷ 5 ∷ 48 ∷ 0 ∷ 0 ∷ [])
    ∷ row (slots_with (head 0 0 ++ replicate 64 7) (pos 5) 1) (head 1 1 ++ slot_a ++ replicate 48 7)
    ∷ row (slots_with (head 1 1 ++ slot_a ++ replicate 48 7) (pos 3) 2) (head 2 3 ++ slot_b ++ slot_a ++ replicate 32 7)
    ∷ row (slots_with (head 2 3 ++ slot_b ++ slot_a ++ replicate 32 7) (pos 5) 1) (head 3 4 ++ slot_b ++ slot_a ++ slot_c ++ replicate 16 7)
    ∷ row (slots_with (head 3 4 ++ slot_b ++ slot_a ++ slot_c ++ replicate 16 7) (negsuc 1) 0)
    (head 4 4 ++ (254 ∷ 255 ∷ 255 ∷ 255 ∷ 255 ∷ 255 ∷ 255 ∷ 255 ∷ 4 ∷ 0 ∷ 0 ∷ 0 ∷ 3 ∷ 0 ∷ 0 ∷ 0 ∷ []) ++ slot_b ++ slot_a ++ slot_c)
    ∷ []

abbrev pub three : List ℕ
three = head 3 4 ++ slot_b ++ slot_a ++ slot_c

-- whole slots, beside an area of 9 bytes
abbrev pub whole : (count used : ℕ) → List ℕ
whole n u = head n u ++ replicate 65536 0

-- ranks in time order; the words of an entry and of the latest
abbrev pub ranks : List (Fact ℕ)
ranks =
    row (below three (pos 3)) 0
    ∷ row (below three (pos 4)) 1
    ∷ row (below three (pos 5)) 1
    ∷ row (below three (pos 6)) 3
    ∷ row (up_to three (pos 2)) 0
    ∷ row (up_to three (pos 3)) 1
    ∷ row (up_to three (pos 5)) 3
    ∷ []

abbrev pub told : List (Fact (List ℕ))
told =
    row (entry_words three 0) (1 ∷ 1 ∷ 2 ∷ 1 ∷ 3 ∷ [])
    ∷ row (entry_words three 1) (1 ∷ 0 ∷ 1 ∷ 0 ∷ 5 ∷ [])
    ∷ row (entry_words three 2) (1 ∷ 3 ∷ 1 ∷ 2 ∷ 5 ∷ [])
    ∷ row (latest_of three (up_to three (pos 5))) (1 ∷ 1 ∷ [])
    ∷ row (latest_of three (up_to three (pos 4))) (1 ∷ 0 ∷ [])
    ∷ row (latest_of three (up_to three (pos 2))) (0 ∷ 0 ∷ [])
    ∷ []

-- ---- adding, as it crosses: a reply of 15 numbers, its name a part of the receive buffer

abbrev rx : List ℕ
rx = ascii "xT98y"

-- v1: kind, start, length, mode, size, mtime
abbrev reply : (kind start length mtime : ℕ) → List ℕ
reply k at len t = word k ++ word at ++ word len ++ word 1 ++ word 2 ++ word t ++ replicate 72 0

-- v2: kind, start, length, error, dev, ino, mode, nlink, uid, gid, size, atime, mtime, ctime, reads
abbrev reply2 : (mtime : List ℕ) → List ℕ
reply2 t = word 5 ++ word 1 ++ word 3 ++ word 2 ++ replicate 56 0 ++ word 111 ++ t ++ word 122 ++ word 9

abbrev nine : List ℕ
nine = replicate 9 46

-- the area, and the answer
abbrev seen : Indexed → List ℕ × ℕ
seen c = (c.area, c.number)

abbrev adds : (count used told : ℕ) → (reply : List ℕ) → List ℕ × ℕ
adds n u told r = seen (added (head n u ++ replicate 32 0) nine (offered_by told r rx))

abbrev pub adding : List (Fact (List ℕ × ℕ))
adding =
    row (adds 0 0 0 (reply 4 1 3 5)) (ascii "T98......", 0)
    ∷ row (adds 1 4 0 (reply 4 1 3 5)) (ascii "....T98..", 0)
    ∷ row (adds 1 6 0 (reply 4 1 3 5)) (ascii "......T98", 0)
    ∷ row (adds 1 4 0 (reply2 (word 5))) (ascii "....T98..", 0)
    ∷ row (adds 1 9 0 (reply 4 5 0 5)) (nine, 0)
    -- no room
    ∷ row (adds 1 7 0 (reply 4 1 3 5)) (nine, 19)
    -- no entry: done, the end, a stat of either version, a chunk; a refusal; a read and a write that are asked for
    ∷ row (adds 0 0 0 (reply 0 0 0 5)) (nine, 0)
    ∷ row (adds 0 0 0 (reply 1 0 0 5)) (nine, 0)
    ∷ row (adds 0 0 0 (reply 2 0 0 5)) (nine, 0)
    ∷ row (adds 0 0 0 (reply 3 0 0 5)) (nine, 0)
    ∷ row (adds 0 0 0 (reply 6 1 3 5)) (nine, 0)
    ∷ row (adds 0 0 768 (reply 4 1 3 5)) (nine, 0)
    ∷ row (adds 0 0 1 (reply 4 1 3 5)) (nine, 0)
    ∷ row (adds 0 0 2 (reply 4 1 3 5)) (nine, 0)
    -- no reply: another kind, a part outside
    ∷ row (adds 0 0 0 (reply 7 1 3 5)) (nine, 3)
    ∷ row (adds 0 0 0 (reply 4 3 3 5)) (nine, 3)
    ∷ []

-- an entry without room leaves the slots as they were, and so do a reply that no session tells and one that is no entry
abbrev pub turned : List (Fact (List ℕ))
turned =
    row (added (head 1 7 ++ replicate 32 7) nine (entry (pos 5) (ascii "T98"))).slots (head 1 7 ++ replicate 32 7)
    ∷ row (added (head 1 7 ++ replicate 32 7) [] unknown).slots (head 1 7 ++ replicate 32 7)
    ∷ row (added (head 1 7 ++ replicate 32 7) nine nothing).slots (head 1 7 ++ replicate 32 7)
    ∷ []

-- the time that is kept: mtime, unsigned in v1, signed in v2
abbrev keeps : List ℕ → ℤ
keeps r = time_at (added (head 0 0 ++ replicate 16 0) nine (offered_by 0 r rx)).slots 0

abbrev pub keeping : List (Fact ℤ)
keeping =
    row (keeps (reply 4 1 3 200)) (pos 200)
    ∷ row (keeps (reply2 (word 222))) (pos 222)
    ∷ row (keeps (reply2 (254 ∷ replicate 7 255))) (negsuc 1)
    ∷ []

-- 19; another area: 3, ahead of 19; a reply of 119 bytes
abbrev pub crossing : List (Fact (List ℕ × ℕ))
crossing =
    row (seen (cross_index_add (whole 1 7) nine 0 (reply 4 1 3 5) rx)) (nine, 19)
    ∷ row (seen (cross_index_add (whole 1 7) (replicate 8 46) 0 (reply 4 1 3 5) rx)) (replicate 8 46, 3)
    ∷ row (seen (cross_index_add (whole 1 7) nine 0 (take 119 (reply 4 1 3 5)) rx)) (nine, 3)
    ∷ []

-- ---- an entry by its rank

abbrev pub out : List ℕ
out = replicate 120 46

-- no entry has that rank; a name that is none of those in the area
abbrev pub seeking : List (Fact (List ℕ × ℕ))
seeking =
    row (entry_in three 2 out) (word 1 ++ word 3 ++ word 1 ++ word 2 ++ word 5 ++ replicate 80 46, 0)
    ∷ row (entry_in three 3 out) (replicate 40 0 ++ replicate 80 46, 0)
    ∷ row (entry_in (head 3 3 ++ slot_b ++ slot_a ++ slot_c) 2 out) (out, 3)
    ∷ []
