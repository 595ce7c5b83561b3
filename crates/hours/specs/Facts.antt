-- Hours files, and hours in settings, beside what document 02 says of them; bytes and moments by hand.
-- Assumes nothing.
use Rattle.std.specs.Prelude.{ℕ, Bool, true, false, List, [], ◌∷◌, ◌++◌, map, replicate}
use Rattle.std.proofs.Math.Option.{Option, none, some}
use Rattle.protocol.specs.Bytes.{ascii}
use Rattle.protocol.specs.Fact.{Fact}
use Rattle.protocol.specs.Hours.{Span, Hours}
use Rattle.hours.specs.File.{hours_in}
use Rattle.hours.specs.Settings.{is_hours, loaded_hours, cross_may_push}

-- ---- files

abbrev span : (day opens closes : ℕ) → Span
span d o c = record { day = d; opens = o; closes = c }

abbrev line : List ℕ → List ℕ
line t = t ++ 10 ∷ []

abbrev head : List ℕ
head = line (ascii "day,open,close")

abbrev all : List ℕ
all =
    line (ascii "0,0,1") ++ line (ascii "1,0,1") ++ line (ascii "2,0,1") ++ line (ascii "3,0,1") ++ line (ascii "4,0,1") ++ line (ascii "5,0,1")
    ++ line (ascii "6,0,1")

abbrev pub workshop : List ℕ
workshop = head ++ line (ascii "0,420,1080") ++ line (ascii "3,0,1440") ++ line (ascii "6,1439,1440")

abbrev reading : List ℕ → Option Hours → Fact (Option Hours)
reading f h = record { computed = hours_in f; paper = h }

abbrev pub taken : List (Fact (Option Hours))
taken =
    reading workshop (some (span 0 420 1080 ∷ span 3 0 1440 ∷ span 6 1439 1440 ∷ []))
    -- the heading alone: hours in which no moment will do
    ∷ reading head (some [])
    ∷ reading (head ++ line (ascii "6,0,1")) (some (span 6 0 1 ∷ []))
    -- seven lines
    ∷ reading (head ++ all)
    (some (map (λ d. span d 0 1) (0 ∷ 1 ∷ 2 ∷ 3 ∷ 4 ∷ 5 ∷ 6 ∷ [])))
    ∷ []

-- 24
abbrev pub refused : List (Fact (Option Hours))
refused =
    reading [] none
    ∷ reading (ascii "day,open,close") none
    ∷ reading (line (ascii "day,close,open")) none
    ∷ reading (head ++ line (ascii "0,60,60")) none
    ∷ reading (head ++ line (ascii "0,61,60")) none
    ∷ reading (head ++ line (ascii "7,0,1")) none
    ∷ reading (head ++ line (ascii "0,0,1441")) none
    ∷ reading (head ++ line (ascii "00,0,1")) none
    ∷ reading (head ++ line (ascii "0,00,1")) none
    ∷ reading (head ++ line (ascii "0,0,01")) none
    ∷ reading (head ++ line (ascii "0,0")) none
    ∷ reading (head ++ line (ascii "0,0,1,")) none
    ∷ reading (head ++ line (ascii "0,,1")) none
    ∷ reading (head ++ line (ascii " 0,0,1")) none
    ∷ reading (head ++ line []) none
    ∷ reading (head ++ line (ascii "1,0,1") ++ line (ascii "0,0,1")) none
    ∷ reading (head ++ line (ascii "1,0,1") ++ line (ascii "1,2,3")) none
    ∷ reading (head ++ ascii "0,0,1") none
    ∷ reading (head ++ line (ascii "0,0,1" ++ 13 ∷ [])) none
    ∷ reading (head ++ line (ascii "0,0,4294967296")) none
    ∷ reading (head ++ line (ascii "0,+1,2")) none
    ∷ reading (head ++ line (ascii "0,0,+1")) none
    ∷ reading (head ++ line (ascii "0,-1,2")) none
    -- CR before byte 10
    ∷ reading (ascii "day,open,close" ++ 13 ∷ 10 ∷ []) none
    -- eight lines
    ∷ reading (head ++ all ++ line (ascii "6,0,1")) none
    ∷ reading (head ++ all ++ line (ascii "7,0,1")) none
    ∷ reading (head ++ all ++ line []) none
    -- another heading
    ∷ reading (line (ascii "Day,open,close") ++ all) none
    ∷ reading (all ++ head) none
    ∷ reading (10 ∷ head) none
    ∷ []

-- ---- settings

abbrev Answer : Type 0
Answer = List ℕ × ℕ

abbrev load : (settings file : List ℕ) → Answer → Fact Answer
load s file a = record { computed = loaded_hours s file; paper = a }

-- 420, 1080; 0, 1440; 1439, 1440
abbrev pub workshop_bytes : List ℕ
workshop_bytes =
    0x01 ∷ 0 ∷ 0 ∷ 0
    ∷ 0xa4 ∷ 0x01 ∷ 0x38 ∷ 0x04
    ∷ 0 ∷ 0 ∷ 0 ∷ 0
    ∷ 0 ∷ 0 ∷ 0 ∷ 0
    ∷ 0x00 ∷ 0x00 ∷ 0xa0 ∷ 0x05
    ∷ 0 ∷ 0 ∷ 0 ∷ 0
    ∷ 0 ∷ 0 ∷ 0 ∷ 0
    ∷ 0x9f ∷ 0x05 ∷ 0xa0 ∷ 0x05 ∷ []

abbrev pub loading : List (Fact Answer)
loading =
    -- a file over them; what stands before and behind stays
    load (replicate 128 7) workshop (replicate 60 7 ++ workshop_bytes ++ replicate 36 7, 0)
    ∷ load (replicate 60 9 ++ workshop_bytes ++ replicate 36 5) head (replicate 60 9 ++ 1 ∷ replicate 31 0 ++ replicate 36 5, 0)
    ∷ load (replicate 128 0) (head ++ line (ascii "1,255,256")) (replicate 60 0 ++ 1 ∷ 0 ∷ 0 ∷ 0 ∷ 0 ∷ 0 ∷ 0 ∷ 0 ∷ 255 ∷ 0 ∷ 0 ∷ 1 ∷ replicate 56 0, 0)
    -- 24, and nothing is altered
    ∷ load (replicate 128 7) [] (replicate 128 7, 24)
    ∷ load (replicate 60 9 ++ workshop_bytes ++ replicate 36 5) (head ++ line (ascii "0,60,60")) (replicate 60 9 ++ workshop_bytes ++ replicate 36 5, 24)
    ∷ load (replicate 128 7) (workshop ++ line (ascii "6,0,1")) (replicate 128 7, 24)
    -- 3 first
    ∷ load (replicate 127 7) workshop (replicate 127 7, 3)
    ∷ load (replicate 129 7) [] (replicate 129 7, 3)
    ∷ load [] workshop ([], 3)
    ∷ []

-- which bytes are those of hours
abbrev are : List ℕ → Bool → Fact Bool
are b t = record { computed = is_hours b; paper = t }

-- Monday's bytes, and nothing on other days
abbrev monday : List ℕ → List ℕ
monday b = 1 ∷ 0 ∷ 0 ∷ 0 ∷ b ++ replicate 24 0

abbrev pub lending : List (Fact Bool)
lending =
    are (replicate 32 0) true
    ∷ are workshop_bytes true
    ∷ are (1 ∷ replicate 31 0) true
    -- another length
    ∷ are [] false
    ∷ are (replicate 31 0) false
    ∷ are (replicate 33 0) false
    ∷ are (1 ∷ replicate 32 0) false
    -- the first four bytes
    ∷ are (2 ∷ replicate 31 0) false
    ∷ are (255 ∷ replicate 31 0) false
    ∷ are (0 ∷ 1 ∷ replicate 30 0) false
    ∷ are (1 ∷ 1 ∷ replicate 30 0) false
    ∷ are (1 ∷ 0 ∷ 1 ∷ replicate 29 0) false
    ∷ are (1 ∷ 0 ∷ 0 ∷ 1 ∷ replicate 28 0) false
    -- none, and a byte
    ∷ are (0 ∷ 0 ∷ 0 ∷ 0 ∷ 1 ∷ replicate 27 0) false
    ∷ are (replicate 31 0 ++ 1 ∷ []) false
    ∷ are (0 ∷ 0 ∷ 0 ∷ 0 ∷ 0 ∷ 0 ∷ 1 ∷ 0 ∷ replicate 24 0) false
    -- 0 to 1, 1 to 1, 2 to 1, 1 to 0
    ∷ are (monday (0 ∷ 0 ∷ 1 ∷ 0 ∷ [])) true
    ∷ are (monday (1 ∷ 0 ∷ 1 ∷ 0 ∷ [])) false
    ∷ are (monday (2 ∷ 0 ∷ 1 ∷ 0 ∷ [])) false
    ∷ are (monday (1 ∷ 0 ∷ 0 ∷ 0 ∷ [])) false
    -- 1439 to 1440, 0 to 1440, 0 to 1441, 1440 to 1441; 0 to 65535
    ∷ are (monday (0x9f ∷ 0x05 ∷ 0xa0 ∷ 0x05 ∷ [])) true
    ∷ are (monday (0x00 ∷ 0x00 ∷ 0xa0 ∷ 0x05 ∷ [])) true
    ∷ are (monday (0x00 ∷ 0x00 ∷ 0xa1 ∷ 0x05 ∷ [])) false
    ∷ are (monday (0xa0 ∷ 0x05 ∷ 0xa1 ∷ 0x05 ∷ [])) false
    ∷ are (monday (0x00 ∷ 0x00 ∷ 0xff ∷ 0xff ∷ [])) false
    -- on a Sunday
    ∷ are (1 ∷ replicate 27 0 ++ 0x9f ∷ 0x05 ∷ 0xa0 ∷ 0x05 ∷ []) true
    ∷ are (1 ∷ replicate 27 0 ++ 0xa0 ∷ 0x05 ∷ 0xa0 ∷ 0x05 ∷ []) false
    ∷ []

-- moments; 1970-01-01 was a Thursday
abbrev start : (settings : List ℕ) → (moment : ℕ) → ℕ → Fact ℕ
start s moment n = record { computed = cross_may_push s moment; paper = n }

abbrev with : List ℕ → List ℕ
with b = replicate 60 7 ++ b ++ replicate 36 7

abbrev pub starting : List (Fact ℕ)
starting =
    -- Thursday from 00:00 to 24:00; Friday
    start (with workshop_bytes) 0 0
    ∷ start (with workshop_bytes) 86399 0
    ∷ start (with workshop_bytes) 86400 25
    -- Sunday 1970-01-04, 23:58:59, 23:59, 23:59:59
    ∷ start (with workshop_bytes) 345539 25
    ∷ start (with workshop_bytes) 345540 0
    ∷ start (with workshop_bytes) 345599 0
    -- Monday, 00:00, 06:59:59, 07:00, 17:59:59, 18:00
    ∷ start (with workshop_bytes) 345600 25
    ∷ start (with workshop_bytes) 370799 25
    ∷ start (with workshop_bytes) 370800 0
    ∷ start (with workshop_bytes) 410399 0
    ∷ start (with workshop_bytes) 410400 25
    -- Sunday 2106-02-07, 06:28:15
    ∷ start (with workshop_bytes) 4294967295 25
    -- the heading alone, and no hours
    ∷ start (with (1 ∷ replicate 31 0)) 0 25
    ∷ start (with (replicate 32 0)) 0 0
    ∷ start (with (replicate 32 0)) 4294967295 0
    -- no such bytes; another length
    ∷ start (replicate 128 7) 0 24
    ∷ start (with (0 ∷ 1 ∷ replicate 30 0)) 0 24
    ∷ start (with (monday (0x00 ∷ 0x00 ∷ 0xa1 ∷ 0x05 ∷ []))) 345600 24
    ∷ start (replicate 127 0) 0 3
    ∷ start (replicate 129 7) 0 3
    ∷ start [] 0 3
    ∷ []
