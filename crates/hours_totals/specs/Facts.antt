-- Facts on a record with hours: what opening answers and writes, and starts of a push at some moments.
-- Assumes nothing.
use Rattle.std.specs.Prelude.{ℕ, ◌+◌, ◌-◌, ◌*◌, List, [], ◌∷◌, ◌++◌, map, take, drop, replicate}
use Rattle.std.proofs.Math.Option.{Option, none, some}
use Rattle.protocol.specs.Bytes.{ascii}
use Rattle.protocol.specs.Fact.{Fact}
use Rattle.protocol.specs.Hours.{Hours}
use Rattle.protocol.specs.Ids.{STAT, all, letters}
use Rattle.protocol.specs.Messages.{joined}
use Rattle.hours.specs.Settings.{settings_with}
use Rattle.boundary.specs.Crossing.{Crossed}
use Rattle.totals.specs.Card.{count_in}
use Rattle.hours_totals.specs.Crossing.{timed_open, timed_start, timed_read, timed_wrote, timed_fault}

abbrev row : {A : Type 0} → A → A → Fact A
row c p = record { computed = c; paper = p }

-- ---- opening: 1, 2, 3, 22 and 23 as without hours, and 24 behind them

-- some bytes where the hours stand
abbrev with : (ids hours : List ℕ) → List ℕ
with ids b = ids ++ b ++ replicate 36 0

abbrev table : List ℕ
table = joined (map letters all)

abbrev opens : (record-length : ℕ) → (settings : List ℕ) → (rx msg : ℕ) → ℕ → Fact ℕ
opens n s rx msg p = row (timed_open (replicate n 9) s [] rx msg).number p

-- a flag, the first day's two numbers, and no other day
abbrev monday : (flag : ℕ) → (opens closes : List ℕ) → List ℕ
monday f o c = f ∷ 0 ∷ 0 ∷ 0 ∷ o ++ c ++ replicate 24 0

abbrev pub opening : List (Fact ℕ)
opening =
    opens 328 (with table (replicate 32 0)) 8 8 0
    ∷ opens 328 (with table (1 ∷ replicate 31 0)) 8 8 0
    ∷ opens 328 (with table (monday 1 (0 ∷ 0 ∷ []) (0xA0 ∷ 5 ∷ []))) 8 8 0
    -- a flag that is neither 0 nor 1; no hours and a number; a span that is empty, or ends behind midnight
    ∷ opens 328 (with table (2 ∷ replicate 31 0)) 8 8 24
    ∷ opens 328 (with table (1 ∷ 1 ∷ replicate 30 0)) 8 8 24
    ∷ opens 328 (with table (replicate 31 0 ++ 1 ∷ [])) 8 8 24
    ∷ opens 328 (with table (monday 1 (60 ∷ 0 ∷ []) (60 ∷ 0 ∷ []))) 8 8 24
    ∷ opens 328 (with table (monday 1 (60 ∷ 0 ∷ []) (0 ∷ 0 ∷ []))) 8 8 24
    ∷ opens 328 (with table (monday 1 (0 ∷ 0 ∷ []) (0xA1 ∷ 5 ∷ []))) 8 8 24
    -- behind the others
    ∷ opens 328 (with (replicate 60 0) (2 ∷ replicate 31 0)) 8 8 22
    ∷ opens 328 (with (joined (map letters (STAT ∷ take 14 all))) (2 ∷ replicate 31 0)) 8 8 23
    ∷ opens 327 (with table (2 ∷ replicate 31 0)) 8 8 3
    ∷ opens 328 (2 ∷ replicate 31 0) 8 8 3
    ∷ opens 296 (with table (replicate 32 0)) 8 8 3
    ∷ opens 329 (with table (replicate 32 0)) 8 8 3
    ∷ opens 327 (with table (2 ∷ replicate 31 0)) 7 8 1
    ∷ opens 327 (with table (2 ∷ replicate 31 0)) 8 7 2
    ∷ []

-- the hours stand behind the totals; a refusal leaves the record
abbrev pub written : List (Fact (List ℕ))
written =
    row (drop 256 (timed_open (replicate 328 9) (with table (monday 1 (0 ∷ 0 ∷ []) (60 ∷ 0 ∷ []))) [] 8 8).rec) (replicate 40 0 ++ monday 1 (0 ∷ 0 ∷ []) (60 ∷ 0 ∷ []))
    ∷ row (timed_open (replicate 328 9) (with table (2 ∷ replicate 31 0)) [] 8 8).rec (replicate 328 9)
    ∷ row (timed_open (replicate 327 9) (with table (replicate 32 0)) [] 8 8).rec (replicate 327 9)
    ∷ []

-- ---- starts: the number returned, and the reads in the reply

-- Mondays from 9 to 17
abbrev nine_to_five : Option Hours
nine_to_five = some (record { day = 0; opens = 540; closes = 1020 } ∷ [])

-- 1970-01-05 was a Monday
abbrev at_minute : ℕ → ℕ
at_minute n = 345600 + 60 * n

abbrev fresh_by : (banner : List ℕ) → Option Hours → List ℕ
fresh_by banner h = (timed_open (replicate 328 9) (settings_with letters h) banner 32 32).rec

abbrev fresh : Option Hours → List ℕ
fresh h = fresh_by [] h

-- a call on a record, with a path
abbrev started : (rec path : List ℕ) → (call moment : ℕ) → Crossed
started rec path n t = timed_start rec (replicate 32 7) (replicate 32 7) path n 1 0 t (replicate 120 9)

abbrev shown : Crossed → List ℕ
shown c = c.number ∷ count_in c ∷ []

abbrev starts : Option Hours → (path : List ℕ) → (call moment : ℕ) → (number : ℕ) → (reads : ℕ) → Fact (List ℕ)
starts h path n t a k = row (shown (started (fresh h) path n t)) (a ∷ k ∷ [])

-- the last number of a slice of nines
abbrev nines : ℕ
nines = 0x0909_0909_0909_0909

abbrev pub pushes : List (Fact (List ℕ))
pushes =
    -- "open included and close excluded"
    starts nine_to_five (ascii "/a") 7 (at_minute 540) 2 nines
    ∷ starts nine_to_five (ascii "/a") 7 (at_minute 540 - 1) 6400 0
    ∷ starts nine_to_five (ascii "/a") 7 (at_minute 1020 - 1) 2 nines
    ∷ starts nine_to_five (ascii "/a") 7 (at_minute 1020) 6400 0
    -- another day; no day; no hours
    ∷ starts nine_to_five (ascii "/a") 7 (86400 + at_minute 540) 6400 0
    ∷ starts (some []) (ascii "/a") 7 (at_minute 540) 6400 0
    ∷ starts none (ascii "/a") 7 0 2 nines
    -- other calls; "after 10": what is refused is refused
    ∷ starts nine_to_five (ascii "/a") 1 0 2 nines
    ∷ starts nine_to_five [] 9 0 0 0
    ∷ starts nine_to_five (0 ∷ []) 7 0 2048 0
    ∷ starts nine_to_five (ascii "/a") 8 0 2560 0
    -- a push of version 2, where the panel has it
    ∷ row (shown (started (fresh_by (ascii "features=sendrecv_v2") nine_to_five) (ascii "/a") 8 (at_minute 540 - 1))) (6400 ∷ 0 ∷ [])
    ∷ row (shown (started (fresh_by (ascii "features=sendrecv_v2") nine_to_five) (ascii "/a") 8 (at_minute 540))) (2 ∷ nines ∷ [])
    ∷ []

-- what is turned away leaves the record, and what is not leaves the hours; a record of another length is 3
abbrev pub kept : List (Fact (List ℕ))
kept =
    row (started (fresh nine_to_five) (ascii "/a") 7 0).rec (fresh nine_to_five)
    ∷ row (drop 296 (started (fresh nine_to_five) (ascii "/a") 7 (at_minute 540)).rec) (monday 1 (0x1C ∷ 2 ∷ []) (0xFC ∷ 3 ∷ []))
    ∷ row (shown (started (replicate 296 9) (ascii "/a") 7 0)) (768 ∷ 0 ∷ [])
    ∷ row (shown (timed_wrote (fresh none) (replicate 32 7) (replicate 32 7) [] (replicate 120 9))) (1280 ∷ 0 ∷ [])
    ∷ []

-- "3 .. the length" of the record too, of every function, and where a session stands in it; 5 where nothing is awaited
abbrev pub lengths : List (Fact (List ℕ))
lengths =
    row (shown (started (take 296 (fresh none)) (ascii "/a") 7 0)) (768 ∷ 0 ∷ [])
    ∷ row (shown (started (take 327 (fresh none)) (ascii "/a") 7 0)) (768 ∷ 0 ∷ [])
    ∷ row (shown (started (fresh none ++ 0 ∷ []) (ascii "/a") 7 0)) (768 ∷ 0 ∷ [])
    ∷ row (shown (timed_read (fresh none ++ 0 ∷ []) (replicate 32 7) (replicate 32 7) [] 1 (replicate 120 9))) (768 ∷ 0 ∷ [])
    ∷ row (shown (timed_wrote (fresh none ++ 0 ∷ []) (replicate 32 7) (replicate 32 7) [] (replicate 120 9))) (768 ∷ 0 ∷ [])
    ∷ row (shown (timed_fault (fresh none ++ 0 ∷ []) (replicate 32 7) (replicate 32 7) [] 0 0 (replicate 120 9))) (768 ∷ 0 ∷ [])
    ∷ row (shown (timed_read (fresh none) (replicate 32 7) (replicate 32 7) [] 1 (replicate 120 9))) (1280 ∷ 0 ∷ [])
    ∷ row (shown (timed_fault (fresh none) (replicate 32 7) (replicate 32 7) [] 0 0 (replicate 120 9))) (1280 ∷ 0 ∷ [])
    ∷ []

-- the slice of a reply that tells 25: kind 7, two zeros, and no reads; where there is no room for a reply 3 is told, and the slice is left alone
abbrev told : (out : List ℕ) → List ℕ
told out = (timed_start (fresh nine_to_five) (replicate 32 7) (replicate 32 7) (ascii "/a") 7 1 0 0 out).out

abbrev pub replies : List (Fact (List ℕ))
replies = row (told (replicate 121 9)) (7 ∷ replicate 23 0 ++ replicate 88 9 ++ replicate 8 0 ++ 9 ∷ []) ∷ row (told (replicate 119 9)) (replicate 119 9) ∷ []
