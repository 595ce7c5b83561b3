-- The count on worked examples: calls, what comes, and in which reads; of each call the number of its answer, how many reads it accepts, and how many bytes
-- it consumes.
-- Assumes nothing.
use Rattle.std.specs.Prelude.{ℕ, ◌-◌, Bool, false, true, List, [], ◌∷◌, ◌++◌, map, length, replicate}
use Rattle.std.proofs.Math.Option.{Option, none, some}
use Rattle.protocol.specs.Answers as A
use Rattle.protocol.specs.Answers.{Answer, End, closed, error, number}
use Rattle.protocol.specs.Bytes.{ascii}
use Rattle.protocol.specs.Calls.{v1, Call, call, next_entry, next_chunk, anytime, anytimes}
use Rattle.protocol.specs.Fact.{Fact}
use Rattle.protocol.specs.Hours.{Hours}
use Rattle.protocol.specs.Ids.{published}
use Rattle.protocol.specs.Messages.{stat, sta2, ask, send, chunk, done, quit}
use Rattle.protocol.specs.Reader.{Config, accepted, broke, config_after, plain_call, plain_answers}
use Rattle.protocol_reads.specs.Reads.{call_reads, made_reads, plain_reads, Positive, by_link, Ceiling}

abbrev config : ℕ → Config
config c = record { setting = record { dialect = published; features = replicate 7 true; ended = false }; capacity = c; close = accepted }

-- ---- lists of calls, all writes accepted

pub record Counts : Type 0 where
  pub answers : List ℕ
  pub reads : List ℕ
  pub consumed : List ℕ

abbrev told : (answers reads consumed : List ℕ) → Counts
told a r c = record { answers = a; reads = r; consumed = c }

abbrev consumed_by : Config → End → List Call → List ℕ → List ℕ
consumed_by g e [] u = []
consumed_by g e (q ∷ qs) u = let v = (plain_call g e accepted q u).unread in (length u - length v) ∷ consumed_by (config_after g q) e qs v

abbrev counts : (capacity : ℕ) → List Call → (incoming lengths : List ℕ) → (paper : Counts) → Fact Counts
counts c qs u ks p =
    record {
      computed = told (map number (plain_answers none (config c) (error 7) (anytimes qs) u)) (plain_reads none (config c) (error 7) (anytimes qs) u 0 ks) (consumed_by (config c) (error 7) qs u);
      paper = p;
    }

abbrev stats : Call
stats = call (ask stat (ascii "/a"))

abbrev stat_reply : List ℕ
stat_reply = ascii "STAT" ++ replicate 12 1

abbrev word : ℕ → List ℕ
word n = n ∷ 0 ∷ 0 ∷ 0 ∷ []

-- an entry T98, and the record of a DONE
abbrev listing : List ℕ
listing = ascii "DENT" ++ word 1 ++ word 2 ++ word 3 ++ word 3 ++ ascii "T98" ++ ascii "DONE" ++ replicate 16 0

abbrev fail20 : List ℕ
fail20 = ascii "FAIL" ++ word 20 ++ replicate 20 65

abbrev ones : ℕ → List ℕ
ones n = replicate n 1

-- a reply in two reads; one more read than it wants is left for the next call, and what was read beyond a call is there for the next; each length is of one
-- read, in turn
abbrev pub turns : List (Fact Counts)
turns =
    counts 16 (stats ∷ []) stat_reply (3 ∷ 13 ∷ []) (told (0 ∷ []) (2 ∷ []) (16 ∷ []))
    ∷ counts 64 (stats ∷ stats ∷ stats ∷ []) (stat_reply ++ stat_reply ++ stat_reply) (28 ∷ 4 ∷ 16 ∷ []) (told (0 ∷ 0 ∷ 0 ∷ []) (1 ∷ 1 ∷ 1 ∷ []) (16 ∷ 16 ∷ 16 ∷ []))
    ∷ counts 64 (stats ∷ stats ∷ stats ∷ []) (stat_reply ++ stat_reply ++ stat_reply) (48 ∷ 1 ∷ 1 ∷ []) (told (0 ∷ 0 ∷ 0 ∷ []) (1 ∷ 0 ∷ 0 ∷ []) (16 ∷ 16 ∷ 16 ∷ []))
    ∷ counts 16 (stats ∷ stats ∷ []) (stat_reply ++ stat_reply) (16 ∷ 1 ∷ 15 ∷ []) (told (0 ∷ 0 ∷ []) (1 ∷ 2 ∷ []) (16 ∷ 16 ∷ []))
    ∷ counts 64 (next_entry v1 ∷ next_entry v1 ∷ []) listing (43 ∷ 1 ∷ 1 ∷ []) (told (0 ∷ 0 ∷ []) (1 ∷ 0 ∷ []) (23 ∷ 20 ∷ []))
    -- quit, and 6 from then on, whatever is still to come
    ∷ counts 16 (call quit ∷ stats ∷ []) stat_reply (16 ∷ []) (told (0 ∷ 6 ∷ []) (0 ∷ 0 ∷ []) (0 ∷ 0 ∷ []))
    -- calls that only write read nothing, and no more do refused ones
    ∷ counts 16 (call (chunk (ascii "x")) ∷ call (ask stat (0 ∷ [])) ∷ stats ∷ []) stat_reply (16 ∷ []) (told (0 ∷ 8 ∷ 0 ∷ []) (0 ∷ 0 ∷ 1 ∷ []) (0 ∷ 0 ∷ 16 ∷ []))
    ∷ []

-- "at most 8 more reads than bytes it consumed": as many are reached by a header that is left, of 15 and of 17; 14 and 16 consume what they read
abbrev pub ceilings : List (Fact Counts)
ceilings =
    counts 15 (stats ∷ stats ∷ []) stat_reply (1 ∷ 6 ∷ 1 ∷ []) (told (17 ∷ 17 ∷ []) (3 ∷ 0 ∷ []) (0 ∷ 0 ∷ []))
    ∷ counts 8 (next_chunk ∷ next_chunk ∷ []) (ascii "DATA" ++ word 1 ++ 1 ∷ []) (ones 9) (told (17 ∷ 17 ∷ []) (8 ∷ 0 ∷ []) (0 ∷ 0 ∷ []))
    ∷ counts 64 (stats ∷ stats ∷ []) (ascii "QUIT" ++ word 0) (ones 8) (told (15 ∷ 15 ∷ []) (8 ∷ 0 ∷ []) (0 ∷ 0 ∷ []))
    ∷ counts 8 (stats ∷ []) fail20 (8 ∷ 8 ∷ 8 ∷ 4 ∷ []) (told (14 ∷ []) (4 ∷ []) (28 ∷ []))
    ∷ counts 8 (stats ∷ []) fail20 (ones 28) (told (14 ∷ []) (28 ∷ []) (28 ∷ []))
    ∷ counts 72 (call (ask sta2 (ascii "/a")) ∷ []) (ascii "STA2" ++ word 2 ++ replicate 64 0) (ones 72) (told (16 ∷ []) (72 ∷ []) (72 ∷ []))
    -- the end error is no read that is accepted; a call that comes to it may have read any number of bytes and consumed none
    ∷ counts 16 (stats ∷ stats ∷ []) (ascii "STAT" ++ word 0) (5 ∷ 3 ∷ []) (told (13 ∷ 13 ∷ []) (2 ∷ 0 ∷ []) (0 ∷ 0 ∷ []))
    ∷ counts 16 (stats ∷ stats ∷ []) (ascii "STAT" ++ word 0) (5 ∷ 3 ∷ 9 ∷ []) (told (13 ∷ 13 ∷ []) (2 ∷ 0 ∷ []) (0 ∷ 0 ∷ []))
    -- 17 behind a record that is dropped: it has used one length, and the next call has the next
    ∷ counts 20 (next_entry v1 ∷ next_entry v1 ∷ []) (ascii "DENT" ++ word 1 ++ word 2 ++ word 3 ++ word 21 ++ ascii "QUIT" ++ word 0) (20 ∷ 8 ∷ 1 ∷ []) (told (17 ∷ 15 ∷ []) (1 ∷ 1 ∷ []) (20 ∷ 0 ∷ []))
    ∷ counts 16 (stats ∷ []) (ascii "STAT" ++ replicate 11 1) (ones 15) (told (13 ∷ []) (15 ∷ []) (0 ∷ []))
    ∷ []

-- ---- a write that is not accepted: "A push write that finds the channel closed: next(nothing)", and no other

-- `come`: how many of the unread bytes have come before the call
abbrev breaks : (capacity : ℕ) → End → Call → (unread : List ℕ) → (come : ℕ) → (lengths : List ℕ) → (answer reads consumed : ℕ) → Fact (List ℕ)
breaks c e q u come ks a r n =
    let y = plain_call (config c) (error 7) (broke e) q u in
    record { computed = number y.answer ∷ (call_reads (config c) (broke e) q u come ks).reads ∷ (length u - length y.unread) ∷ []; paper = a ∷ r ∷ n ∷ [] }

abbrev parts : Call
parts = call (chunk (ascii "x"))

abbrev refusal3 : List ℕ
refusal3 = ascii "FAIL" ++ word 3 ++ ascii "bad"

abbrev pub broken : List (Fact (List ℕ))
broken =
    breaks 64 closed parts refusal3 0 (ones 11) 14 11 11
    ∷ breaks 64 closed (call (done 5)) refusal3 4 (7 ∷ []) 14 1 11
    -- it is held: no read
    ∷ breaks 64 closed parts refusal3 11 [] 14 0 11
    ∷ breaks 64 closed parts (ascii "OKAY" ++ word 0) 0 (ones 8) 12 8 0
    -- a call that ends in 12 may have read more than 8 beyond what it consumed
    ∷ breaks 64 closed parts (ascii "FAIL" ++ word 20 ++ replicate 19 65) 0 (ones 27) 12 27 8
    -- another error, and another call
    ∷ breaks 64 (error 5) parts refusal3 0 (ones 11) 13 0 0
    ∷ breaks 64 closed stats refusal3 0 (ones 11) 12 0 0
    ∷ []

-- ---- a push start whose write finds the channel closed, FAIL coming byte by byte: it reads all of it, but where the hours turned it away

abbrev pushed : Option Hours → (paper : ℕ) → Fact ℕ
pushed h p =
    record {
      computed = (made_reads h (config 16) (broke closed) (anytime (call (send (ascii "/j") 33188))) (ascii "FAIL" ++ word 2 ++ ascii "no") 0 (ones 10)).reads;
      paper = p;
    }

abbrev pub turned_away : List (Fact ℕ)
turned_away = pushed none 10 ∷ pushed (some []) 0 ∷ []

-- ---- the ceiling

-- which answers come by the link
abbrev ending : Answer → Bool → Fact Bool
ending a b = record { computed = by_link a; paper = b }

abbrev pub endings : List (Fact Bool)
endings =
    ending (A.broken closed) true
    ∷ ending (A.broken (error 0)) true
    ∷ ending (A.broken (error 12)) true
    ∷ ending A.done false
    ∷ ending A.end false
    ∷ ending (A.stat (record { mode = 12; size = 13; mtime = 12 })) false
    ∷ ending (A.entry (record { mode = 12; size = 13; mtime = 12 }) []) false
    ∷ ending (A.chunk (12 ∷ 13 ∷ [])) false
    ∷ ending (A.missing 3) false
    ∷ ending (A.fail (12 ∷ [])) false
    ∷ ending (A.unexpected (ascii "QUIT")) false
    ∷ ending (A.errno 13) false
    ∷ ending A.too_large false
    ∷ map (λ n. ending (A.refused n) false) (6 ∷ 7 ∷ 8 ∷ 9 ∷ [])

-- reached and not passed: a header that is left, and a FAIL that is dropped; nothing is said of a call that comes to the end error
pub record Ceilings : Type 0 where
  pub reached : Ceiling (config 64) (error 7) accepted stats (ascii "QUIT" ++ word 0) 8
  pub passed : Ceiling (config 64) (error 7) accepted stats (ascii "QUIT" ++ word 0) 9 → ⊥
  pub dropped : Ceiling (config 8) (error 7) accepted stats fail20 36
  pub over_dropped : Ceiling (config 8) (error 7) accepted stats fail20 37 → ⊥
  -- a read brings one byte at least, and may bring no more
  pub ones_bring : Positive (1 ∷ 1 ∷ [])
  pub none_bring : Positive (1 ∷ 0 ∷ []) → ⊥
  pub at_the_end : Ceiling (config 16) (error 7) accepted stats (ascii "STAT" ++ replicate 11 1) 15
