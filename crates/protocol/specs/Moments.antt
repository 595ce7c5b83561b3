-- Moments within hours and outside them, and the order of the refusals of a push start, beside what document 02, [10] says of them; and that every call meets them in this
-- order.
-- Assumes nothing.
use Rattle.std.specs.Prelude.{ℕ, suc, ◌+◌, ◌*◌, ◌/◌, ◌%◌, ◌<◌, Bool, true, false, List, [], ◌∷◌, ◌++◌, ◌≡◌, replicate}
use Rattle.std.proofs.Math.Option.{Option, none, some}
use Rattle.protocol.specs.Answers as A
use Rattle.protocol.specs.Answers.{Answer, End}
use Rattle.protocol.specs.Bytes.{ascii}
use Rattle.protocol.specs.Calls.{Version, v1, v2, Call, call, next_entry, next_chunk, messages, joined_messages, Made}
use Rattle.protocol.specs.Fact.{Fact}
use Rattle.protocol.specs.Hours.{Span, Hours, weekday, day_at, minute_at, lets}
use Rattle.protocol.specs.Ids.{published}
use Rattle.protocol.specs.Messages.{PathOnly, stat, list, recv, ask, rcv2, send, snd2, chunk, done, quit}
use Rattle.protocol.specs.Reader.{Config, Reply, accepted, plain_call, unless_written, plain_made, writes_made, plain_answers, plain_writes}
use Rattle.protocol.specs.Refusal.{Setting, refusal, refusal_at}

abbrev span : (day opens closes : ℕ) → Span
span d o c = record { day = d; opens = o; closes = c }

-- Mondays from 7:00 to 18:00, all of Thursday, the last minute of Sunday
abbrev workshop : Option Hours
workshop = some (span 0 420 1080 ∷ span 3 0 1440 ∷ span 6 1439 1440 ∷ [])

abbrev asking : Option Hours → ℕ → Bool → Fact Bool
asking h t b = record { computed = lets h t; paper = b }

-- 2024-01-01 was a Monday
abbrev pub moments : List (Fact Bool)
moments =
    asking none 0 true
    ∷ asking workshop 1704092399 false
    ∷ asking workshop 1704092400 true
    ∷ asking workshop 1704131999 true
    ∷ asking workshop 1704132000 false
    -- the epoch is a Thursday, which is open all day; the day after is not
    ∷ asking workshop 0 true
    ∷ asking workshop 86399 true
    ∷ asking workshop 86400 false
    -- 2100-02-28 is a Sunday, 23:58:59 and 23:59:00; the next day is Monday, March the 1st
    ∷ asking workshop 4107542339 false
    ∷ asking workshop 4107542340 true
    ∷ asking workshop 4107542400 false
    -- the last moment of 32 bits, 2106-02-07 06:28:15, is a Sunday, and 00:00 of it lies 23,295 seconds before
    ∷ asking workshop 4294967295 false
    ∷ asking (some (span 6 388 389 ∷ [])) 4294967295 true
    ∷ asking (some (span 6 388 389 ∷ [])) 4294967279 false
    -- each day of a week from Monday 2024-01-01 on, in its first second
    ∷ asking (some (span 0 0 1 ∷ [])) 1704067200 true
    ∷ asking (some (span 1 0 1 ∷ [])) 1704153600 true
    ∷ asking (some (span 2 0 1 ∷ [])) 1704240000 true
    ∷ asking (some (span 3 0 1 ∷ [])) 1704326400 true
    ∷ asking (some (span 4 0 1 ∷ [])) 1704412800 true
    ∷ asking (some (span 5 0 1 ∷ [])) 1704499200 true
    ∷ asking (some (span 6 0 1 ∷ [])) 1704585600 true
    ∷ asking (some (span 0 0 1 ∷ [])) 1704672000 true
    -- the heading alone: no moment will do
    ∷ asking (some []) 0 false
    ∷ []

-- ---- the plain reader: 25 after 10, of push starts alone

abbrev setting : (ended : Bool) → Setting
setting e = record { dialect = published; features = replicate 7 false; ended = e }

abbrev made : (ended : Bool) → Call → ℕ → Option Answer → Fact (Option Answer)
made e q t p = record { computed = refusal_at workshop (setting e) (record { call = q; moment = t }); paper = p }

-- a push of version 2 where the panel has sendrecv_v2 alone, and where it has all seven features
abbrev made_by : (features : List Bool) → (flags t : ℕ) → Option Answer → Fact (Option Answer)
made_by l f t p =
    record {
      computed = refusal_at workshop (record { dialect = published; features = l; ended = false }) (record { call = call (snd2 (ascii "/j") 33188 f); moment = t });
      paper = p;
    }

abbrev third : List Bool
third = false ∷ false ∷ true ∷ false ∷ false ∷ false ∷ false ∷ []

abbrev pub order : List (Fact (Option Answer))
order =
    -- at 86400, a Friday, which has no span
    made false (call (send (ascii "/j") 33188)) 86400 (some (A.refused 25))
    ∷ made false (call (send (ascii "/j") 33188)) 0 none
    ∷ made true (call (send (ascii "/j") 33188)) 86400 (some (A.refused 6))
    ∷ made false (call (send (0 ∷ []) 33188)) 86400 (some (A.refused 8))
    ∷ made false (call (snd2 (ascii "/j") 33188 3)) 86400 (some (A.refused 9))
    ∷ made false (call (snd2 (ascii "/j") 33188 0)) 86400 (some (A.missing 3))
    ∷ made true (call (snd2 (ascii "/j") 33188 0)) 86400 (some (A.refused 6))
    ∷ made false (call (send (replicate 1025 47) 33188)) 86400 (some (A.refused 7))
    ∷ made false (call (send (replicate 1024 47) 33188)) 86400 (some (A.refused 25))
    ∷ made_by third 0 86400 (some (A.refused 25))
    ∷ made_by third 0 0 none
    ∷ made_by third 1 86400 (some (A.missing 4))
    ∷ made_by third 3 86400 (some (A.refused 9))
    ∷ made_by third 0x8000_0000 86400 (some (A.missing 7))
    ∷ made_by (replicate 7 true) 0x8000_0001 86400 (some (A.refused 25))
    -- no other call asks the moment
    ∷ made false (call (chunk (ascii "x"))) 86400 none
    ∷ made false (call (done 5)) 86400 none
    ∷ made false (call (ask recv (ascii "/j"))) 86400 none
    ∷ made false (call (ask stat (ascii "/j"))) 86400 none
    ∷ made false (call (ask list (ascii "/j"))) 86400 none
    ∷ made false (next_entry v1) 86400 none
    ∷ made false (next_entry v2) 86400 none
    ∷ made false (call quit) 86400 none
    ∷ made false next_chunk 86400 none
    ∷ []

-- ---- a list of calls: the push of Friday is turned away, that of Thursday is not, and what is behind it goes on

abbrev session : Config
session = record { setting = setting false; capacity = 16; close = accepted }

abbrev pub answered : List (Fact (List Answer))
answered =
    record {
      computed = plain_answers workshop session (A.error 7) (record { call = call (send (ascii "/j") 1); moment = 86400 } ∷ record { call = call (chunk (ascii "x")); moment = 86400 } ∷ record { call = call (send (ascii "/j") 1); moment = 86399 } ∷ record { call = call quit; moment = 86400 } ∷ record { call = call (send (ascii "/j") 1); moment = 86400 } ∷ []) [];
      paper = A.refused 25 ∷ A.done ∷ A.done ∷ A.done ∷ A.refused 6 ∷ [];
    }
    -- 8, 9 and 10 come first there too
    ∷ record {
      computed = plain_answers workshop session (A.error 7) (record { call = call (send (0 ∷ []) 1); moment = 86400 } ∷ record { call = call (snd2 (ascii "/j") 1 3); moment = 86400 } ∷ record { call = call (snd2 (ascii "/j") 1 0); moment = 86400 } ∷ record { call = call (send (ascii "/j") 1); moment = 86400 } ∷ []) [];
      paper = A.refused 8 ∷ A.refused 9 ∷ A.missing 3 ∷ A.refused 25 ∷ [];
    }
    ∷ []

abbrev pub wrote : List (Fact (List ℕ))
wrote =
    record {
      computed = plain_writes workshop session (record { call = call (send (ascii "/j") 1); moment = 86400 } ∷ record { call = call (done 5); moment = 86400 } ∷ record { call = call (send (ascii "/j") 1); moment = 86399 } ∷ []);
      paper = ascii "DONE" ++ 5 ∷ 0 ∷ 0 ∷ 0 ∷ ascii "SEND" ++ 4 ∷ 0 ∷ 0 ∷ 0 ∷ ascii "/j,1";
    }
    ∷ []

-- ---- of every call, at every moment

abbrev at : ℕ → Call → Made
at t q = record { call = q; moment = t }

pub record MadeAt : Type 0 where
  -- "a start outside the hours is 25, after 10": a push of either version, whatever its path, its mode and its flags
  pub send_closed : (h : Option Hours) (g : Setting) (p : List ℕ) (m t : ℕ) → lets h t ≡ false → refusal g (call (send p m)) ≡ none
      → refusal_at h g (at t (call (send p m))) ≡ some (A.refused 25)
  pub send2_closed : (h : Option Hours) (g : Setting) (p : List ℕ) (m f t : ℕ) → lets h t ≡ false → refusal g (call (snd2 p m f)) ≡ none
      → refusal_at h g (at t (call (snd2 p m f))) ≡ some (A.refused 25)
  -- what is refused for another reason is refused for it; within the hours nothing is refused besides
  pub first : (h : Option Hours) (g : Setting) (m : Made) (a : Answer) → refusal g m.call ≡ some a → refusal_at h g m ≡ some a
  pub within : (h : Option Hours) (g : Setting) (m : Made) → lets h m.moment ≡ true → refusal_at h g m ≡ refusal g m.call
  -- nor is any other call, at any moment
  pub ask_any : (h : Option Hours) (g : Setting) (i : PathOnly) (p : List ℕ) (t : ℕ) → refusal_at h g (at t (call (ask i p))) ≡ refusal g (call (ask i p))
  pub pull_any : (h : Option Hours) (g : Setting) (p : List ℕ) (f t : ℕ) → refusal_at h g (at t (call (rcv2 p f))) ≡ refusal g (call (rcv2 p f))
  pub data_any : (h : Option Hours) (g : Setting) (x : List ℕ) (t : ℕ) → refusal_at h g (at t (call (chunk x))) ≡ refusal g (call (chunk x))
  pub done_any : (h : Option Hours) (g : Setting) (n t : ℕ) → refusal_at h g (at t (call (done n))) ≡ refusal g (call (done n))
  pub quit_any : (h : Option Hours) (g : Setting) (t : ℕ) → refusal_at h g (at t (call quit)) ≡ refusal g (call quit)
  pub entry_any : (h : Option Hours) (g : Setting) (v : Version) (t : ℕ) → refusal_at h g (at t (next_entry v)) ≡ refusal g (next_entry v)
  pub chunk_any : (h : Option Hours) (g : Setting) (t : ℕ) → refusal_at h g (at t next_chunk) ≡ refusal g next_chunk

-- ---- "A call first meets refusals 6 to 10 in their order; a refused call changes nothing" (document 01), and then 25: in one equation, of every call and moment

-- a refusal, and what was unread; or the reply
abbrev pub or_reply : Option Answer → List ℕ → Reply → Reply
or_reply (some a) u r = record { answer = a; unread = u }
or_reply none u r = r

pub record MeetsRefusals (h : Option Hours) (g : Config) (e : End) (m : Made) (u : List ℕ) : Type 0 where
  pub answers : plain_made h g e m u ≡ or_reply (refusal_at h g.setting m) u (plain_call g e accepted m.call u)
  pub writes : writes_made h g m ≡ unless_written (refusal_at h g.setting m) (joined_messages g.setting.dialect (messages m.call))

-- ---- days, weekdays and minutes, of every moment: days of 1,440 minutes, each with the weekday after the one before

pub record Clock : Type 0 where
  pub minutes : (t : ℕ) → 1440 * day_at t + minute_at t ≡ t / 60
  pub of_a_day : (t : ℕ) → minute_at t < 1440
  pub thursday : weekday 0 ≡ 3
  pub each : (n : ℕ) → weekday (suc n) ≡ suc (weekday n) % 7
