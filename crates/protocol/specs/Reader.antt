-- The plain reader of document 01: what each call comes to on the unread bytes U, as needs and drops.
-- Assumes nothing.
use Rattle.std.specs.Prelude.{ℕ, zero, suc, ◌+◌, ◌-◌, min, Bool, true, false, ◌||◌, List, [], ◌∷◌, ◌++◌, eqb, ltb, length, take, drop}
use Rattle.std.proofs.Math.Option.{Option, none, some}
use Rattle.protocol.specs.Answers as A
use Rattle.protocol.specs.Answers.{Answer, End, closed, error}
use Rattle.protocol.specs.Bytes.{pick, same}
use Rattle.protocol.specs.Calls.{Version, v1, v2, Call, call, next_entry, next_chunk, messages, joined_messages, Made}
use Rattle.protocol.specs.Hours.{Hours}
use Rattle.protocol.specs.Refusal.{Setting, refusal, turned, closed_hours}
use Rattle.protocol.specs.Ids.{Id, Dialect, STAT, STA2, DATA, DONE, OKAY, FAIL, DENT, DNT2}
use Rattle.protocol.specs.Messages.{PathOnly, stat, sta2, list, lis2, recv, ask, rcv2, send, snd2, chunk, done, quit}
use Rattle.protocol.specs.Records.{id_at, arg_at, header_size, stat_size, stat2_size, dent_size, dent2_size, stat_at, stat2_at, dent_at, dent2_at, Stat2}

-- A reader's program. `need n k`: need(n), then go on, with the first n unread bytes in view. `skip n p`: drop n, go on.
pub data Prog : Type 0 where
  answer : Answer → Prog
  need : ℕ → (List ℕ → Prog) → Prog
  skip : ℕ → Prog → Prog

-- What it comes to: an answer, with the bytes left unread; or it falls short, at need(n) with n ≤ c and fewer than n unread.
pub data Result : Type 0 where
  ended : Answer → List ℕ → Result
  short : ℕ → List ℕ → Result

-- "need(n): 17 if n > c; E if U has fewer than n; else go on. Nothing is consumed by need."
unfoldable pub plain : ℕ → Prog → List ℕ → Result
plain c (answer a) u = ended a u
plain c (need n k) u = pick (ltb c n) (ended A.too_large u) (pick (ltb (length u) n) (short n u) (plain c (k (take n u)) u))
plain c (skip n p) u = plain c p (drop n u)

-- ---- next(allowed)

-- "while some of L is left, need the smaller of the rest and c, drop it" (f, at least what is left, ends the recursion)
unfoldable pub drain : ℕ → ℕ → ℕ → List ℕ → Prog
drain c zero left t = answer (A.fail t)
drain c (suc f) left t = pick (eqb left 0) (answer (A.fail t)) (need (min left c) (λ x. skip (min left c) (drain c f (left - min left c) t)))

-- a FAIL with length l: "drop 8, need m = min(L, c), drop m as the text"
abbrev pub failing : ℕ → ℕ → Prog
failing c l = skip header_size (need (min l c) (λ t. skip (min l c) (drain c l (l - min l c) t)))

-- an id that is allowed, and how the header that has it goes on
pub record Way : Type 0 where
  pub id : Id
  pub on : List ℕ → Prog

-- "Otherwise an id not allowed is 15 with its bytes, header left"; h is the header
abbrev pub among_ways : Dialect → List Way → List ℕ → Answer → Prog
among_ways d [] h other = answer other
among_ways d (w ∷ ws) h other = pick (same (id_at h) (d.bytes w.id)) (w.on h) (among_ways d ws h other)

abbrev pub next_on : Dialect → ℕ → List Way → (List ℕ → Answer) → List ℕ → Prog
next_on d c ws other h = pick (same (id_at h) (d.bytes FAIL)) (failing c (arg_at h)) (among_ways d ws h (other (id_at h)))

abbrev pub next : Dialect → ℕ → List Way → Prog
next d c ws = need header_size (next_on d c ws A.unexpected)

-- a push write that finds the channel closed: next(nothing); a 14 is the answer, all else is 12
abbrev pub lost : Dialect → ℕ → Prog
lost d c = need header_size (next_on d c [] (λ id. A.broken closed))

-- ---- the replies

abbrev pub way : Id → (List ℕ → Prog) → Way
way i k = record { id = i; on = k }

-- need n, drop it, go on with the n bytes
abbrev pub taking : ℕ → (List ℕ → Prog) → Prog
taking n k = need n (λ x. skip n (k x))

abbrev pub stat_id : Version → Id
stat_id v1 = STAT
stat_id v2 = STA2

abbrev pub stat_length : Version → ℕ
stat_length v1 = stat_size
stat_length v2 = stat2_size

-- a v2 stat with error ≠ 0 is 16
abbrev pub stat2_answer : Stat2 → Answer
stat2_answer s = pick (eqb s.error 0) (A.stat2 s) (A.errno s.error)

abbrev pub stat_answer : Version → List ℕ → Answer
stat_answer v1 x = A.stat (stat_at x)
stat_answer v2 x = stat2_answer (stat2_at x)

abbrev pub stat_ways : Version → List Way
stat_ways v = way (stat_id v) (λ h. taking (stat_length v) (λ x. answer (stat_answer v x))) ∷ []

abbrev pub entry_id : Version → Id
entry_id v1 = DENT
entry_id v2 = DNT2

abbrev pub entry_length : Version → ℕ
entry_length v1 = dent_size
entry_length v2 = dent2_size

abbrev pub name_length : Version → List ℕ → ℕ
name_length v1 x = (dent_at x).namelen
name_length v2 x = (dent2_at x).namelen

-- a v2 entry with error ≠ 0 is still an entry
abbrev pub entry_answer : Version → List ℕ → List ℕ → Answer
entry_answer v1 x name = A.entry (dent_at x).stat name
entry_answer v2 x name = A.entry2 (dent2_at x).stat name

-- "need 20 (76); drop it; for an entry need namelen, drop it as the name"
abbrev pub entry_ways : Version → List Way
entry_ways v =
    way (entry_id v) (λ h. taking (entry_length v) (λ x. taking (name_length v x) (λ name. answer (entry_answer v x name))))
    ∷ way DONE (λ h. taking (entry_length v) (λ x. answer A.end))
    ∷ []

-- "DONE: drop 8. DATA: need 8 + length, drop both."
abbrev pub chunk_ways : List Way
chunk_ways =
    way DATA (λ h. taking (header_size + arg_at h) (λ x. answer (A.chunk (drop header_size x))))
    ∷ way DONE (λ h. skip header_size (answer A.end))
    ∷ []

abbrev pub okay_ways : List Way
okay_ways = way OKAY (λ h. skip header_size (answer A.done)) ∷ []

-- ---- the calls

-- what the host reports of a write or of the close: accepted, or 12 or 13
pub data Report : Type 0 where
  accepted : Report
  broke : End → Report

-- All that a call depends on besides the unread bytes: the setting, the capacity, the report of the close.
pub record Config : Type 0 where
  pub setting : Setting
  pub capacity : ℕ
  pub close : Report

abbrev pub closing : Report → Answer
closing accepted = A.done
closing (broke e) = A.broken e

-- a call whose writes were accepted
abbrev pub ask_prog : Dialect → ℕ → PathOnly → Prog
ask_prog d c stat = next d c (stat_ways v1)
ask_prog d c sta2 = next d c (stat_ways v2)
ask_prog d c list = answer A.done
ask_prog d c lis2 = answer A.done
ask_prog d c recv = answer A.done

unfoldable pub written : Config → Call → Prog
written g (call (ask i p)) = ask_prog g.setting.dialect g.capacity i
written g (call (rcv2 p f)) = answer A.done
written g (call (send p m)) = answer A.done
written g (call (snd2 p m f)) = answer A.done
written g (call (chunk x)) = answer A.done
written g (call (done t)) = next g.setting.dialect g.capacity okay_ways
written g (call quit) = answer (closing g.close)
written g (next_entry v) = next g.setting.dialect g.capacity (entry_ways v)
written g next_chunk = next g.setting.dialect g.capacity chunk_ways

-- a push write that broke
abbrev pub push_broke : Config → End → Prog
push_broke g closed = lost g.setting.dialect g.capacity
push_broke g (error c) = answer (A.broken (error c))

-- "quit takes such a write as done. quit answers the write's error, else the close's."
abbrev pub quit_broke : Config → End → Prog
quit_broke g closed = answer (closing g.close)
quit_broke g (error c) = answer (A.broken (error c))

-- a call one of whose writes broke; the calls that write nothing have none
unfoldable pub write_broke : Config → End → Call → Prog
write_broke g e (call (ask i p)) = answer (A.broken e)
write_broke g e (call (rcv2 p f)) = answer (A.broken e)
write_broke g e (call (send p m)) = push_broke g e
write_broke g e (call (snd2 p m f)) = push_broke g e
write_broke g e (call (chunk x)) = push_broke g e
write_broke g e (call (done t)) = push_broke g e
write_broke g e (call quit) = quit_broke g e
write_broke g e (next_entry v) = written g (next_entry v)
write_broke g e next_chunk = written g next_chunk

abbrev pub on_report : Config → Report → Call → Prog
on_report g accepted q = written g q
on_report g (broke e) q = write_broke g e q

abbrev pub unless_refused : Option Answer → Prog → Prog
unless_refused (some a) p = answer a
unless_refused none p = p

-- a call, with r reported of its writes
abbrev pub program : Config → Report → Call → Prog
program g r q = unless_refused (refusal g.setting q) (on_report g r q)

-- The end error E that a call meets: a push write that found the channel closed answers 12 for every other.
abbrev pub end_of : End → Report → Call → End
end_of e accepted q = e
end_of e (broke (error c)) q = e
end_of e (broke closed) (call (ask i p)) = e
end_of e (broke closed) (call (rcv2 p f)) = e
end_of e (broke closed) (call (send p m)) = closed
end_of e (broke closed) (call (snd2 p m f)) = closed
end_of e (broke closed) (call (chunk x)) = closed
end_of e (broke closed) (call (done t)) = closed
end_of e (broke closed) (call quit) = e
end_of e (broke closed) (next_entry v) = e
end_of e (broke closed) next_chunk = e

-- what a call answers, and what it leaves unread
pub record Reply : Type 0 where
  pub answer : Answer
  pub unread : List ℕ

abbrev pub reply : End → Result → Reply
reply e (ended a u) = record { answer = a; unread = u }
reply e (short n u) = record { answer = A.broken e; unread = u }

abbrev pub plain_call : Config → End → Report → Call → List ℕ → Reply
plain_call g e r q u = reply (end_of e r q) (plain g.capacity (program g r q) u)

-- the bytes that a call writes, all writes accepted
abbrev pub unless_written : Option Answer → List ℕ → List ℕ
unless_written (some a) m = []
unless_written none m = m

unfoldable pub writes : Config → Call → List ℕ
writes g q = unless_written (refusal g.setting q) (joined_messages g.setting.dialect (messages q))

abbrev pub is_quit : Call → Bool
is_quit (call (ask i p)) = false
is_quit (call (rcv2 p f)) = false
is_quit (call (send p m)) = false
is_quit (call (snd2 p m f)) = false
is_quit (call (chunk x)) = false
is_quit (call (done t)) = false
is_quit (call quit) = true
is_quit (next_entry v) = false
is_quit next_chunk = false

-- after quit the session has ended
abbrev pub config_after : Config → Call → Config
config_after g q =
    record {
      setting = record { dialect = g.setting.dialect; features = g.setting.features; ended = is_quit q || g.setting.ended };
      capacity = g.capacity;
      close = g.close;
    }

-- ---- calls as they are made: a push start outside the hours is 25 "before any write, from the plain reader too" (document 02, [10])

abbrev pub plain_made : Option Hours → Config → End → Made → List ℕ → Reply
plain_made h g e m u = pick (turned h g.setting m) (record { answer = A.refused closed_hours; unread = u }) (plain_call g e accepted m.call u)

abbrev pub writes_made : Option Hours → Config → Made → List ℕ
writes_made h g m = pick (turned h g.setting m) [] (writes g m.call)

-- a list of calls with all writes accepted: the answers, and W
unfoldable pub plain_answers : Option Hours → Config → End → List Made → List ℕ → List Answer
plain_answers h g e [] u = []
plain_answers h g e (m ∷ ms) u = (plain_made h g e m u).answer ∷ plain_answers h (config_after g m.call) e ms (plain_made h g e m u).unread

unfoldable pub plain_writes : Option Hours → Config → List Made → List ℕ
plain_writes h g [] = []
plain_writes h g (m ∷ ms) = writes_made h g m ++ plain_writes h (config_after g m.call) ms
