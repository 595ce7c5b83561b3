-- Reading back: the calls that replies belong to, and what each is read as (document 02, [4]).
-- Assumes nothing.
use Rattle.std.specs.Prelude.{ℕ, max, ◌+◌, ◌≤◌, ◌<◌, ◌^◌, List, [], ◌∷◌, ◌++◌, ◌≡◌, eqb, length, take}
use Rattle.std.proofs.Math.Option.{Option, none, some}
use Rattle.protocol.specs.Answers as A
use Rattle.protocol.specs.Answers.{Answer}
use Rattle.protocol.specs.Bytes.{Bytes, pick}
use Rattle.protocol.specs.Calls.{Version, v1, v2, Call, call, next_entry, next_chunk, Made}
use Rattle.protocol.specs.Ids.{Table}
use Rattle.protocol.specs.Messages as Q
use Rattle.protocol.specs.Records.{Stat, Stat2}
use Rattle.protocol.specs.Hours.{Hours}
use Rattle.protocol.specs.Refusal.{Setting, refusal_at}
use Rattle.ids.specs.Ids.{ids_of}
use Rattle.id_table.specs.Settings.{lent_in}
use Rattle.id_table.specs.Lent as L
use Rattle.boundary.specs.Heard.{at}
use Rattle.panel_reply.specs.Replies.{Reply, stat, stat2, entry, entry2, listing_end, chunk, transfer_end, okay, fail}
use Rattle.panel_side.specs.Crossing.{Spoken, reply_numbered, cross_speak}

-- ---- what is said

-- `yuglasno_speak`, called: settings, a kind, its numbers, what is lent, the buffer and the slice for the length, with what stands in them
pub record Utterance : Type 0 where
  pub settings : List ℕ
  pub kind : ℕ
  pub numbers : List ℕ
  pub lent : List ℕ
  pub out : List ℕ
  pub told : List ℕ

abbrev pub spoken_by : Utterance → Spoken
spoken_by u = cross_speak u.settings u.kind u.numbers u.lent u.out u.told

-- the bytes that a panel sends: as many of the buffer's first as the slice says
abbrev pub sent_by : Utterance → List ℕ
sent_by u = take (at (spoken_by u).told 0) (spoken_by u).out

abbrev pub sent_all : List Utterance → List ℕ
sent_all [] = []
sent_all (u ∷ us) = sent_by u ++ sent_all us

-- settings that have this table
abbrev pub Lends : (settings : List ℕ) → Table → Type 0
Lends s t = lent_in s ≡ L.Ids (ids_of t)

-- these are taken under one table, and are these replies (no slice has 2^63 bytes)
pub data Says (t : Table) : List Utterance → List Reply → Type 0 where
  says_none : Says t [] []
  says_next : (u : Utterance) (r : Reply) {us : List Utterance} {rs : List Reply} → Lends u.settings t → Bytes u.numbers → length u.out < 2 ^ 63
      → reply_numbered u.kind u.numbers u.lent ≡ some r → (spoken_by u).number ≡ 0 → Says t us rs → Says t (u ∷ us) (r ∷ rs)

-- ---- what is read

-- the calls that read
pub data Reads : Call → Type 0 where
  stat_reads : (path : List ℕ) → Reads (call (Q.ask Q.stat path))
  stat2_reads : (path : List ℕ) → Reads (call (Q.ask Q.sta2 path))
  step_reads : (v : Version) → Reads (next_entry v)
  chunk_reads : Reads next_chunk
  done_reads : (mtime : ℕ) → Reads (call (Q.done mtime))

-- "the call each belongs to (for FAIL any that reads)"
pub data BelongsTo : Reply → Call → Type 0 where
  of_stat : (s : Stat) (path : List ℕ) → BelongsTo (stat s) (call (Q.ask Q.stat path))
  of_stat2 : (s : Stat2) (path : List ℕ) → BelongsTo (stat2 s) (call (Q.ask Q.sta2 path))
  of_entry : (s : Stat) (name : List ℕ) → BelongsTo (entry s name) (next_entry v1)
  of_entry2 : (s : Stat2) (name : List ℕ) → BelongsTo (entry2 s name) (next_entry v2)
  of_listing_end : (v : Version) → BelongsTo (listing_end v) (next_entry v)
  of_chunk : (b : List ℕ) → BelongsTo (chunk b) next_chunk
  of_transfer_end : BelongsTo transfer_end next_chunk
  of_okay : (mtime : ℕ) → BelongsTo okay (call (Q.done mtime))
  of_fail : (t : List ℕ) {q : Call} → Reads q → BelongsTo (fail t) q

-- "of a v2 stat with a nonzero error it reads that error, as 16"
abbrev pub read_as : Reply → Answer
read_as (stat s) = A.stat s
read_as (stat2 s) = pick (eqb s.error 0) (A.stat2 s) (A.errno s.error)
read_as (entry s name) = A.entry s name
read_as (entry2 s name) = A.entry2 s name
read_as (listing_end v) = A.end
read_as (chunk b) = A.chunk b
read_as transfer_end = A.end
read_as okay = A.done
read_as (fail t) = A.fail t

-- the calls that only write: a listing, a pull or a push that is begun, and data
pub data Writes : Call → Type 0 where
  list_writes : (path : List ℕ) → Writes (call (Q.ask Q.list path))
  list2_writes : (path : List ℕ) → Writes (call (Q.ask Q.lis2 path))
  recv_writes : (path : List ℕ) → Writes (call (Q.ask Q.recv path))
  recv2_writes : (path : List ℕ) (flags : ℕ) → Writes (call (Q.rcv2 path flags))
  send_writes : (path : List ℕ) (mode : ℕ) → Writes (call (Q.send path mode))
  send2_writes : (path : List ℕ) (mode flags : ℕ) → Writes (call (Q.snd2 path mode flags))
  data_writes : (b : List ℕ) → Writes (call (Q.chunk b))

-- A list of calls with the replies that it reads, one for each call that reads, and its answers. The calls between them that only write may be
-- left out: then each call is that of a reply.
pub data Dialogue : List Made → List Reply → List Answer → Type 0 where
  over : Dialogue [] [] []
  reading : {m : Made} {r : Reply} {ms : List Made} {rs : List Reply} {as' : List Answer} → BelongsTo r m.call → Dialogue ms rs as'
      → Dialogue (m ∷ ms) (r ∷ rs) (read_as r ∷ as')
  writing : {m : Made} {ms : List Made} {rs : List Reply} {as' : List Answer} → Writes m.call → Dialogue ms rs as' → Dialogue (m ∷ ms) rs (A.done ∷ as')

-- "none refused", by 25 neither
abbrev pub NoneRefused : Option Hours → Setting → List Made → Type 0
NoneRefused h g [] = Unit {0}
NoneRefused h g (m ∷ ms) = (refusal_at h g m ≡ none) × NoneRefused h g ms

-- "a capacity that holds the largest record, name, FAIL text or DATA message", each by itself
abbrev pub capacity_for : Reply → ℕ
capacity_for (stat s) = 16
capacity_for (stat2 s) = 72
capacity_for (entry s name) = max 20 (length name)
capacity_for (entry2 s name) = max 76 (length name)
capacity_for (listing_end v1) = 20
capacity_for (listing_end v2) = 76
capacity_for (chunk b) = 8 + length b
capacity_for transfer_end = 8
capacity_for okay = 8
capacity_for (fail t) = length t

abbrev pub Held : (capacity : ℕ) → List Reply → Type 0
Held c [] = Unit {0}
Held c (r ∷ rs) = (capacity_for r ≤ c) × Held c rs
