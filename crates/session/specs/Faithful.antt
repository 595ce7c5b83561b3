-- What is claimed of every host, also of one whose reads, writes and close come to faults: each call of the log is the plain reader's.
-- Assumes nothing.
use Rattle.std.specs.Prelude.{ℕ, ◌+◌, ◌-◌, ◌≤◌, ◌<◌, min, Bool, true, false, ◌&&◌, List, [], ◌∷◌, ◌++◌, ◌≡◌, leb, ltb, length, take, drop}
use Rattle.std.proofs.Math.Option.{Option, none, some}
use Rattle.protocol.specs.Answers.{Answer, End, refused}
use Rattle.protocol.specs.Bytes.{pick, same}
use Rattle.protocol.specs.Calls.{Call, call, next_entry, next_chunk, messages, Made}
use Rattle.protocol.specs.Hours.{Hours}
use Rattle.protocol.specs.Refusal.{refusal, turned, closed_hours}
use Rattle.protocol.specs.Ids.{Dialect, FAIL}
use Rattle.protocol.specs.Messages.{Request, ask, rcv2, send, snd2, chunk, done, quit, pieces}
use Rattle.protocol.specs.Reader.{Prog, answer, need, skip, Config, Report, accepted, broke, Result, ended as out, short, plain, program, config_after, Reply, plain_call, is_quit}
use Rattle.protocol.specs.Records.{id_at, arg_at, header_size}
use Rattle.session.specs.Host.{Ask, Broken, Stop, outcome_of, Entry}

-- A read asked at a need of the plain reader, with r reported of the call's writes: of the unread bytes v the reader is given those
-- that have come, and falls short at need(n), n ≤ c; what it has unread there is what the session holds, fewer than n bytes; the
-- window is the rest of the buffer from where it starts; the call's pieces have all been written.
pub record AtNeed (g : Config) (r : Report) (q : Call) (v : List ℕ) (ps : List (List ℕ)) (a : Ask) : Type 0 where
  pub come : List ℕ
  pub n : ℕ
  pub split : v ≡ come ++ a.rest
  pub falls : plain g.capacity (program g r q) come ≡ short n a.holds
  pub fits : n ≤ g.capacity
  pub fewer : length a.holds < n
  pub window : 0 < a.len
  pub inside : a.at + a.len ≡ g.capacity
  pub behind : a.before ≡ ps

-- of the reads asked so far, the last first: the last brought some bytes
abbrev pub Brought : List Ask → Type 0
Brought [] = Unit {0}
Brought (a ∷ more) = 0 < a.brought

-- Every read asked, the last first: each at a need, and each but the last brought some bytes. A read that comes to a fault is the last of
-- the call.
abbrev pub AllAtNeeds : Config → Report → Call → List ℕ → List (List ℕ) → List Ask → Type 0
AllAtNeeds g r q v ps [] = Unit {0}
AllAtNeeds g r q v ps (a ∷ more) = AtNeed g r q v ps a × (Brought more × AllAtNeeds g r q v ps more)

-- of the unread bytes v, n of which were held when the call began, those that had come when it was over
abbrev pub came_by : ℕ → List ℕ → List Ask → List ℕ
came_by n v [] = take n v
came_by n v (a ∷ more) = take (length v - length a.rest + a.brought) v

abbrev pub comes_out : Result → Bool
comes_out (out a u) = true
comes_out (short n u) = false

-- the pieces of some messages, with `free` bytes in the free end of the buffer
abbrev pub pieces_of : Dialect → ℕ → List Request → List (List ℕ)
pieces_of d free [] = []
pieces_of d free (q ∷ qs) = pieces d free q ++ pieces_of d free qs

-- ... of a call that begins with n bytes held; none of a refused one
abbrev pub unless_pieces : Option Answer → List (List ℕ) → List (List ℕ)
unless_pieces (some a) ps = []
unless_pieces none ps = ps

abbrev pub call_pieces : Config → Call → ℕ → List (List ℕ)
call_pieces g q n = unless_pieces (refusal g.setting q) (pieces_of g.setting.dialect (g.capacity - n) (messages q))

-- "W keeps the pieces accepted, each whole": all of the call's pieces ps; or those before the one that came to a fault. That one was
-- offered once ("It never retries"), and none behind it.
abbrev pub Accepted : List (List ℕ) → List (List ℕ) → List Broken → Type 0
Accepted ps xs [] = xs ≡ ps
Accepted ps xs (b ∷ []) = (rest : List (List ℕ)) × ((ps ≡ xs ++ b.piece ∷ rest) × (b.before ≡ xs))
Accepted ps xs (b ∷ b' ∷ bs) = ⊥

-- one close for a quit that is not refused, behind the call's pieces ps, and no other
abbrev pub closes_for : (quits ended : Bool) → List (List ℕ) → List (List (List ℕ))
closes_for true false ps = ps ∷ []
closes_for true true ps = []
closes_for false ended ps = []

-- ---- where the windows lie

-- Does a call compact before it reads? "After compaction" a message goes out; "DONE and QUIT are header only, no compaction. `recv_next`
-- compacts first, `send_done` before its reply"; empty data writes nothing.
abbrev pub compacts : Report → Call → Bool
compacts r (call (ask i p)) = true
compacts r (call (rcv2 p f)) = true
compacts r (call (send p m)) = true
compacts r (call (snd2 p m f)) = true
compacts r (call (chunk [])) = false
compacts r (call (chunk (b ∷ x))) = true
compacts accepted (call (done t)) = true
compacts (broke e) (call (done t)) = false
compacts r (call quit) = false
compacts r (next_entry v) = false
compacts r next_chunk = true

-- tail then, if `held` bytes were held before it and tail was at `tail`: compaction moves held bytes to the front
abbrev pub unless_moved : Option Answer → Bool → (held tail : ℕ) → ℕ
unless_moved (some a) b held tail = tail
unless_moved none b held tail = pick b held tail

abbrev pub rests_at : Config → Report → Call → (held tail : ℕ) → ℕ
rests_at g r q held tail = unless_moved (refusal g.setting q) (compacts r q) held tail

-- "head and tail move forward with each take and fill": tail after the reads asked, the last first
abbrev pub tail_after : ℕ → List Ask → ℕ
tail_after t [] = t
tail_after t (a ∷ more) = a.at + a.brought

-- "compacting only when tail meets the end": a window begins at tail, or there behind the held bytes
abbrev pub window_at : (capacity held tail : ℕ) → ℕ
window_at c held tail = pick (ltb tail c) tail held

abbrev pub Placed : ℕ → ℕ → List Ask → Type 0
Placed c t [] = Unit {0}
Placed c t (a ∷ more) = (a.at ≡ window_at c (length a.holds) (tail_after t more)) × Placed c t more

-- ---- messages in the free end

abbrev pub AllAt : ℕ → List ℕ → Type 0
AllAt n [] = Unit {0}
AllAt n (i ∷ is) = (i ≡ n) × AllAt n is

-- "After compaction, one that fits is composed in the free end of the receive buffer, from tail on": behind the n bytes held; "DONE and
-- QUIT are header only", by value
abbrev pub Composed : Call → ℕ → List ℕ → Type 0
Composed (call (ask i p)) n is = AllAt n is
Composed (call (rcv2 p f)) n is = AllAt n is
Composed (call (send p m)) n is = AllAt n is
Composed (call (snd2 p m f)) n is = AllAt n is
Composed (call (chunk x)) n is = AllAt n is
Composed (call (done t)) n is = is ≡ []
Composed (call quit) n is = is ≡ []
Composed (next_entry v) n is = is ≡ []
Composed next_chunk n is = is ≡ []

-- ---- the message buffer

-- "The message buffer's first m bytes become the text once those have come, even if the rest never does": the text of a FAIL at the front
-- of the unread bytes v, m = min(L, c); none where there is no FAIL, or fewer have come
unfoldable pub fail_text : Dialect → ℕ → List ℕ → List ℕ
fail_text d c v =
    pick (same (id_at v) (d.bytes FAIL) && leb (header_size + min (arg_at v) c) (length v)) (take (min (arg_at v) c) (drop header_size v)) []

-- .. of a call that comes to a header
abbrev pub meets_header : Prog → Bool
meets_header (answer a) = false
meets_header (need n k) = true
meets_header (skip n p) = false

abbrev pub text_of : Config → Report → Call → List ℕ → List ℕ
text_of g r q v = pick (meets_header (program g r q)) (fail_text g.setting.dialect g.capacity v) []

-- ".. its others never alter"
abbrev pub keeping : List ℕ → List ℕ → List ℕ
keeping text msg = text ++ drop (length text) msg

-- ---- the calls

-- A call on the unread bytes v. Where a read came to a fault too early the plain reader is given the bytes that had come, and that fault
-- for its end error; the others stay unread.
abbrev pub came_of : Option Stop → List ℕ → List ℕ
came_of none v = v
came_of (some s) v = take (length v - length s.rest) v

abbrev pub reply_of : Option Stop → Config → End → Report → Call → List ℕ → Reply
reply_of none g e r q v = plain_call g e r q v
reply_of (some s) g e r q v =
    let y = plain_call g s.fault r q (came_of (some s) v) in
    record { answer = y.answer; unread = y.unread ++ s.rest }

-- a call of the log
pub record AsReader (g : Config) (e : End) (q : Call) (v : List ℕ) (x : Entry) : Type 0 where
  pub answer : x.answer ≡ (reply_of x.stopped g e (outcome_of x.broken) q v).answer
  pub unread : x.unread ≡ (reply_of x.stopped g e (outcome_of x.broken) q v).unread
  pub asks : AllAtNeeds g (outcome_of x.broken) q v x.pieces x.asks
  -- it is not over before the plain reader can be: what had come is enough for it, unless a read came to a fault
  pub settled : Brought x.asks → comes_out (plain g.capacity (program g (outcome_of x.broken) q) (came_by (length x.held) v x.asks)) ≡ true
  pub pieces : Accepted (call_pieces g q (length x.held)) x.pieces x.broken
  pub composed : Composed q (length x.held) x.composed
  pub closes : x.closes ≡ closes_for (is_quit q) g.setting.ended x.pieces
  pub windows : Placed g.capacity (rests_at g (outcome_of x.broken) q (length x.held) x.tail) x.asks
  pub ends : x.ends ≡ tail_after (rests_at g (outcome_of x.broken) q (length x.held) x.tail) x.asks
  pub kept : x.kept ≡ keeping (text_of g (outcome_of x.broken) q (came_of x.stopped v)) x.msg

-- a call that the hours turned away: 25, nothing read, written or closed, the bytes, tail and the message buffer as they were (the receive buffer: `misuse`, unchanged)
pub record Turned (v : List ℕ) (x : Entry) : Type 0 where
  pub answer : x.answer ≡ refused closed_hours
  pub unread : x.unread ≡ v
  pub asks : x.asks ≡ []
  pub pieces : x.pieces ≡ []
  pub broken : x.broken ≡ []
  pub composed : x.composed ≡ []
  pub closes : x.closes ≡ []
  pub stopped : x.stopped ≡ none
  pub ends : x.ends ≡ x.tail
  pub kept : x.kept ≡ x.msg

-- a call of the log, as it was made
abbrev pub AsMade : (turned : Bool) → Config → End → Call → List ℕ → Entry → Type 0
AsMade true g e q v x = Turned v x
AsMade false g e q v x = AsReader g e q v x

-- an entry for each call, each as the plain reader has it
abbrev pub Faithful : Option Hours → Config → End → List Made → List ℕ → List Entry → Type 0
Faithful h g e [] v [] = Unit {0}
Faithful h g e [] v (x ∷ xs) = ⊥
Faithful h g e (m ∷ ms) v [] = ⊥
Faithful h g e (m ∷ ms) v (x ∷ xs) = AsMade (turned h g.setting m) g e m.call v x × Faithful h (config_after g m.call) e ms x.unread xs
