-- The session calls, and the messages that each writes.
-- Assumes nothing.
use Rattle.std.specs.Prelude.{ℕ, zero, suc, List, [], ◌∷◌, ◌++◌, length, take, drop}
use Rattle.protocol.specs.Ids.{Dialect}
use Rattle.protocol.specs.Messages.{Request, ask, rcv2, send, snd2, chunk, done, quit, data_most, bytes_of_request}

pub data Version : Type 0 where
  v1 v2 : Version

-- `call q` is stat, stat_v2, list, list_v2, recv, recv_v2, send, send_v2, data, send_done or quit, by the request that it writes
-- (`chunk` here is all of a call's data). The others write nothing.
pub data Call : Type 0 where
  call : Request → Call
  next_entry : Version → Call
  next_chunk : Call

-- data in parts of at most 65,536, the remainder last; none of empty data (f, at least the length, ends the recursion)
abbrev pub cut_by : ℕ → List ℕ → List (List ℕ)
cut_by zero x = []
cut_by (suc f) [] = []
cut_by (suc f) (b ∷ x) = take data_most (b ∷ x) ∷ cut_by f (drop data_most (b ∷ x))

unfoldable pub cut : List ℕ → List (List ℕ)
cut x = cut_by (length x) x

abbrev pub chunks : List (List ℕ) → List Request
chunks [] = []
chunks (x ∷ xs) = chunk x ∷ chunks xs

-- the messages of a call, in order
unfoldable pub messages : Call → List Request
messages (call (ask i p)) = ask i p ∷ []
messages (call (rcv2 p f)) = rcv2 p f ∷ []
messages (call (send p m)) = send p m ∷ []
messages (call (snd2 p m f)) = snd2 p m f ∷ []
messages (call (chunk x)) = chunks (cut x)
messages (call (done t)) = done t ∷ []
messages (call quit) = quit ∷ []
messages (next_entry v) = []
messages next_chunk = []

abbrev pub joined_messages : Dialect → List Request → List ℕ
joined_messages d [] = []
joined_messages d (q ∷ qs) = bytes_of_request d q ++ joined_messages d qs

-- ---- a call as it is made: "the moment is part of a push start" (document 02, [10]); of other calls it does not count

pub record Made : Type 0 where
  pub call : Call
  pub moment : ℕ

abbrev pub calls_of : List Made → List Call
calls_of [] = []
calls_of (m ∷ ms) = m.call ∷ calls_of ms

-- where there are no hours: every moment will do, and this is one
abbrev pub anytime : Call → Made
anytime q = record { call = q; moment = 0 }

abbrev pub anytimes : List Call → List Made
anytimes [] = []
anytimes (q ∷ qs) = anytime q ∷ anytimes qs
