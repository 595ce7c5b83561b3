-- Document 01's trial pieces as one table: what the definitions compute beside what the paper says. `proofs/Trials.antt` shows that
-- the two columns are equal.
-- Assumes nothing.
use Rattle.std.specs.Prelude.{ℕ, Bool, true, false, List, [], ◌∷◌, ◌++◌, length}
use Rattle.std.proofs.Math.Option.{none}
use Rattle.protocol.specs.Answers as A
use Rattle.protocol.specs.Answers.{Answer, error}
use Rattle.protocol.specs.Bytes.{ascii}
use Rattle.protocol.specs.Calls.{Call, call, next_chunk, anytimes}
use Rattle.protocol.specs.Features.{has_feature}
use Rattle.protocol.specs.Flags.{refused_flags}
use Rattle.protocol.specs.Ids.{published}
use Rattle.protocol.specs.Messages.{Request, ask, stat, recv, rcv2, send, snd2, bytes_of_request, message_of}
use Rattle.protocol.specs.Reader.{Config, Reply, accepted, plain_call, plain_answers}

-- what a trial piece shows: bytes, or a size and an arg, or yes or no, or an answer with what it leaves unread
pub data Shown : Type 0 where
  bytes : List ℕ → Shown
  sizes : (size arg : ℕ) → Shown
  said : Bool → Shown
  answered : Reply → Shown
  answers : List Answer → Shown

pub record Trial : Type 0 where
  pub computed : Shown
  pub paper : Shown

abbrev pub written : Request → List ℕ → Trial
written q s = record { computed = bytes (bytes_of_request published q); paper = bytes s }

abbrev pub measured : Request → (size arg : ℕ) → Trial
measured q size arg = record { computed = sizes (length (bytes_of_request published q)) (message_of published q).arg; paper = sizes size arg }

abbrev pub banner : (text name : List ℕ) → Bool → Trial
banner text name has = record { computed = said (has_feature text name); paper = said has }

-- whether 9 turns these flags away on a pull, or on a push
abbrev pub flags : (pull : Bool) → (word : ℕ) → Bool → Trial
flags pull word refused = record { computed = said (refused_flags pull word); paper = said refused }

-- a session with that capacity
abbrev pub holding : ℕ → Config
holding c = record { setting = record { dialect = published; features = []; ended = false }; capacity = c; close = accepted }

-- what the call answers on these unread bytes, and what it leaves
abbrev pub reads : (capacity : ℕ) → Call → (unread : List ℕ) → Answer → (left : List ℕ) → Trial
reads c q u a left = record { computed = answered (plain_call (holding c) (error 0) accepted q u); paper = answered (record { answer = a; unread = left }) }

-- what a list of calls answers on them
abbrev pub reads_on : (capacity : ℕ) → List Call → (unread : List ℕ) → List Answer → Trial
reads_on c qs u list = record { computed = answers (plain_answers none (holding c) (error 0) (anytimes qs) u); paper = answers list }

abbrev pub stat_reply : List ℕ
stat_reply = ascii "STAT" ++ 0xA4 ∷ 0x81 ∷ 0 ∷ 0 ∷ 0xCE ∷ 0x07 ∷ 0 ∷ 0 ∷ 5 ∷ 0 ∷ 0 ∷ 0 ∷ []

abbrev pub trials : List Trial
trials =
    written (ask stat (ascii "/a")) (0x53 ∷ 0x54 ∷ 0x41 ∷ 0x54 ∷ 0x02 ∷ 0x00 ∷ 0x00 ∷ 0x00 ∷ 0x2F ∷ 0x61 ∷ [])
    ∷ written (ask recv []) (ascii "RECV" ++ 0 ∷ 0 ∷ 0 ∷ 0 ∷ [])
    ∷ measured (ask recv []) 8 0
    ∷ measured (send (ascii "/j") 33188) 16 8
    ∷ written (send (ascii "/j") 33188) (ascii "SEND" ++ 8 ∷ 0 ∷ 0 ∷ 0 ∷ [] ++ ascii "/j,33188")
    ∷ written (send (ascii "/j") 0) (ascii "SEND" ++ 4 ∷ 0 ∷ 0 ∷ 0 ∷ [] ++ ascii "/j,0")
    ∷ measured (rcv2 (ascii "/a") 0) 18 2
    ∷ measured (snd2 (ascii "/a") 33188 0) 22 2
    ∷ written (rcv2 (ascii "/a") 8) (ascii "RCV2" ++ 2 ∷ 0 ∷ 0 ∷ 0 ∷ [] ++ ascii "/aRCV2" ++ 8 ∷ 0 ∷ 0 ∷ 0 ∷ [])
    ∷ banner (ascii "features=a;features=b") (ascii "b") false
    ∷ banner (ascii "features=a;features=b") (ascii "a") true
    ∷ banner (ascii "features=a;features=b") (ascii "features=b") true
    ∷ flags true 3 true
    ∷ flags false 3 true
    ∷ flags true 0x8000_0000 true
    ∷ flags false 0x8000_0000 false
    ∷ flags false 8 true
    ∷ flags true 4 false
    ∷ reads 16 (call (ask stat (ascii "/a"))) stat_reply (A.stat (record { mode = 33188; size = 1998; mtime = 5 })) []
    ∷ reads 15 (call (ask stat (ascii "/a"))) stat_reply A.too_large stat_reply
    ∷ reads 8 next_chunk (ascii "DATA" ++ 0 ∷ 0 ∷ 0 ∷ 0 ∷ [] ++ ascii "DONE") (A.chunk []) (ascii "DONE")
    ∷ reads 8 next_chunk (ascii "DATA" ++ 1 ∷ 0 ∷ 0 ∷ 0 ∷ [] ++ ascii "x") A.too_large (ascii "DATA" ++ 1 ∷ 0 ∷ 0 ∷ 0 ∷ [] ++ ascii "x")
    ∷ reads_on 8 (next_chunk ∷ next_chunk ∷ []) (ascii "DATA" ++ 1 ∷ 0 ∷ 0 ∷ 0 ∷ [] ++ ascii "x") (A.too_large ∷ A.too_large ∷ [])
    ∷ reads 8 next_chunk (ascii "FAIL" ++ 20 ∷ 0 ∷ 0 ∷ 0 ∷ [] ++ ascii "no such file or dir!DONE") (A.fail (ascii "no such ")) (ascii "DONE")
    ∷ []
