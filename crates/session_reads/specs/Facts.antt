-- The count of a log, on logs of two stats: how many reads each made and how long they were, in turn; which logs have the plain reader's counts; the ceiling.
-- Assumes nothing.
use Rattle.std.specs.Prelude.{ℕ, false, List, [], ◌∷◌, ◌++◌, replicate}
use Rattle.std.proofs.Math.Option as Option
use Rattle.protocol.specs.Answers as A
use Rattle.protocol.specs.Answers.{Answer, closed, error}
use Rattle.protocol.specs.Bytes.{ascii}
use Rattle.protocol.specs.Calls.{Call, call, anytimes}
use Rattle.protocol.specs.Fact.{Fact}
use Rattle.protocol.specs.Ids.{published}
use Rattle.protocol.specs.Messages.{ask, stat, quit}
use Rattle.protocol.specs.Reader.{Config, accepted}
use Rattle.session.specs.Host.{Ask, Stop, Entry}
use Rattle.session_reads.specs.Counted.{reads_in, lengths_of, counts_of, Counted, UnderCeiling}

-- ---- reads and their lengths

-- a read that brought n bytes, or came to an error where it brought none
abbrev read : (brought : ℕ) → Ask
read n = record { rest = []; holds = []; at = 0; len = 0; before = []; brought = n }

abbrev entry : Answer → List Ask → Option.Option Stop → (unread : List ℕ) → Entry
entry a xs s u =
    record {
      held = [];
      tail = 0;
      msg = [];
      answer = a;
      asks = xs;
      pieces = [];
      broken = [];
      composed = [];
      closes = [];
      stopped = s;
      unread = u;
      ends = 0;
      kept = [];
    }

-- the reads of an entry stand the last first: 3, 5 and one that came to an error; then 7
abbrev log : List Entry
log = entry A.done (read 0 ∷ read 5 ∷ read 3 ∷ []) Option.none [] ∷ entry A.done (read 7 ∷ []) Option.none [] ∷ entry A.done [] Option.none [] ∷ []

abbrev row : {A : Type 0} → A → A → Fact A
row c p = record { computed = c; paper = p }

abbrev pub reads : List (Fact (List ℕ))
reads = row (counts_of log) (2 ∷ 1 ∷ 0 ∷ []) ∷ row (lengths_of log []) (3 ∷ 5 ∷ 7 ∷ []) ∷ row (lengths_of log (2 ∷ 9 ∷ [])) (3 ∷ 5 ∷ 7 ∷ 2 ∷ 9 ∷ []) ∷ row (reads_in (read 0 ∷ []) ∷ []) (0 ∷ []) ∷ []

-- ---- the plain reader's counts

abbrev config : Config
config = record { setting = record { dialect = published; features = []; ended = false }; capacity = 16; close = accepted }

abbrev stats : Call
stats = call (ask stat (ascii "/a"))

abbrev reply : List ℕ
reply = ascii "STAT" ++ replicate 12 1

-- two stats with these reads; there are lengths for two reads more, and none is made
abbrev twice : (first second : List Ask) → List Entry
twice xs ys = entry A.done xs Option.none reply ∷ entry A.done ys Option.none [] ∷ []

abbrev Counts : (lengths : List ℕ) → List Entry → Type 0
Counts ks es = Counted Option.none config (anytimes (stats ∷ stats ∷ [])) (reply ++ reply) 0 (ks ++ 1 ∷ 1 ∷ []) (1 ∷ 1 ∷ []) es

-- a stat whose second read comes to a fault with 13 bytes to come, and one that goes on with them
abbrev stumbled : List Entry
stumbled =
    entry (A.broken (error 5)) (read 0 ∷ read 3 ∷ []) (Option.some (record { fault = error 5; rest = replicate 13 1 })) reply
    ∷ entry A.done (read 13 ∷ []) Option.none [] ∷ []

-- two stats that answer 15, the first with these reads, of a header that neither takes
abbrev foreign : List ℕ
foreign = ascii "QUIT" ++ replicate 4 0

abbrev Strange : (lengths : List ℕ) → List Ask → Type 0
Strange ks xs =
    Counted Option.none config (anytimes (stats ∷ stats ∷ [])) foreign 0 (ks ++ 1 ∷ 1 ∷ []) (1 ∷ 1 ∷ [])
    (entry (A.unexpected (ascii "QUIT")) xs Option.none foreign ∷ entry (A.unexpected (ascii "QUIT")) [] Option.none foreign ∷ [])

-- a stat whose write came to a fault
abbrev unwritten_stat : Entry
unwritten_stat =
    record {
      held = [];
      tail = 0;
      msg = [];
      answer = A.broken (error 5);
      asks = [];
      pieces = [];
      broken = record { piece = []; fault = error 5; before = [] } ∷ [];
      composed = [];
      closes = [];
      stopped = Option.none;
      unread = reply;
      ends = 0;
      kept = [];
    }

pub record Counting : Type 0 where
  pub in_turn : Counts (3 ∷ 13 ∷ 16 ∷ []) (twice (read 13 ∷ read 3 ∷ []) (read 16 ∷ []))
  -- one read fewer, one more; a length that no read had; the reads of the other call
  pub too_few : Counts (3 ∷ 13 ∷ 16 ∷ []) (twice (read 16 ∷ []) (read 16 ∷ [])) → ⊥
  pub too_many : Counts (3 ∷ 13 ∷ 16 ∷ []) (twice (read 13 ∷ read 3 ∷ []) (read 8 ∷ read 8 ∷ [])) → ⊥
  pub left_over : Counts (3 ∷ 13 ∷ 16 ∷ 1 ∷ []) (twice (read 13 ∷ read 3 ∷ []) (read 16 ∷ [])) → ⊥
  pub exchanged : Counts (3 ∷ 13 ∷ 16 ∷ []) (twice (read 16 ∷ []) (read 13 ∷ read 3 ∷ [])) → ⊥
  -- what came before a fault has come
  pub goes_on : Counted Option.none config (anytimes (stats ∷ stats ∷ [])) reply 0 (3 ∷ 13 ∷ 1 ∷ []) (1 ∷ []) stumbled
  -- what a call left unread is there for the next; a call whose write came to a fault reads nothing, nor does one after a quit
  pub next : Counted Option.none config (anytimes (stats ∷ stats ∷ [])) (reply ++ foreign) 0 (16 ∷ 8 ∷ 1 ∷ []) (1 ∷ [])
      (entry A.done (read 16 ∷ []) Option.none foreign ∷ entry (A.unexpected (ascii "QUIT")) (read 8 ∷ []) Option.none foreign ∷ [])
  pub unwritten : Counted Option.none config (anytimes (stats ∷ [])) reply 0 (1 ∷ []) (1 ∷ []) (unwritten_stat ∷ [])
  pub after_quit : Counted Option.none config (anytimes (call quit ∷ stats ∷ [])) reply 0 (1 ∷ []) (1 ∷ []) (entry A.done [] Option.none reply ∷ entry (A.refused 6) [] Option.none reply ∷ [])
  -- 15 once a header has come; and not once its id has, for more would have been read
  pub whole : Strange (4 ∷ 4 ∷ []) (read 4 ∷ read 4 ∷ [])
  pub early : Strange (4 ∷ []) (read 4 ∷ []) → ⊥
  -- an entry for each call
  pub missing : Counted Option.none config (anytimes (stats ∷ [])) [] 0 [] [] [] → ⊥

-- ---- the ceiling, of 8 bytes of which some are left

abbrev Under : Answer → (reads : ℕ) → (unread : List ℕ) → Type 0
Under a n u = UnderCeiling (ascii "QUIT" ++ replicate 4 0) (entry a (replicate n (read 1)) Option.none u ∷ [])

pub record Ceiling : Type 0 where
  pub reached : Under (A.unexpected (ascii "QUIT")) 8 (replicate 8 0)
  pub passed : Under (A.unexpected (ascii "QUIT")) 9 (replicate 8 0) → ⊥
  -- 12 and 13 may pass it
  pub closed_passes : Under (A.broken closed) 9 (replicate 8 0)
  pub error_passes : Under (A.broken (error 7)) 9 (replicate 8 0)
  -- what was consumed counts
  pub consumed : Under A.done 16 []
  pub over_consumed : Under A.done 17 [] → ⊥
  -- the next call is under it from what this one left
  pub next : UnderCeiling (replicate 16 0) (entry A.done [] Option.none (replicate 8 0) ∷ entry A.too_large (replicate 8 (read 1)) Option.none (replicate 8 0) ∷ [])
  pub next_passed : UnderCeiling (replicate 16 0) (entry A.done [] Option.none (replicate 8 0) ∷ entry A.too_large (replicate 9 (read 1)) Option.none (replicate 8 0) ∷ []) → ⊥
