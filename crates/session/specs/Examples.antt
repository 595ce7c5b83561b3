-- Facts on logs: one that the claim of every host takes, and logs with one thing wrong, none of which it takes. A stat of "/t", with a capacity
-- of 16, of a panel that answers at once; and pieces, windows and messages by themselves. By document 01's "The plain reader" and sync.rs.
-- Assumes nothing.
use Rattle.std.specs.Prelude.{ℕ, ◌<◌, ◌^◌, false, List, [], ◌∷◌, ◌++◌, map, length, take, drop, replicate}
use Rattle.std.proofs.Math.Option as Option
use Rattle.protocol.specs.Answers as A
use Rattle.protocol.specs.Answers.{Answer, End, closed, error}
use Rattle.protocol.specs.Bytes.{ascii}
use Rattle.protocol.specs.Calls.{v1, v2, Call, call, next_entry, next_chunk, Made, anytime}
use Rattle.protocol.specs.Hours.{Hours}
use Rattle.protocol.specs.Ids.{published}
use Rattle.protocol.specs.Messages.{ask, stat, sta2, list, lis2, recv, rcv2, send, snd2, chunk, done, quit}
use Rattle.protocol.specs.Reader.{Config, accepted, broke}
use Rattle.session.specs.Demand3.{Coded, CodedReport, AllWide}
use Rattle.session.specs.Faithful.{AllAtNeeds, Accepted, Composed, AsReader, Faithful}
use Rattle.session.specs.Host.{Ask, Broken, Stop, Entry}

abbrev config : Config
config = record { setting = record { dialect = published; features = []; ended = false }; capacity = 16; close = accepted }

abbrev stat_call : Call
stat_call = call (ask stat (ascii "/t"))

abbrev message : List ℕ
message = ascii "STAT" ++ 2 ∷ 0 ∷ 0 ∷ 0 ∷ [] ++ ascii "/t"

abbrev pub incoming : List ℕ
incoming = ascii "STAT" ++ 1 ∷ 0 ∷ 0 ∷ 0 ∷ 2 ∷ 0 ∷ 0 ∷ 0 ∷ 3 ∷ 0 ∷ 0 ∷ 0 ∷ []

abbrev found : Answer
found = A.stat (record { mode = 1; size = 2; mtime = 3 })

-- a read asked with these bytes still to come, those held, a window, the pieces before it, what it brought
abbrev asking : (rest holds : List ℕ) → (at len : ℕ) → (before : List (List ℕ)) → (brought : ℕ) → Ask
asking rest holds at len before brought = record { rest = rest; holds = holds; at = at; len = len; before = before; brought = brought }

-- two reads, of 5 bytes and of 11
abbrev first : Ask
first = asking incoming [] 0 16 (message ∷ []) 5

abbrev second : Ask
second = asking (drop 5 incoming) (take 5 incoming) 5 11 (message ∷ []) 11

abbrev kept : List ℕ
kept = replicate 20 7

abbrev entry : Answer → List Ask → (pieces : List (List ℕ)) → (composed : List ℕ) → (closes : List (List (List ℕ))) → (unread : List ℕ) → (ends : ℕ) → (after : List ℕ)
    → Entry
entry answer asks pieces composed closes unread ends after =
    record {
      held = [];
      tail = 0;
      msg = kept;
      answer = answer;
      asks = asks;
      pieces = pieces;
      broken = [];
      composed = composed;
      closes = closes;
      stopped = Option.none;
      unread = unread;
      ends = ends;
      kept = after;
    }

-- a header that a stat does not take, and a log of it: 15 with these reads
abbrev pub foreign : List ℕ
foreign = ascii "QUIT" ++ 0 ∷ 0 ∷ 0 ∷ 0 ∷ []

abbrev Strange : List Ask → (ends : ℕ) → Type 0
Strange xs n = AsReader config (error 7) stat_call foreign (entry (A.unexpected (ascii "QUIT")) xs (message ∷ []) (0 ∷ []) [] foreign n kept)

abbrev half_header : Ask
half_header = asking foreign [] 0 16 (message ∷ []) 4

abbrev whole_header : Ask
whole_header = asking (drop 4 foreign) (take 4 foreign) 4 12 (message ∷ []) 4

abbrev Right : Entry → Type 0
Right x = AsReader config (error 7) stat_call incoming x

abbrev Wrong : Entry → Type 0
Wrong x = Right x → ⊥

abbrev reads : List Ask
reads = second ∷ first ∷ []

-- reads that no session makes: before the message is out; with all 16 bytes held; into half a window; of no bytes; once more, after one that
-- came to the end error; into a window that is not behind what is held
abbrev early : Ask
early = asking incoming [] 0 16 [] 16

abbrev sated : Ask
sated = asking [] incoming 0 16 (message ∷ []) 0

abbrev half : Ask
half = asking incoming [] 0 8 (message ∷ []) 8

abbrev none : Ask
none = asking incoming [] 16 0 (message ∷ []) 0

abbrev elsewhere : Ask
elsewhere = asking incoming [] 3 13 (message ∷ []) 13

-- the end error came, and it is asked for again
abbrev ended : Ask
ended = asking [] (ascii "STAT") 4 12 (message ∷ []) 0

-- each call, with these arguments
abbrev each_call : List ℕ → (m f : ℕ) → List Call
each_call p m f =
    call (ask stat p) ∷ call (ask sta2 p) ∷ call (ask list p) ∷ call (ask lis2 p) ∷ call (ask recv p) ∷ call (rcv2 p f) ∷ call (send p m) ∷ call (snd2 p m f)
    ∷ call (chunk p) ∷ call (done m) ∷ call quit
    ∷ next_entry v1 ∷ next_entry v2 ∷ next_chunk
    ∷ []

abbrev at : ℕ → Call → Made
at t q = record { call = q; moment = t }

-- "a start outside the hours is 25 .. before any write" (document 02, [10]): a push where no moment will do, and a log of it
abbrev Pushed : Option.Option Hours → Entry → Type 0
Pushed h x = Faithful h config (error 7) (at 0 (call (send (ascii "/t") 1)) ∷ []) incoming (x ∷ [])

abbrev NotAway : Entry → Type 0
NotAway x = Pushed (Option.some []) x → ⊥

abbrev away : Entry
away = entry (A.refused 25) [] [] [] [] incoming 0 kept

abbrev push_message : List ℕ
push_message = ascii "SEND" ++ 4 ∷ 0 ∷ 0 ∷ 0 ∷ ascii "/t,1"

abbrev pushed : Entry
pushed = entry A.done [] (push_message ∷ []) (0 ∷ []) [] incoming 0 kept

-- .. with a write that came to a fault, a read that did
abbrev stumbling : List Broken → Option.Option Stop → Entry
stumbling b s =
    record {
      held = [];
      tail = 0;
      msg = kept;
      answer = A.refused 25;
      asks = [];
      pieces = [];
      broken = b;
      composed = [];
      closes = [];
      stopped = s;
      unread = incoming;
      ends = 0;
      kept = kept;
    }

pub record Examples : Type 0 where
  pub right : Right (entry found reads (message ∷ []) (0 ∷ []) [] [] 16 kept)
  -- one thing wrong
  pub answer : Wrong (entry A.done reads (message ∷ []) (0 ∷ []) [] [] 16 kept)
  pub unread : Wrong (entry found reads (message ∷ []) (0 ∷ []) [] (1 ∷ []) 16 kept)
  pub unwritten : Wrong (entry found reads [] (0 ∷ []) [] [] 16 kept)
  pub pieces : Wrong (entry found reads (take 8 message ∷ drop 8 message ∷ []) (0 ∷ []) [] [] 16 kept)
  pub composed : Wrong (entry found reads (message ∷ []) (1 ∷ []) [] [] 16 kept)
  pub closes : Wrong (entry found reads (message ∷ []) (0 ∷ []) ([] ∷ []) [] 16 kept)
  pub ends : Wrong (entry found reads (message ∷ []) (0 ∷ []) [] [] 15 kept)
  pub kept_bytes : Wrong (entry found reads (message ∷ []) (0 ∷ []) [] [] 16 (8 ∷ replicate 19 7))
  pub reads_too_few : Wrong (entry found (first ∷ []) (message ∷ []) (0 ∷ []) [] [] 5 kept)
  pub no_reads : Wrong (entry found [] (message ∷ []) (0 ∷ []) [] [] 0 kept)
  -- 15 once a header has come, and not before: its id alone is not enough
  pub fifteen : Strange (whole_header ∷ half_header ∷ []) 8
  pub fifteen_early : Strange (half_header ∷ []) 4 → ⊥
  pub reads_early : Wrong (entry found (early ∷ []) (message ∷ []) (0 ∷ []) [] [] 16 kept)
  pub reads_sated : Wrong (entry found (sated ∷ []) (message ∷ []) (0 ∷ []) [] [] 16 kept)
  pub reads_half : Wrong (entry found (half ∷ []) (message ∷ []) (0 ∷ []) [] [] 16 kept)
  pub reads_none : Wrong (entry found (none ∷ []) (message ∷ []) (0 ∷ []) [] [] 16 kept)
  pub reads_elsewhere : Wrong (entry found (elsewhere ∷ []) (message ∷ []) (0 ∷ []) [] [] 16 kept)
  pub ended_again : AllAtNeeds config accepted stat_call (ascii "STAT") (message ∷ []) (ended ∷ ended ∷ []) → ⊥
  -- an entry for each call, and no other
  pub missing : (h : Option.Option Hours) → Faithful h config (error 7) (anytime stat_call ∷ []) incoming [] → ⊥
  pub more : (h : Option.Option Hours) → Faithful h config (error 7) [] incoming (entry found [] [] [] [] [] 0 kept ∷ []) → ⊥
  -- outside the hours 25 and nothing else; within them a push goes out
  pub turned : Pushed (Option.some []) away
  pub let_in : Pushed Option.none pushed
  pub turned_within : Pushed Option.none away → ⊥
  pub let_in_outside : NotAway pushed
  pub turned_answer : NotAway (entry (A.refused 24) [] [] [] [] incoming 0 kept)
  pub turned_unread : NotAway (entry (A.refused 25) [] [] [] [] (drop 1 incoming) 0 kept)
  pub turned_reads : NotAway (entry (A.refused 25) (asking incoming [] 0 16 [] 0 ∷ []) [] [] [] incoming 0 kept)
  pub turned_writes : NotAway (entry (A.refused 25) [] (push_message ∷ []) [] [] incoming 0 kept)
  pub turned_broken : NotAway (stumbling (record { piece = push_message; fault = closed; before = [] } ∷ []) Option.none)
  pub turned_composed : NotAway (entry (A.refused 25) [] [] (0 ∷ []) [] incoming 0 kept)
  pub turned_closes : NotAway (entry (A.refused 25) [] [] [] ([] ∷ []) incoming 0 kept)
  pub turned_stopped : NotAway (stumbling [] (Option.some (record { fault = closed; rest = incoming })))
  pub turned_ends : NotAway (entry (A.refused 25) [] [] [] [] incoming 1 kept)
  pub turned_kept : NotAway (entry (A.refused 25) [] [] [] [] incoming 0 (8 ∷ replicate 19 7))
  -- "W keeps the pieces accepted, each whole": after a fault those before it, and that piece was offered once
  pub some_accepted : Accepted (ascii "a" ∷ ascii "b" ∷ []) (ascii "a" ∷ []) [] → ⊥
  pub broken : Accepted (ascii "a" ∷ ascii "b" ∷ []) (ascii "a" ∷ []) (record { piece = ascii "b"; fault = closed; before = ascii "a" ∷ [] } ∷ [])
  pub other_piece : Accepted (ascii "a" ∷ ascii "b" ∷ []) (ascii "a" ∷ []) (record { piece = ascii "c"; fault = closed; before = ascii "a" ∷ [] } ∷ []) → ⊥
  pub other_before : Accepted (ascii "a" ∷ ascii "b" ∷ []) (ascii "a" ∷ []) (record { piece = ascii "b"; fault = closed; before = [] } ∷ []) → ⊥
  pub offered_again : (b : Broken) → Accepted (ascii "a" ∷ []) [] (b ∷ b ∷ []) → ⊥
  -- a message is composed behind the held bytes, each of a call's; DONE and QUIT are in no lent buffer
  pub behind : Composed stat_call 5 (5 ∷ 6 ∷ []) → ⊥
  pub behind_pull : Composed (call (rcv2 [] 0)) 5 (6 ∷ []) → ⊥
  pub behind_send : Composed (call (send [] 0)) 5 (6 ∷ []) → ⊥
  pub behind_send2 : Composed (call (snd2 [] 0 0)) 5 (6 ∷ []) → ⊥
  pub behind_data : Composed (call (chunk [])) 5 (5 ∷ 4 ∷ []) → ⊥
  pub done_by_value : Composed (call (done 5)) 5 (5 ∷ []) → ⊥
  pub quit_by_value : Composed (call quit) 5 (5 ∷ []) → ⊥
  pub step_by_value : Composed (next_entry v1) 5 (5 ∷ []) → ⊥
  pub chunk_by_value : Composed next_chunk 5 (5 ∷ []) → ⊥
  -- demand 3 speaks of every path and data of up to 2^64 bytes, of every mode, flag word, time and moment, and of every 32-bit code
  pub wide : (p : List ℕ) (m f t : ℕ) → length p < 2 ^ 64 → m < 2 ^ 32 → f < 2 ^ 32 → t < 2 ^ 32 → AllWide (map (at t) (each_call p m f))
  pub coded : (c : ℕ) → c < 2 ^ 32 → Coded (error c) × CodedReport (broke (error c))
  pub uncoded : Coded closed × (CodedReport (broke closed) × CodedReport accepted)
