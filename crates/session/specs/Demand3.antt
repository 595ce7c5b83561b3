-- Demand 3, sentence by sentence, of any system: an engine and how a session is opened on it.
-- Assumes nothing.
use Rattle.std.specs.Prelude.{ℕ, ◌≤◌, ◌<◌, ◌^◌, Bool, true, false, List, [], ◌∷◌, ◌++◌, ◌≡◌, length, get_or}
use Rattle.std.proofs.Math.Option.{Option, none, some}
use Rattle.protocol.specs.Answers as A
use Rattle.protocol.specs.Answers.{Answer, End, closed, error}
use Rattle.protocol.specs.Bytes.{Bytes}
use Rattle.protocol.specs.Calls.{Call, call, next_entry, next_chunk, Made}
use Rattle.protocol.specs.Features.{features_of}
use Rattle.protocol.specs.Hours.{Hours, Kept}
use Rattle.protocol.specs.Ids.{Table, under, Legal}
use Rattle.protocol.specs.Messages.{ask, rcv2, send, snd2, chunk, done, quit, joined}
use Rattle.protocol.specs.Reader.{Config, Report, accepted, broke, config_after, plain_made, writes_made, plain_answers, plain_writes, is_quit}
use Rattle.protocol.specs.Records.{arg_at}
use Rattle.protocol.specs.Refusal.{turned}
use Rattle.protocol_readers.specs.Wider.{Unstopped, Like}
use Rattle.session.specs.Faithful.{AllAtNeeds, closes_for}
use Rattle.session.specs.Host.{Spare, Engine, Ask, World, Host, Entry, at_start, log_of}

-- What a session is opened with: the banner, a table of ids that loading accepts (document 02, [9]), and hours that loading accepts, or none ([10]).
pub record Opening : Type 0 where
  pub banner : List ℕ
  pub table : Table
  pub legal : Legal table
  pub hours : Option Hours
  pub kept : Kept hours

-- an engine, and the opening of a session on it: an answer's number, 0 for done, and the session
pub record Opened (X : Type 0) : Type 0 where
  pub number : ℕ
  pub x : X

-- `place`: what may stand where the session is put; `lends`: what a step may be lent besides
pub record System (X : Type 0) : Type 1 where
  pub engine : Engine X
  pub opened : X → Opening → (rx msg : List ℕ) → Opened X
  pub place : X → Type 0
  pub lends : Spare → Type 0

-- an error's code has 32 bits
abbrev pub Coded : End → Type 0
Coded closed = Unit {0}
Coded (error c) = c < 0x1_0000_0000

abbrev pub CodedFault : Option End → Type 0
CodedFault none = Unit {0}
CodedFault (some e) = Coded e

abbrev pub CodedReport : Report → Type 0
CodedReport accepted = Unit {0}
CodedReport (broke e) = Coded e

-- a call's numbers have 32 bits, and the length of what it lends 64
abbrev pub Wide : Call → Type 0
Wide (call (ask i p)) = length p < 2 ^ 64
Wide (call (rcv2 p f)) = (length p < 2 ^ 64) × (f < 0x1_0000_0000)
Wide (call (send p m)) = (length p < 2 ^ 64) × (m < 0x1_0000_0000)
Wide (call (snd2 p m f)) = (length p < 2 ^ 64) × ((m < 0x1_0000_0000) × (f < 0x1_0000_0000))
Wide (call (chunk x)) = length x < 2 ^ 64
Wide (call (done t)) = t < 0x1_0000_0000
Wide (call quit) = Unit {0}
Wide (next_entry v) = Unit {0}
Wide next_chunk = Unit {0}

-- .. and a moment has 32 bits
abbrev pub AllWide : List Made → Type 0
AllWide [] = Unit {0}
AllWide (m ∷ ms) = (Wide m.call × (m.moment < 0x1_0000_0000)) × AllWide ms

-- One side: what stood in the session's place; both buffers, holding any bytes, on lengths that opening takes (no slice has 2^63 bytes);
-- a host that accepts every write and makes any counts, leaving any bytes in the rest of each window, and lends at each step what it likes
-- besides; the incoming bytes, and no fault of a read before their end.
pub record Side {X : Type 0} (S : System X) (c : ℕ) (close : Report) : Type 0 where
  pub x : X
  pub placed : S.place x
  pub rx : List ℕ
  pub msg : List ℕ
  pub host : Host
  pub incoming : List ℕ
  pub capacity : length rx ≡ c
  pub room : c ≤ length msg
  pub wide : length msg < 2 ^ 63
  pub bytes : Bytes incoming
  pub accepts : (i : ℕ) → host.writes i ≡ accepted
  pub reads : (i : ℕ) → host.fails i ≡ none
  pub lends : (w : World) → S.lends (host.spare w)
  pub closes : host.close ≡ close
  pub coded : Coded host.end

-- the plain reader for a session: its capacity, banner and table, the close report
abbrev pub reader : Opening → ℕ → Report → Config
reader o c close = record { setting = record { dialect = under o.table; features = features_of o.banner; ended = false }; capacity = c; close = close }

-- the log of the calls, from the session that opening leaves
abbrev pub log_from : {X : Type 0} {c : ℕ} {close : Report} (S : System X) → Opening → List Made → Side S c close → List Entry
log_from S o ms a = log_of S.engine a.host ms (at_start a.incoming) (S.opened a.x o a.rx a.msg).x a.rx a.msg

abbrev pub answers_of : List Entry → List Answer
answers_of [] = []
answers_of (e ∷ es) = e.answer ∷ answers_of es

abbrev pub written_of : List Entry → List ℕ
written_of [] = []
written_of (e ∷ es) = joined e.pieces ++ written_of es

-- a call that the hours turned away reads nothing
abbrev pub AsksAt : (turned : Bool) → Config → Call → List ℕ → List (List ℕ) → List Ask → Type 0
AsksAt true g q v ps asks = asks ≡ []
AsksAt false g q v ps asks = AllAtNeeds g accepted q v ps asks

-- In every call each read stands at a need, behind all that the call writes, and what the call leaves unread is what the plain
-- reader leaves.
abbrev pub ReadsAt : Option Hours → Config → End → List Made → List ℕ → List Entry → Type 0
ReadsAt h g e [] v es = Unit {0}
ReadsAt h g e (m ∷ ms) v [] = ⊥
ReadsAt h g e (m ∷ ms) v (x ∷ xs) =
    AsksAt (turned h g.setting m) g m.call v x.pieces x.asks
    × ((joined x.pieces ≡ writes_made h g m) × ((x.unread ≡ (plain_made h g e m v).unread) × ReadsAt h (config_after g m.call) e ms x.unread xs))

-- one close for a quit that is not refused, behind what it writes, and no other
abbrev pub ClosesAt : Config → List Made → List Entry → Type 0
ClosesAt g [] es = Unit {0}
ClosesAt g (m ∷ ms) [] = ⊥
ClosesAt g (m ∷ ms) (x ∷ xs) = (x.closes ≡ closes_for (is_quit m.call) g.setting.ended x.pieces) × ClosesAt (config_after g m.call) ms xs

-- the k-th answer of a log
abbrev pub nth : List Entry → ℕ → Answer
nth es k = get_or (answers_of es) k A.done

abbrev pub unreads : List Entry → List (List ℕ)
unreads [] = []
unreads (e ∷ es) = e.unread ∷ unreads es

-- the length of the FAIL that the k-th call would meet: the arg of what is unread before it
abbrev pub fail_length : List ℕ → List Entry → ℕ → ℕ
fail_length incoming es k = arg_at (get_or (incoming ∷ unreads es) k [])

module _ {X : Type 0} (S : System X) (o : Opening) (close : Report) (ms : List Made) (c d : ℕ) (a : Side S c close) (b : Side S d close) where
  abbrev log_a : List Entry
  log_a = log_from S o ms a

  abbrev log_b : List Entry
  log_b = log_from S o ms b

  pub record Demand3 : Type 0 where
    -- "Sessions A and B, with one banner", one table ([9]: "two sessions that are compared .. have one table") and "equal hours and moments" ([10]), "make the list from fresh, on receive buffers of c and d bytes"
    pub opens_a : (S.opened a.x o a.rx a.msg).number ≡ 0
    pub opens_b : (S.opened b.x o b.rx b.msg).number ≡ 0
    -- "every call ends"
    pub ends_a : length log_a ≡ length ms
    pub ends_b : length log_b ≡ length ms
    -- "each session reads only where document 01's plain reader for it says"
    pub reads_a : ReadsAt o.hours (reader o c close) a.host.end ms a.incoming log_a
    pub reads_b : ReadsAt o.hours (reader o d close) b.host.end ms b.incoming log_b
    -- "its answers .. equal that reader's"
    pub answers_a : answers_of log_a ≡ plain_answers o.hours (reader o c close) a.host.end ms a.incoming
    pub answers_b : answers_of log_b ≡ plain_answers o.hours (reader o d close) b.host.end ms b.incoming
    -- ".. and bytes written"
    pub written_a : written_of log_a ≡ plain_writes o.hours (reader o c close) ms
    pub written_b : written_of log_b ≡ plain_writes o.hours (reader o d close) ms
    pub closes_a : ClosesAt (reader o c close) ms log_a
    pub closes_b : ClosesAt (reader o d close) ms log_b
    -- "B writes what A writes"
    pub same_writes : written_of log_b ≡ written_of log_a
    -- "Before A's first answer 12, 13 or 17 B gives A's answers; only where A's FAIL text is cut, B's text begins with A's instead"
    pub before : (k : ℕ) → k < length ms → Unstopped (answers_of log_a) k → Like c (fail_length a.incoming log_a k) (nth log_a k) (nth log_b k)
    -- a FAIL text is cut where its length is over c, and only there
    pub uncut : (k : ℕ) → k < length ms → Unstopped (answers_of log_a) k → fail_length a.incoming log_a k ≤ c → nth log_a k ≡ nth log_b k
    -- "With c = d, equal bytes and equal error, all their answers are equal"
    pub same : c ≡ d → a.incoming ≡ b.incoming → a.host.end ≡ b.host.end → answers_of log_a ≡ answers_of log_b

-- ---- how many bytes come, and how many the plain reader writes: nothing is asked of them, or that each stays below a limit (document 02, [7]:
-- "Sessions compared, with each other or with anything else .. are ones whose totals stay below that")

abbrev pub Bound : Type 1
Bound = (coming writing : ℕ) → Type 0

abbrev pub unbounded : Bound
unbounded coming writing = Unit {0}

abbrev pub below : ℕ → Bound
below limit coming writing = (coming < limit) × (writing < limit)

abbrev pub Within : Bound → Option Hours → Config → List Made → (incoming : List ℕ) → Type 0
Within W h g ms incoming = W (length incoming) (length (plain_writes h g ms))

-- The claim: any banner, any table and hours that loading accepts, any close report, any list of calls at any moments, any capacities 8 ≤ c ≤ d, any two sides within the bound, B's
-- incoming bytes beginning with A's.
abbrev pub Claim : {X : Type 0} → Bound → System X → Type 0
Claim {X} W S =
    (o : Opening) (close : Report) (ms : List Made) (c d : ℕ) → 8 ≤ c → c ≤ d → CodedReport close → AllWide ms
    → (a : Side S c close) (b : Side S d close) (more : List ℕ) → b.incoming ≡ a.incoming ++ more
    → Within W o.hours (reader o c close) ms a.incoming → Within W o.hours (reader o d close) ms b.incoming
    → Demand3 S o close ms c d a b
