-- The reads that each call of a log accepted: as many as the plain reader does, given how long each was; and no more than the ceiling (document 02, [8]).
-- Assumes nothing.
use Rattle.std.specs.Prelude.{ℕ, ◌+◌, ◌≤◌, ◌<◌, ◌^◌, List, [], ◌∷◌, ◌≡◌, ltb, length}
use Rattle.std.proofs.Math.Option.{Option}
use Rattle.protocol.specs.Bytes.{pick, Bytes}
use Rattle.protocol.specs.Calls.{Made}
use Rattle.protocol.specs.Hours.{Hours}
use Rattle.protocol.specs.Reader.{Config, Report, config_after}
use Rattle.protocol_reads.specs.Reads.{made_reads, plain_reads, OffLink}
use Rattle.session.specs.Demand3.{Opening, System, Side, AllWide, CodedReport, reader, log_from, Bound, Within}
use Rattle.session.specs.EveryHost.{CodedHost}
use Rattle.session.specs.Faithful.{came_of}
use Rattle.session.specs.Host.{Ask, World, Host, Entry, outcome_of, at_start, log_of}

-- "how many reads it accepted, one that reports an error not counted": those that brought bytes
abbrev pub reads_in : List Ask → ℕ
reads_in [] = 0
reads_in (a ∷ more) = reads_in more + pick (ltb 0 a.brought) 1 0

-- their lengths in turn, in front of ks; the reads asked stand the last first
abbrev pub lengths_in : List Ask → (ks : List ℕ) → List ℕ
lengths_in [] ks = ks
lengths_in (a ∷ more) ks = lengths_in more (pick (ltb 0 a.brought) (a.brought ∷ ks) ks)

-- "the given read lengths": of all reads of a log, whichever call made them, and those of reads that it does not come to
abbrev pub lengths_of : List Entry → (more : List ℕ) → List ℕ
lengths_of [] more = more
lengths_of (x ∷ xs) more = lengths_in x.asks (lengths_of xs more)

abbrev pub counts_of : List Entry → List ℕ
counts_of [] = []
counts_of (x ∷ xs) = reads_in x.asks ∷ counts_of xs

-- Each call's reads are the plain reader's: of the unread bytes v, `come` have come, and the lengths ks are of the reads to be made. In the end `more` are left: a reader
-- that would go on reading, had it another length, has one.
abbrev pub Counted : Option Hours → Config → List Made → (v : List ℕ) → (come : ℕ) → (ks more : List ℕ) → List Entry → Type 0
Counted h g [] v i ks more es = ks ≡ more
Counted h g (m ∷ ms) v i ks more [] = ⊥
Counted h g (m ∷ ms) v i ks more (x ∷ xs) =
    (reads_in x.asks ≡ (made_reads h g (outcome_of x.broken) m (came_of x.stopped v) i ks).reads)
    × Counted h (config_after g m.call) ms x.unread (made_reads h g (outcome_of x.broken) m (came_of x.stopped v) i ks).come
    (made_reads h g (outcome_of x.broken) m (came_of x.stopped v) i ks).lengths more xs

-- "every call ending in anything but 12 or 13 accepted at most 8 more reads than bytes it consumed"
abbrev pub UnderCeiling : (v : List ℕ) → List Entry → Type 0
UnderCeiling v [] = Unit {0}
UnderCeiling v (x ∷ xs) = (OffLink x.answer → reads_in x.asks + length x.unread ≤ length v + 8) × UnderCeiling x.unread xs

-- of any host, also one whose reads, writes and close come to faults
abbrev pub EveryRead : {X : Type 0} → Bound → System X → Type 0
EveryRead {X} W S =
    (o : Opening) (x : X) (rx msg : List ℕ) → S.place x → 8 ≤ length rx → length rx ≤ length msg → length msg < 2 ^ 63
    → (h : Host) → CodedHost h → ((w : World) → S.lends (h.spare w)) → (ms : List Made) → AllWide ms → (incoming : List ℕ) → Bytes incoming
    → Within W o.hours (reader o (length rx) h.close) ms incoming
    → ((more : List ℕ) → Counted o.hours (reader o (length rx) h.close) ms incoming 0
    (lengths_of (log_of S.engine h ms (at_start incoming) (S.opened x o rx msg).x rx msg) more) more
    (log_of S.engine h ms (at_start incoming) (S.opened x o rx msg).x rx msg))
    × UnderCeiling incoming (log_of S.engine h ms (at_start incoming) (S.opened x o rx msg).x rx msg)

-- nothing is held when a session is opened
abbrev pub OpensEmpty : {X : Type 0} → System X → Type 0
OpensEmpty {X} S = (o : Opening) (x : X) (rx msg : List ℕ) → S.place x → 8 ≤ length rx → length rx ≤ length msg → length msg < 2 ^ 63 → S.engine.holds (S.opened x o rx msg).x rx ≡ []

-- the same in one list, of a side of demand 3
abbrev pub SideReads : {X : Type 0} → Bound → System X → Type 0
SideReads {X} W S =
    (o : Opening) (close : Report) (ms : List Made) (c : ℕ) → 8 ≤ c → CodedReport close → AllWide ms → (a : Side S c close) → Within W o.hours (reader o c close) ms a.incoming
    → (more : List ℕ) → counts_of (log_from S o ms a) ≡ plain_reads o.hours (reader o c close) a.host.end ms a.incoming 0 (lengths_of (log_from S o ms a) more)
