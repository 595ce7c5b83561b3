-- The reads in the last reply of each call of a log: as many as the log has of the call; and on a side of demand 3, as the plain reader alone counts them
-- (document 02, [8]).
-- Assumes nothing.
use Rattle.std.specs.Prelude.{ℕ, ◌≤◌, ◌<◌, ◌^◌, List, [], map, ◌≡◌, length}
use Rattle.protocol.specs.Bytes.{Bytes}
use Rattle.protocol.specs.Calls.{Made}
use Rattle.protocol.specs.Reader.{Report}
use Rattle.protocol_reads.specs.Reads.{plain_reads}
use Rattle.session.specs.Demand3.{Opening, System, Side, AllWide, CodedReport, reader, log_from, below, Within}
use Rattle.session.specs.EveryHost.{CodedHost}
use Rattle.session.specs.Host.{Engine, World, Host, at_start, log_of}
use Rattle.session_layer.specs.Layer.{ends_of}
use Rattle.session_reads.specs.Counted.{lengths_of, counts_of}
use Rattle.boundary.specs.Crossing.{Crossed, crossed}
use Rattle.totals.specs.Card.{count_in}
use Rattle.totals.specs.Crossing.{limit}
use Rattle.totals.specs.System.{Functions, engine_by}

-- all that crossed is kept, the reply in it
abbrev pub replying : Functions → Engine Crossed
replying fs = engine_by fs (λ c. c.rec) (λ c. c)

-- a record, and no reply yet
abbrev pub no_reply : (rec : List ℕ) → Crossed
no_reply rec = crossed rec [] [] [] 0

-- "Carry in each finished call's answer how many reads it accepted, one that reports an error not counted": of the functions fs, that S is made of, any opening, any host, also
-- one whose reads, writes and close come to faults, any list of calls, refused ones among them, any incoming bytes within the bound
abbrev pub ReadsTold : Functions → System (List ℕ) → Type 0
ReadsTold fs S =
    (o : Opening) (rec rx msg : List ℕ) → S.place rec → 8 ≤ length rx → length rx ≤ length msg → length msg < 2 ^ 63
    → (h : Host) → CodedHost h → ((w : World) → S.lends (h.spare w)) → (ms : List Made) → AllWide ms → (incoming : List ℕ) → Bytes incoming
    → Within (below limit) o.hours (reader o (length rx) h.close) ms incoming
    → map count_in (ends_of (replying fs) h ms (at_start incoming) (no_reply (S.opened rec o rx msg).x) rx msg)
    ≡ counts_of (log_of (engine_by fs (λ rec. rec) (λ c. c.rec)) h ms (at_start incoming) (S.opened rec o rx msg).x rx msg)

-- the last replies of the calls of a side
abbrev pub replies_from : Functions → (S : System (List ℕ)) → {c : ℕ} {close : Report} → Opening → List Made → Side S c close → List Crossed
replies_from fs S o ms a = ends_of (replying fs) a.host ms (at_start a.incoming) (no_reply (S.opened a.x o a.rx a.msg).x) a.rx a.msg

-- "equal to the count in the reader's definition under the given read lengths": those of the side's log, and any of reads that it does not come to
abbrev pub SideTold : Functions → System (List ℕ) → Type 0
SideTold fs S =
    (o : Opening) (close : Report) (ms : List Made) (c : ℕ) → 8 ≤ c → CodedReport close → AllWide ms → (a : Side S c close)
    → Within (below limit) o.hours (reader o c close) ms a.incoming
    → (more : List ℕ) → map count_in (replies_from fs S o ms a) ≡ plain_reads o.hours (reader o c close) a.host.end ms a.incoming 0 (lengths_of (log_from S o ms a) more)
