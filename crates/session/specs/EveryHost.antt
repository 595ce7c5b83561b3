-- What is claimed of a system against every host, also one whose reads, writes and close come to faults.
-- Assumes nothing.
use Rattle.std.specs.Prelude.{ℕ, ◌≤◌, ◌<◌, ◌^◌, List, ◌≡◌, length}
use Rattle.protocol.specs.Bytes.{Bytes}
use Rattle.protocol.specs.Calls.{Made}
use Rattle.session.specs.Demand3.{Opening, System, Coded, CodedFault, CodedReport, AllWide, reader, Bound, Within}
use Rattle.session.specs.Faithful.{Faithful}
use Rattle.session.specs.Host.{World, Host, at_start, log_of}

-- the codes of the host's errors have 32 bits
pub record CodedHost (h : Host) : Type 0 where
  pub reads : (i : ℕ) → CodedFault (h.fails i)
  pub writes : (i : ℕ) → CodedReport (h.writes i)
  pub close : CodedReport h.close
  pub end : Coded h.end

-- Where opening may put a session, on any buffers it takes, any banner, table and hours: it answers 0, and against any host, whatever it lends besides, with
-- any list of calls at any moments and any incoming bytes within the bound, each call of the log is the plain reader's.
abbrev pub EveryHost : {X : Type 0} → Bound → System X → Type 0
EveryHost {X} W S =
    (o : Opening) (x : X) (rx msg : List ℕ) → S.place x → 8 ≤ length rx → length rx ≤ length msg → length msg < 2 ^ 63
    → (h : Host) → CodedHost h → ((w : World) → S.lends (h.spare w)) → (ms : List Made) → AllWide ms → (incoming : List ℕ) → Bytes incoming
    → Within W o.hours (reader o (length rx) h.close) ms incoming
    → ((S.opened x o rx msg).number ≡ 0)
    × Faithful o.hours (reader o (length rx) h.close) h.end ms incoming
    (log_of S.engine h ms (at_start incoming) (S.opened x o rx msg).x rx msg)
