-- Demand 3 of the session in its record. Opened on any record of the right length, its log is the log of the core's steps from a fresh
-- session, which is the plain reader's: against a host that accepts every write, and against any other.
-- Assumes nothing.
use Prim.Native.Nat.{ℕ, ◌≤◌, ◌<◌, ◌^◌}
use mathlib.Core.List.{List}
use mathlib.Core.Path.{◌≡◌, refl, sym, subst}
use native.Mathlib.Omega.{arith}
use borrow.Author.Tests.{eq-eqb}
use lib.ListN.{length}
use Rattle.protocol.specs.Bytes.{Bytes}
use Rattle.protocol.specs.Calls.{Made}
use Rattle.protocol.specs.Ids.{Id, Table, Legal, STAT, STA2, LIST, LIS2, SEND, SND2, RECV, RCV2, DATA, DONE, OKAY, FAIL, DENT, DNT2, QUIT}
use Rattle.ids.specs.Ids.{paired, ids_of}
use Rattle.ids.proofs.Laws.{small}
use Rattle.id_table.specs.Settings.{settings_of}
use Rattle.id_table.proofs.Laws.{id-tables}
use Rattle.record.specs.Record.{stored, size}
use Rattle.record.specs.Narrow.{NarrowIds}
use Rattle.session.specs.Demand3.{Opening, AllWide, reader, unbounded, Claim}
use Rattle.session.specs.EveryHost.{CodedHost, EveryHost}
use Rattle.session.specs.Faithful.{Faithful}
use Rattle.session.specs.Host.{World, Host, at_start}
use Rattle.session.specs.Gate.{gated}
use Rattle.session.specs.State.{St}
use Rattle.session.proofs.Gated.{log_at, log-gated}
use Rattle.session.proofs.Demand3.{claimed, begins, opens, begins-good, begins-empty, begins-faithful}
use Rattle.boundary.specs.Boundary.{recorded, boundary}
use Rattle.boundary.specs.Crossing.{cross_open}
use Rattle.boundary.proofs.Logs.{log-same}
use Rattle.boundary.proofs.Steps.{Inv}

-- the numbers of a table have 64 bits
pub ids-narrow : (t : Table) → Legal t → NarrowIds (ids_of t)
ids-narrow t legal =
    record {
      stat = pair STAT STA2;
      list = pair LIST LIS2;
      send = pair SEND SND2;
      recv = pair RECV RCV2;
      «data» = pair DATA DONE;
      okay = pair OKAY FAIL;
      dent = pair DENT DNT2;
      quit = omega (arith, small t legal QUIT);
    }
  where
    pair : (i j : Id) → paired t i j < 2 ^ 64
    pair i j = omega (arith, small t legal i, small t legal j)

-- a record of the right length, and buffers that opening takes
module _ (opening : Opening) (rec rx msg : List ℕ) (placed : length rec ≡ size) (least : 8 ≤ length rx) (room : length rx ≤ length msg) (wide : length msg < 2 ^ 63) where
  abbrev start : St
  start = begins opening rx msg least room

  inv-start : Inv start
  inv-start =
      record {
        good = begins-good opening rx msg least room;
        wide = wide;
        lent = omega arith;
        ids = ids-narrow opening.table opening.legal;
        pending = tt;
        bytes = subst Bytes (sym (begins-empty opening rx msg least room)) (λ i. omega arith);
      }

  -- opening answers 0, and stores a fresh session
  opened : cross_open rec (settings_of opening.table) opening.banner (length rx) (length msg) ≡ record { rec = stored start.ses; number = 0 }
  unfolding cross_open
  opened = rw (opens opening rx msg least room, eq-eqb (length rec) size placed, id-tables.opens opening.table opening.legal)

  -- the log from there, behind the hours, is the core's
  recorded-faithful : (h : Host) → CodedHost h → ((w : World) → boundary.lends (h.spare w)) → (ms : List Made) → AllWide ms → (incoming : List ℕ) → Bytes incoming
      → Faithful opening.hours (reader opening (length rx) h.close) h.end ms incoming (log_at recorded opening.hours h ms (at_start incoming) (stored start.ses) rx msg)
  recorded-faithful h z lends ms v incoming b =
      rw (log-same h z lends opening.hours ms (at_start incoming) start inv-start b v) (begins-faithful opening rx msg least room h ms incoming)

-- Any host, also one whose reads, writes and close come to faults: each call of the log is the plain reader's.
pub every_host : EveryHost unbounded (gated boundary)
every_host opening rec rx msg placed least room wide h z lends ms v incoming b within =
    rw (opened opening rec.x rx msg placed least room wide) (
      refl,
      rw (log-gated recorded opening.hours h ms (at_start incoming) (stored (start opening rec.x rx msg placed least room wide).ses) rx msg)
          (recorded-faithful opening rec.x rx msg placed least room wide h z lends ms v incoming b),
    )

pub demand_3 : Claim unbounded (gated boundary)
demand_3 = claimed unbounded (gated boundary) every_host
