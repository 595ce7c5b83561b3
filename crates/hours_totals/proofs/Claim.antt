-- Demand 3 of the exported functions, against any host too; and each call's reads are the plain reader's, and below the ceiling.
-- Assumes nothing.
use Prim.Native.Nat.{ℕ, ◌-◌}
use mathlib.Core.List.{List, [], ◌∷◌}
use mathlib.Core.Option.{none}
use mathlib.Core.Path.{◌≡◌, refl, ◌∙◌}
use native.Mathlib.Omega.{arith}
use lib.ListN.{length, take, replicate, length-drop, length-take}
use lib.Seq.{slice}
use Rattle.protocol.specs.Answers.{closed}
use Rattle.protocol.specs.Reader.{accepted}
use Rattle.protocol.proofs.Bodies.{pick-cases}
use Rattle.id_table.specs.Settings.{settings_of}
use Rattle.recv_buf.specs.RecvBuf.{cursor, sound, held_bytes}
use Rattle.session.specs.Demand3.{unbounded, below, Claim}
use Rattle.session.specs.EveryHost.{EveryHost}
use Rattle.session.specs.Gate.{gated}
use Rattle.session.specs.Host.{Host}
use Rattle.session.proofs.Demand3.{claimed}
use Rattle.session_layer.proofs.Claims.{narrower, carried}
use Rattle.session_reads.specs.Counted.{EveryRead, OpensEmpty, SideReads}
use Rattle.session_reads.proofs.Claims.{every_read, side_reads}
use Rattle.boundary.specs.Boundary.{boundary}
use Rattle.boundary.proofs.Demand3.{every_host}
use Rattle.totals.specs.Crossing.{limit}
use Rattle.totals.proofs.Consumed.{open_held}
use Rattle.hours_totals.specs.System.{timed_totals}
use Rattle.hours_totals.proofs.Layer.{TimedKeeps, timed-around}

-- any host, also one whose reads, writes and close come to faults
pub every_host_timed : EveryHost (below limit) timed_totals
every_host_timed =
    carried limit timed_totals (gated boundary) TimedKeeps timed-around (below limit) (λ m n h. h) (narrower (below limit) unbounded (gated boundary) (λ m n h. tt) every_host)

pub demand_3_timed : Claim (below limit) timed_totals
demand_3_timed = claimed (below limit) timed_totals every_host_timed

-- ---- nothing is held when a session is opened

none-held : (b : List ℕ) (i j : ℕ) → j - i ≡ 0 → held_bytes b (cursor i j) ≡ []
unfolding held_bytes
none-held b i j e = pick-cases (λ (l : List ℕ). l ≡ []) (sound b (cursor i j)) (λ _. none_of (slice i j b) (omega (arith, length-drop i (take j b), length-take j b))) (λ _. refl)
  where
    none_of : (l : List ℕ) → length l ≡ 0 → l ≡ []
    none_of [] f = refl
    none_of (x ∷ l) f = absurd (omega (arith, f))

-- a host that is asked nothing
abbrev idle : Host
idle =
    record {
      count = λ i. 1;
      junk = λ i j. 0;
      fails = λ i. none;
      writes = λ i. accepted;
      close = accepted;
      end = closed;
      spare = λ w. record { out = replicate 120 0; lent = []; first = 0; second = 0; kind = 0; code = 0 };
    }

timed-empty : OpensEmpty timed_totals
timed-empty o rec rx msg p least room wide =
    let k = timed-around.inner rec in
    let x = (every_host o k rx msg (timed-around.place rec p) least room wide idle (record { reads = λ i. tt; writes = λ i. tt; close = tt; end = tt }) (λ w. (omega arith, omega arith)) [] tt [] (λ i. omega arith) tt).0 in
    timed-around.layer.holds _ _ _ _ (timed-around.opens rec p o rx msg [] x (omega arith)) rx
    ∙ none-held rx _ _ (open_held k.x (settings_of o.table) o.banner (length rx) (length msg) x)

pub every_read_timed : EveryRead (below limit) timed_totals
every_read_timed = every_read (below limit) timed_totals every_host_timed timed-empty

pub side_reads_timed : SideReads (below limit) timed_totals
side_reads_timed = side_reads (below limit) timed_totals every_host_timed timed-empty
