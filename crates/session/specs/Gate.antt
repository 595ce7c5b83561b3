-- Hours around a system that does not look at the moment (document 02, [10]): the session keeps the hours it opened with, and a push start outside
-- them is 25 where the session inside would not refuse it.
-- Assumes nothing.
use Rattle.std.specs.Prelude.{ℕ, Bool, false, ◌&&◌, not, List, eqb}
use Rattle.std.proofs.Math.Option.{Option}
use Rattle.protocol.specs.Answers as A
use Rattle.protocol.specs.Answers.{number, callers}
use Rattle.protocol.specs.Bytes.{pick, has}
use Rattle.protocol.specs.Calls.{Made}
use Rattle.protocol.specs.Hours.{Hours}
use Rattle.protocol.specs.Refusal.{outside, closed_hours}
use Rattle.session.specs.Demand3.{Opening, Opened, System}
use Rattle.session.specs.Host.{Show, told, read, write_rx, write_lent, write_bytes, close, Spare, Step, Engine}

-- what is told is a refusal of the caller's, 1 to 11
abbrev pub refuses : Show → Bool
refuses (told a) = has (number a) callers
refuses (read at len) = false
refuses (write_rx at len) = false
refuses (write_lent at len) = false
refuses (write_bytes b) = false
refuses close = false

-- a session, and the hours it opened with
pub record Timed (X : Type 0) : Type 0 where
  pub hours : Option Hours
  pub x : X

abbrev pub timed : {X : Type 0} → Option Hours → X → Timed X
timed h x = record { hours = h; x = x }

-- a step of the session inside
abbrev pub keeping : {X : Type 0} → Option Hours → Step X → Step (Timed X)
keeping h s = record { x = timed h s.x; rx = s.rx; msg = s.msg; show = s.show }

-- a start where h are the hours: what the engine inside refuses is refused; then 25; nothing is altered by either
abbrev pub gated_start : {X : Type 0} → Engine X → Option Hours → X → List ℕ → List ℕ → Made → Spare → Step X
gated_start E h x rx msg m z =
    let s = E.start x rx msg m z in
    pick (outside h m && not (refuses s.show)) (record { x = x; rx = rx; msg = msg; show = told (A.refused closed_hours) }) s

abbrev pub gate : {X : Type 0} → Engine X → Engine (Timed X)
gate E =
    record {
      start = λ k rx msg m z. keeping k.hours (gated_start E k.hours k.x rx msg m z);
      on_read = λ k rx msg lent n z. keeping k.hours (E.on_read k.x rx msg lent n z);
      on_wrote = λ k rx msg lent z. keeping k.hours (E.on_wrote k.x rx msg lent z);
      on_fault = λ k rx msg lent e z. keeping k.hours (E.on_fault k.x rx msg lent e z);
      holds = λ k rx. E.holds k.x rx;
      tail = λ k. E.tail k.x;
    }

-- a refused opening leaves the hours too
abbrev pub open_gated : {X : Type 0} → Timed X → Opening → Opened X → Opened (Timed X)
open_gated k o r = record { number = r.number; x = timed (pick (eqb r.number 0) o.hours k.hours) r.x }

abbrev pub gated : {X : Type 0} → System X → System (Timed X)
gated S =
    record {
      engine = gate S.engine;
      opened = λ k o rx msg. open_gated k o (S.opened k.x o rx msg);
      place = λ k. S.place k.x;
      lends = S.lends;
    }
