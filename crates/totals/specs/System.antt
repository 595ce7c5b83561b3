-- Functions on a record as an engine; those on a record with totals as a system.
-- Assumes nothing.
use Rattle.std.specs.Prelude.{List, ◌≡◌, ℕ, length}
use Rattle.protocol.specs.Calls.{Made}
use Rattle.id_table.specs.Settings.{settings_of}
use Rattle.record.specs.Record.{word_of}
use Rattle.recv_buf.specs.RecvBuf.{cursor, held_bytes}
use Rattle.session.specs.Demand3.{System}
use Rattle.session.specs.Host.{Spare, Step, Engine, lent_of}
use Rattle.session_layer.specs.Layer.{under}
use Rattle.boundary.specs.Boundary.{call_number, first_number, flag_number, end_kind, end_code, step_of, opened_by, boundary}
use Rattle.boundary.specs.Crossing.{Crossed}
pub use Rattle.boundary_misuse.specs.Functions.{Functions}
use Rattle.totals.specs.Crossing.{record_size, total_open, total_start, total_read, total_wrote, total_fault}

-- the step that a crossing is, with what is kept of it
abbrev pub step_by : {Y : Type 0} → (keeping : Crossed → Y) → Crossed → Step Y
step_by keeping c = under (keeping c) (step_of c)

-- a call as it is made, by its numbers
abbrev pub start_by : Functions → (rec rx msg : List ℕ) → Made → Spare → Crossed
start_by fs rec rx msg m z =
    let q = m.call in
    fs.start rec rx msg (lent_of z q) (call_number q) (first_number z q) (flag_number z q) m.moment z.out

-- each step is one crossing, on the record of the one before: `keeping` says what is kept of a crossing, `record_in` where the record is in it
abbrev pub engine_by : Functions → {Y : Type 0} → (record_in : Y → List ℕ) → (keeping : Crossed → Y) → Engine Y
engine_by fs record_in keeping =
    record {
      start = λ y rx msg m z. step_by keeping (start_by fs (record_in y) rx msg m z);
      on_read = λ y rx msg lent k z. step_by keeping (fs.read (record_in y) rx msg lent k z.out);
      on_wrote = λ y rx msg lent z. step_by keeping (fs.wrote (record_in y) rx msg lent z.out);
      on_fault = λ y rx msg lent e z. step_by keeping (fs.fault (record_in y) rx msg lent (end_kind z e) (end_code z e) z.out);
      holds = λ y rx. held_bytes rx (cursor (word_of (record_in y) 2) (word_of (record_in y) 3));
      tail = λ y. word_of (record_in y) 3;
    }

-- those of a record with totals; they do not look at the moment
abbrev pub total_functions : Functions
total_functions = record { start = λ rec rx msg lent n a b t out. total_start rec rx msg lent n a b out; read = total_read; wrote = total_wrote; fault = total_fault }

-- the record alone is kept
abbrev pub counting : Engine (List ℕ)
counting = engine_by total_functions (λ rec. rec) (λ c. c.rec)

-- any record of the right length may stand there; what is lent besides is as without totals
abbrev pub totals : System (List ℕ)
totals =
    record {
      engine = counting;
      opened = λ rec o rx msg. opened_by (total_open rec (settings_of o.table) o.banner (length rx) (length msg));
      place = λ rec. length rec ≡ record_size;
      lends = boundary.lends;
    }
