-- The card in logs: what a record shows when each call is over, against any host; and on a side of demand 3, as the plain reader alone has it (document 02,
-- [7] and [8]).
-- Assumes nothing.
use Rattle.std.specs.Prelude.{ℕ, ◌+◌, ◌-◌, ◌≤◌, ◌<◌, ◌^◌, List, [], ◌∷◌, ◌++◌, ◌≡◌, length}
use Rattle.std.proofs.Math.Option.{Option}
use Rattle.protocol.specs.Answers.{End}
use Rattle.protocol.specs.Bytes.{pick, Bytes}
use Rattle.protocol.specs.Calls.{Made}
use Rattle.protocol.specs.Hours.{Hours}
use Rattle.protocol.specs.Reader.{Config, Report, config_after, plain_made, writes_made}
use Rattle.session.specs.Demand3.{Opening, System, Side, AllWide, CodedReport, reader, below, Within}
use Rattle.session.specs.EveryHost.{CodedHost}
use Rattle.session.specs.Host.{World, Host, Entry, at_start, log_of}
use Rattle.session_layer.specs.Layer.{was_refused, sizes, brought, ends_of}
use Rattle.session_reads.specs.Counted.{reads_in}
use Rattle.totals.specs.Crossing.{limit, received_of, consumed_of, written_of, reads_of}
use Rattle.totals.specs.System.{Functions, engine_by}

-- ---- against any host

-- A call is over: e is its entry in the log, rec the record then. `coming` bytes come in all; r of them were brought and n were written, by this call and those before it; k
-- reads stood in the record when it began.
pub record CardAt (coming r n k : ℕ) (e : Entry) (rec : List ℕ) : Type 0 where
  -- "received equals the sum of the counts reported by accepted reads"
  pub received : received_of rec ≡ r
  -- consumed is all that came or is to come, but for what is left unread; and that is what the plain reader leaves (`Faithful`)
  pub consumed : consumed_of rec + length e.unread ≡ coming
  -- "written the sum of accepted piece lengths"
  pub written : written_of rec ≡ n
  -- "how many reads it accepted"; a call that was refused leaves what stood there
  pub reads : reads_of rec ≡ pick (was_refused e.answer) k (reads_in e.asks)

-- each call of a log, and the record when it is over
abbrev pub CardsAt : (coming r n k : ℕ) → List Entry → (records : List (List ℕ)) → Type 0
CardsAt m r n k [] recs = recs ≡ []
CardsAt m r n k (e ∷ es) [] = ⊥
CardsAt m r n k (e ∷ es) (rec ∷ recs) =
    CardAt m (r + brought e.asks) (n + sizes e.pieces) k e rec × CardsAt m (r + brought e.asks) (n + sizes e.pieces) (reads_of rec) es recs

-- Of the functions fs, that S is made of: any opening, any host, also one whose reads, writes and close come to faults, any list of calls, any incoming bytes within the
-- bound.
abbrev pub CardLogged : Functions → System (List ℕ) → Type 0
CardLogged fs S =
    (o : Opening) (rec rx msg : List ℕ) → S.place rec → 8 ≤ length rx → length rx ≤ length msg → length msg < 2 ^ 63
    → (h : Host) → CodedHost h → ((w : World) → S.lends (h.spare w)) → (ms : List Made) → AllWide ms → (incoming : List ℕ) → Bytes incoming
    → Within (below limit) o.hours (reader o (length rx) h.close) ms incoming
    → CardsAt (length incoming) 0 0 0 (log_of (engine_by fs (λ rec. rec) (λ c. c.rec)) h ms (at_start incoming) (S.opened rec o rx msg).x rx msg)
    (ends_of (engine_by fs (λ rec. rec) (λ c. c.rec)) h ms (at_start incoming) (S.opened rec o rx msg).x rx msg)

-- ---- by the plain reader: "unread bytes U (at first all incoming ones) .. bytes written W (at first none)" (document 01)

-- after each call: how many of the incoming bytes are no longer unread, and the length of W. Nothing here knows of a session.
unfoldable pub plain_cards : Option Hours → Config → End → List Made → (coming : ℕ) → (unread written : List ℕ) → List (ℕ × ℕ)
plain_cards h g e [] n u w = []
plain_cards h g e (m ∷ ms) n u w =
    let u' = (plain_made h g e m u).unread in
    let w' = w ++ writes_made h g m in
    (n - length u', length w') ∷ plain_cards h (config_after g m.call) e ms n u' w'

-- consumed and written, as records show them
abbrev pub shown_by : List (List ℕ) → List (ℕ × ℕ)
shown_by [] = []
shown_by (rec ∷ recs) = (consumed_of rec, written_of rec) ∷ shown_by recs

-- the records of a side when its calls are over
abbrev pub records_from : Functions → (S : System (List ℕ)) → {c : ℕ} {close : Report} → Opening → List Made → Side S c close → List (List ℕ)
records_from fs S o ms a = ends_of (engine_by fs (λ rec. rec) (λ c. c.rec)) a.host ms (at_start a.incoming) (S.opened a.x o a.rx a.msg).x a.rx a.msg

-- the same in one list, of a side of demand 3
abbrev pub SideCards : Functions → System (List ℕ) → Type 0
SideCards fs S =
    (o : Opening) (close : Report) (ms : List Made) (c : ℕ) → 8 ≤ c → CodedReport close → AllWide ms → (a : Side S c close)
    → Within (below limit) o.hours (reader o c close) ms a.incoming
    → shown_by (records_from fs S o ms a) ≡ plain_cards o.hours (reader o c close) a.host.end ms (length a.incoming) a.incoming []
