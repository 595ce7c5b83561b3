-- The index of a listing's answers is that of the plain reader's entries: what is promised over the logs that demand 3 speaks of.
-- Assumes nothing.
use Rattle.std.specs.Prelude.{ℕ, ◌≤◌, ◌<◌, ◌^◌, List, [], ◌≡◌, length}
use Rattle.protocol.specs.Answers.{Answer}
use Rattle.protocol.specs.Calls.{Made}
use Rattle.protocol.specs.Reader.{Report, plain_answers}
use Rattle.session.specs.Demand3.{Opening, System, Bound, Within, Side, AllWide, CodedReport, reader, log_from, answers_of}
use Rattle.time_index.specs.Index.{held_after, answered_to}
use Rattle.time_index.specs.Slots.{slots_size}
use Rattle.time_index.specs.Crossing.{cross_index_open}
use Rattle.time_index.specs.Claim.{Tell, Hears, AllKnown, afterwards, numbers_of, Holding}

module _ {X : Type 0} (S : System X) (o : Opening) (close : Report) (ms : List Made) (c : ℕ) (a : Side S c close) where
  -- what the plain reader answers to the calls
  abbrev pub plainly : List Answer
  plainly = plain_answers o.hours (reader o c close) a.host.end ms a.incoming

  -- slots and area, fresh, and handed the replies in which the host heard the answers of its calls
  pub record Indexes (s area : List ℕ) (ts : List Tell) : Type 0 where
    -- none of the answers is unknown to the index, so that none of its own is 3
    pub known : AllKnown plainly
    pub numbers : numbers_of (cross_index_open s (length area)).0 area ts ≡ answered_to (length area) [] plainly
    pub holds : Holding area (held_after (length area) [] plainly)
        (afterwards (cross_index_open s (length area)).0 area ts).0 (afterwards (cross_index_open s (length area)).0 area ts).1

-- any list of calls at any moments, within the bound, however the cable cuts the bytes
abbrev pub LoggedClaim : {X : Type 0} → Bound → System X → Type 0
LoggedClaim W S =
    (o : Opening) (close : Report) (ms : List Made) (c : ℕ) → 8 ≤ c → CodedReport close → AllWide ms → (a : Side S c close)
    → Within W o.hours (reader o c close) ms a.incoming
    → (s area : List ℕ) → length s ≡ slots_size → length area < 2 ^ 63
    → (ts : List Tell) → Hears ts (answers_of (log_from S o ms a)) → Indexes S o close ms c a s area ts
