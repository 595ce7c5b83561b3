-- What the answers to misuse are, and what the host has seen afterwards: the words of totals/specs/Card and Claim.
-- Assumes nothing.
use Rattle.std.specs.Prelude.{ℕ, ◌*◌, true, ◌||◌, List, ◌≡◌, length}
use Rattle.std.proofs.Math.Option.{Option, none, some}
use Rattle.protocol.specs.Answers.{Answer, number, callers}
use Rattle.protocol.specs.Bytes.{has}
use Rattle.session.specs.Host.{Show, told}
use Rattle.boundary.specs.Crossing.{Crossed, OpenCrossed}
use Rattle.boundary.specs.Heard.{heard}
use Rattle.boundary_misuse.specs.Misuse.{Act, Event, Seen, closing, start, report}

abbrev pub heard_of : Crossed → Show
heard_of c = heard c.number c.out c.rx c.msg

-- "Session and lent bytes unchanged"
abbrev pub Unchanged : List ℕ → Event → Crossed → Type 0
Unchanged rec e c = (c.rec ≡ rec) × (c.rx ≡ e.rx) × (c.msg ≡ e.msg)

-- one of the caller's numbers is answered
abbrev pub IsRefused : Crossed → Type 0
IsRefused c = (n : ℕ) × (has n callers ≡ true) × (c.number ≡ 256 * n)

-- What is answered: the table's refusal, by its number and as it is heard; none of 1 to 11 where the table has none.
abbrev pub Answers : Option Answer → List ℕ → Event → Crossed → Type 0
Answers (some a) rec e c = (c.number ≡ 256 * number a) × (heard_of c ≡ told a) × Unchanged rec e c
Answers none rec e c = IsRefused c → ⊥

-- what the host has seen afterwards; a quit has ended once its close is reported
abbrev pub seen_after : Seen → Event → Act → Show → Seen
seen_after s e (start n a b t) sh =
    record { capacity = s.capacity; message = s.message; features = s.features; lent = length e.lent; last = sh; ended = s.ended }
seen_after s e (report r) sh =
    record { capacity = s.capacity; message = s.message; features = s.features; lent = s.lent; last = sh; ended = closing s.last || s.ended }

abbrev pub follow : Option Answer → Seen → Event → Show → Seen
follow (some a) s e sh = s
follow none s e sh = seen_after s e e.act sh

-- opening: its answer's number, and a record that is refused is left as it was
abbrev pub Opens : Option Answer → List ℕ → OpenCrossed → Type 0
Opens (some a) rec o = (o.number ≡ number a) × (o.rec ≡ rec)
Opens none rec o = o.number ≡ 0
