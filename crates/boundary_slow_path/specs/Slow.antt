-- A read by way of the whole session. The other steps that go this way are the crossings themselves, `Rattle.boundary.specs.Crossing`.
-- Assumes nothing.
use Rattle.std.specs.Prelude.{ℕ, List, length}
use Rattle.boundary.specs.Crossing.{Crossed, back, crossing}
use Rattle.session.specs.Reports.{report_read}

unfoldable pub slow_read : (rec rx msg lent : List ℕ) → (count : ℕ) → (out : List ℕ) → Crossed
slow_read rec rx msg lent k out = crossing rec rx msg out (λ s. back rec out (report_read s (length lent) k))
