-- A read that leaves its need short: where tail comes to.
-- Assumes nothing.
use Rattle.std.specs.Prelude.{ℕ, ◌+◌, ◌-◌, Bool, ◌&&◌, eqb, ltb, leb}
use Rattle.std.proofs.Math.Option.{Option, none, some}
use Rattle.protocol.specs.Bytes.{pick}
use Rattle.boundary.specs.Crossing.{stays_at}
use Rattle.session.specs.Reports.{report_refusal}
use Rattle.session.specs.declared.Session.{Session}

-- n more bytes that leave the need short, which is met at until, and room behind them; 0 for any other n
abbrev pub tail_at : (capacity tail until n : ℕ) → ℕ
tail_at capacity tail until n = pick (ltb 0 n && leb n (capacity - tail) && ltb (tail + n) until && ltb (tail + n) capacity) (tail + n) 0

-- whether a read of k bytes leaves its need short, with buffers of x and m bytes and n lent
abbrev pub leaves_short : Session → (x m n k : ℕ) → Bool
leaves_short s x m n k = eqb (report_refusal s x m n) 0 && stays_at s.pending s k

abbrev pub short_tail : Session → (x m n k : ℕ) → ℕ
short_tail s x m n k = pick (leaves_short s x m n k) (s.buf.tail + k) 0

-- 0 too where a record holds no session
abbrev pub short_in : Option Session → (x m n k : ℕ) → ℕ
short_in none x m n k = 0
short_in (some s) x m n k = short_tail s x m n k
