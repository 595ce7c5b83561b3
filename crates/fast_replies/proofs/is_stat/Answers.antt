-- `fast_replies::is_stat` meets its contract.
use mathlib.Core.Path.{◌≡◌, sym, ap, ◌∙◌}
use Prim.Native.Nat.{ℕ}
use native.Mathlib.Omega.{arith}
use Rattle.protocol.specs.Bytes.{bytes_of}
use Rattle.session.specs.Phases.{stat_id_of}
use Rattle.fast_replies.specs.Direct.{dialect_held, heads}
use Rattle.fast_replies.proofs.Stats.{stat-short, stat-other, stat-fine}
use Rattle.fast_replies.proofs.is_stat.Goals.{After-heads}
use Rattle.fast_replies.proofs.is_stat.Goals as goal

-- the header is tested
tests : (c : After-heads)
    → let a = c.args in
    c.heads.result ≡ heads (dialect_held a.rec.now) ((dialect_held a.rec.now).bytes (stat_id_of a.v)) a.x.now
tests c =
    let a = c.args in
    c.heads.ensures ∙ ap (λ (n : ℕ). heads (dialect_held a.rec.now) (bytes_of 4 n) a.x.now) c.stat_number.ensures

pub returns-then-x-stat_size : goal.returns-then-x-stat_size
returns-then-x-stat_size c = let a = c.args in stat-short (dialect_held a.rec.now) a.v a.x.now (omega arith)

pub returns-then-heads : goal.returns-then-heads
returns-then-heads c =
    let a = c.args in
    c.errorless.ensures ∙ stat-fine (dialect_held a.rec.now) a.v a.x.now (omega arith) (sym (tests (goal.at.returns-then-heads c).After-heads) ∙ c.if-heads.true)

pub returns-else-heads : goal.returns-else-heads
returns-else-heads c =
    let a = c.args in
    let no = c.if-heads.false in
    no ∙ stat-other (dialect_held a.rec.now) a.v a.x.now (omega arith) (sym (tests (goal.at.returns-else-heads c).After-heads) ∙ no)
