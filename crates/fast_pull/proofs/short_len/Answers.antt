-- `fast_pull::short_len` meets its contract.
use mathlib.Core.Bool.{true}
use mathlib.Core.Path.{◌≡◌, sym, ap, ◌∙◌}
use Prim.Native.Nat.{ℕ, ◌+◌}
use native.Mathlib.Omega.{arith}
use borrow.Author.Tests.{lt-ltb, le-leb}
use lib.ListN.{length}
use Rattle.protocol.specs.Bytes.{bytes_of}
use Rattle.protocol.specs.Ids.{DATA}
use Rattle.protocol.specs.Records.{arg_at}
use Rattle.fast_record.proofs.Found.{found_none, found-some}
use Rattle.fast_replies.specs.Direct.{dialect_held, heads}
use Rattle.fast_replies.proofs.Entries.{u32_read}
use Rattle.fast_replies.proofs.Whole.{heads-of}
use Rattle.fast_pull.proofs.Headers.{length-out, length-in}
use Rattle.fast_pull.proofs.short_len.Goals.{After-heads, After-u32_at-n, Else-not-heads}
use Rattle.fast_pull.proofs.short_len.Goals as goal

-- the header is tested
tests : (c : After-heads)
    → let a = c.args in
    c.heads.result ≡ heads (dialect_held a.rec.now) ((dialect_held a.rec.now).bytes DATA) a.x.now
tests c =
    let a = c.args in
    c.heads.ensures ∙ ap (λ (n : ℕ). heads (dialect_held a.rec.now) (bytes_of 4 n) a.x.now) c.id_in.ensures

-- it is a chunk's
is : (c : Else-not-heads)
    → let a = c.args in
    heads (dialect_held a.rec.now) ((dialect_held a.rec.now).bytes DATA) a.x.now ≡ true
is c =
    let a = c.args in
    sym (c.heads.ensures ∙ ap (λ (n : ℕ). heads (dialect_held a.rec.now) (bytes_of 4 n) a.x.now) c.id_in.ensures) ∙ c.if-not-heads.false

-- the length of the body
arg : (c : After-u32_at-n)
    → let a = c.args in
    c.u32_at-n.result ≡ arg_at a.x.now
arg c =
    let a = c.args in
    let header = sym (c.heads.ensures ∙ ap (λ (n : ℕ). heads (dialect_held a.rec.now) (bytes_of 4 n) a.x.now) c.id_in.ensures) ∙ c.if-not-heads.false in
    let w = heads-of (dialect_held a.rec.now) ((dialect_held a.rec.now).bytes DATA) a.x.now header in
    c.u32_at-n.ensures ∙ u32_read a.x.now 4 (omega (arith, w.sized))

pub returns-then-not-heads : goal.returns-then-not-heads
returns-then-not-heads c =
    let a = c.args in
    found_none (length-out (dialect_held a.rec.now) a.x.now a.capacity (rw (sym (tests (goal.at.returns-then-not-heads c).After-heads) ∙ c.if-not-heads.true)))

pub returns-then-capacity-whole : goal.returns-then-capacity-whole
returns-then-capacity-whole c =
    let a = c.args in
    let n = arg (goal.at.returns-then-capacity-whole c).After-u32_at-n in
    found_none (length-out (dialect_held a.rec.now) a.x.now a.capacity (grind (arith, n)))

pub returns : goal.returns
returns c =
    let a = c.args in
    let n = arg (goal.at.returns c).After-u32_at-n in
    found-some (omega arith) (ap (λ (k : ℕ). 8 + k) n
    ∙ length-in (dialect_held a.rec.now) a.x.now a.capacity
    (rw (
      is (goal.at.returns c).Else-not-heads,
      le-leb (8 + arg_at a.x.now) a.capacity (omega (arith, n)),
      lt-ltb (length a.x.now) (8 + arg_at a.x.now) (omega (arith, n)),
    )))
