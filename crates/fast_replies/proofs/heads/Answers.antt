-- `fast_replies::heads` meets its contract: the numbers are compared, and the bytes are the same where they are.
use mathlib.Core.Bool.{true, false}
use mathlib.Core.List.{List}
use mathlib.Core.Path.{◌≡◌, refl, sym, ap, ◌∙◌}
use Prim.Native.Nat.{ℕ, ◌≤◌, ◌<◌}
use native.Mathlib.Omega.{arith}
use borrow.Author.Tests.{eq-eqb, ne_eqb, le-leb, lt-leb}
use lib.Dec.{eqb}
use lib.ListN.{length}
use Rattle.protocol.specs.Bytes.{Bytes, same, whole, bytes_of}
use Rattle.protocol.specs.Ids.{Dialect, FAIL}
use Rattle.protocol.specs.Records.{id_at, u32_at}
use Rattle.protocol.proofs.Bytes.{whole_in}
use Rattle.session_phases.proofs.Ids.{same_id}
use Rattle.fast_replies.specs.Direct.{dialect_held, heads}
use Rattle.fast_replies.proofs.heads.Goals as goal

module _ (d : Dialect) (b x : List ℕ) where
  short : length x < 8 → false ≡ heads d b x
  unfolding heads
  short h = rw (lt-leb 8 (length x) h)

  module _ (there : 8 ≤ length x) where
    fail : same (id_at x) (d.bytes FAIL) ≡ true → false ≡ heads d b x
    unfolding heads
    fail f = rw (le-leb 8 (length x) there, f)

    other : same (id_at x) (d.bytes FAIL) ≡ false → same (id_at x) b ≡ heads d b x
    unfolding heads
    other f = rw (le-leb 8 (length x) there, f)

-- what the front of x spells is a number where its id is that number's bytes
spells : (x : List ℕ) (k n : ℕ) {m : ℕ} → 8 ≤ length x → Bytes x → n < 0x1_0000_0000 → k ≡ whole 4 0 (u32_at 0) x 0 → n ≡ m
    → eqb k n ≡ same (id_at x) (bytes_of 4 m)
spells x k n h b s e f =
    ap (λ (j : ℕ). eqb j n) (e ∙ whole_in 4 0 (u32_at 0) x 0 (omega arith)) ∙ same_id x 0 (omega arith) b n s ∙ ap (λ (j : ℕ). same (id_at x) (bytes_of 4 j)) f

pub returns-then-x-lt-HEADER_SIZE : goal.returns-then-x-lt-HEADER_SIZE
returns-then-x-lt-HEADER_SIZE c = let a = c.args in short (dialect_held a.rec.now) (bytes_of 4 a.id) a.x.now (omega arith)

pub returns-then-n-id_in : goal.returns-then-n-id_in
returns-then-n-id_in c =
    let a = c.args in
    let n = c.u32_at-n in
    let bytes : Bytes a.x.now = λ k. (c.type_inv.x k).fits in
    spells a.x.now n.result a.id (omega arith) bytes (omega arith) n.ensures refl
    ∙ other (dialect_held a.rec.now) (bytes_of 4 a.id) a.x.now (omega arith)
    (sym (spells a.x.now n.result c.id_in.result (omega arith) bytes (omega arith) n.ensures c.id_in.ensures)
    ∙ ne_eqb _ _ c.if-n-id_in.true)

pub returns-else-n-id_in : goal.returns-else-n-id_in
returns-else-n-id_in c =
    let a = c.args in
    let same : eqb c.u32_at-n.result c.id_in.result ≡ true = eq-eqb _ _ c.if-n-id_in.false in
    rw same
    (fail (dialect_held a.rec.now) (bytes_of 4 a.id) a.x.now (omega arith)
    (sym (spells a.x.now c.u32_at-n.result c.id_in.result (omega arith) (λ k. (c.type_inv.x k).fits) (omega arith) c.u32_at-n.ensures c.id_in.ensures) ∙ same))
