-- Answers to goals of `ids::Ids::from_bytes`.
use mathlib.Core.Bool.{Bool}
use mathlib.Core.List.{List}
use mathlib.Core.Path.{◌≡◌, refl, sym, ap, ◌∙◌}
use Prim.Native.Nat.{ℕ}
use native.Mathlib.Omega.{arith}
use lib.Dec.{eqb}
use lib.ListN.{drop}
use lib.Pointwise.{pointwise}
use mir.Syntax.{w32}
use Rattle.std.specs.Int.{to_le_bytes}
use Rattle.protocol.specs.Bytes.{bytes_of, same}
use Rattle.protocol.specs.Ids.{all, among, named}
use Rattle.format_id.proofs.Laws.{here, further, pointwise-same}
use Rattle.format_number.proofs.Numbers.{to_le_bytes-of_4}
use Rattle.ids.specs.Ids.{dialect_of}
use Rattle.ids.proofs.Ids.from_bytes.Goals as goal

-- the library's comparison is that of the id's bytes
compared : {m : List ℕ} {j k : ℕ} {t : Bool} (b : List ℕ) → k ≡ j → m ≡ to_le_bytes w32 k → t ≡ pointwise eqb m b → same (bytes_of 4 j) b ≡ t
compared {m} {j} {k} b e f g =
    ap (λ (l : List ℕ). same l b) (ap (bytes_of 4) (sym e) ∙ sym (to_le_bytes-of_4 k) ∙ sym f) ∙ sym (pointwise-same m b) ∙ sym g

pub loop-id-init : goal.loop-id-init
loop-id-init c = refl

pub returns-then-eq : goal.returns-then-eq
unfolding named
returns-then-eq c =
    let a = c.args in
    let e = compared a.b c.number.ensures c.to_le_bytes.ensures c.eq.ensures ∙ c.if-eq.true in
    sym (here (dialect_of a.self) a.b c.loop-id.id-index c.loop-id-test.true e) ∙ c.loop-id.invariant

pub loop-id-preserved : goal.loop-id-preserved
loop-id-preserved c =
    let a = c.args in
    let e = compared a.b c.number.ensures c.to_le_bytes.ensures c.eq.ensures ∙ c.if-eq.false in
    sym (further (dialect_of a.self) a.b c.loop-id.id-index c.loop-id-test.true e) ∙ c.loop-id.invariant

pub returns : goal.returns
unfolding named
returns c =
    let z : c.loop-id.id-index ≡ 15 = omega arith in
    sym (ap (λ (i : ℕ). among (dialect_of c.args.self) (drop i all) c.args.b) z) ∙ c.loop-id.invariant
