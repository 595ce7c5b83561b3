-- Answers to goals of `format_id::SyncId::from_bytes`.
use mathlib.Core.List.{List}
use mathlib.Core.Path.{◌≡◌, refl, sym, ap, ◌∙◌}
use Prim.Native.Nat.{ℕ}
use native.Mathlib.Omega.{arith}
use lib.ListN.{drop}
use Rattle.protocol.specs.Bytes.{same}
use Rattle.protocol.specs.Ids.{all, published, among, named}
use Rattle.format_id.proofs.Laws.{here, further, pointwise-same}
use Rattle.format_id.proofs.SyncId.from_bytes.Goals as goal

pub loop-id-init : goal.loop-id-init
loop-id-init c = refl

pub returns-then-eq : goal.returns-then-eq
unfolding named
returns-then-eq c =
    let e = ap (λ (l : List ℕ). same l c.args.b) (sym c.as_bytes.ensures) ∙ sym (pointwise-same c.as_bytes.result c.args.b) ∙ sym c.eq.ensures ∙ c.if-eq.true in
    sym (here published c.args.b c.loop-id.id-index c.loop-id-test.true e) ∙ c.loop-id.invariant

pub loop-id-preserved : goal.loop-id-preserved
loop-id-preserved c =
    let e = ap (λ (l : List ℕ). same l c.args.b) (sym c.as_bytes.ensures) ∙ sym (pointwise-same c.as_bytes.result c.args.b) ∙ sym c.eq.ensures ∙ c.if-eq.false in
    sym (further published c.args.b c.loop-id.id-index c.loop-id-test.true e) ∙ c.loop-id.invariant

pub returns : goal.returns
unfolding named
returns c =
    let z : c.loop-id.id-index ≡ 15 = omega arith in
    sym (ap (λ (i : ℕ). among published (drop i all) c.args.b) z) ∙ c.loop-id.invariant
