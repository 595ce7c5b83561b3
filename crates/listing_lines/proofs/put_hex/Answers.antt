-- Answers to goals of `listing_lines::put_hex`.
use mathlib.Core.List.{List}
use mathlib.Core.Path.{refl, sym, subst, ◌∙◌}
use Prim.Native.Nat.{ℕ, ◌+◌, ◌≤◌}
use native.Mathlib.Omega.{arith}
use lib.ListN.{length, take}
use Rattle.listing_lines.specs.Lines.{hexadecimal, Laid}
use Rattle.listing_lines.proofs.Laws.{hex_next, laid-length, laid-laid, laid_none, hex_all}
use Rattle.listing_lines.proofs.put_hex.Goals as goal

pub loop-b-init : goal.loop-b-init
loop-b-init c = let a = c.args in (omega arith, refl, laid_none a.out.now a.at)

pub loop-b-preserved : goal.loop-b-preserved
loop-b-preserved c =
    let a = c.args in
    let l = c.loop-b in
    let p = c.put_pair-end.ensures in
    let fits : a.at + length (hexadecimal (take l.b-index a.bytes.now)) ≤ length a.out.now = omega arith in (
      omega arith,
      laid-length p (omega arith) ∙ l.invariant.1,
      subst (λ (m : List ℕ). Laid a.out.now a.at m c.put_pair-end.new.out c.put_pair-end.result)
          (sym (hex_next a.bytes.now l.b-index (omega arith))) (laid-laid l.invariant.2 fits p),
    )

pub returns : goal.returns
returns c =
    let a = c.args in
    let l = c.loop-b in
    subst (λ (m : List ℕ). Laid a.out.now a.at m l.out l.end) (hex_all a.bytes.now l.b-index (omega arith)) l.invariant.2
