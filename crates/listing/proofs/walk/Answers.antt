-- Answers to goals of `listing::walk`.
use mathlib.Core.List.{List}
use mathlib.Core.Path.{refl, sym, subst, ◌∙◌}
use Prim.Native.Nat.{ℕ, ◌≤◌}
use native.Mathlib.Omega.{arith}
use lib.ListN.{length}
use Rattle.listing_lines.specs.Lines.{Laid}
use Rattle.listing.proofs.Entries.{walk_first, listed-first, walk_goes, walk_ends, walk_falls}
use Rattle.listing.proofs.walk.Goals as goal

pub loop-number-init : goal.loop-number-init
loop-number-init c =
    let a = c.args in
    let f = c.first-heard in
    (walk_first a.s a.rx.now a.msg.now a.n _ a.from c.requires _ _ f.result f.ensures f.auto.rx a.out.now refl, refl, refl)

pub returns-in-End : goal.returns-in-End
returns-in-End c =
    let a = c.args in
    let f = c.first-heard in
    let l = c.loop-number in
    let is = sym c.line_of-line.ensures ∙ c.in-End.is in
    let e = listed-first a.s a.rx.now a.msg.now a.n _ a.from c.requires _ _ f.result f.ensures f.auto.rx in
    subst (λ (m : List ℕ). Laid a.out.now a.from m c.put_end.new.out c.put_end.result
    × (c.put_end.result ≤ length c.put_end.new.out)) e
    (walk_ends l.invariant.0 _ is (omega arith) _ _ c.put_end.ensures)

pub loop-number-smaller : goal.loop-number-smaller
loop-number-smaller c =
    let l = c.loop-number in
    let is = sym c.line_of-line.ensures ∙ c.in-Entry.is in
    walk_falls l.invariant.0 _ is (omega arith) (omega arith) (omega arith) _ _ _ _ c.next-heard.result c.show-at.ensures
    c.next-heard.ensures

pub loop-number-preserved : goal.loop-number-preserved
loop-number-preserved c =
    let l = c.loop-number in
    let is = sym c.line_of-line.ensures ∙ c.in-Entry.is in (
      walk_goes l.invariant.0 _ is (omega arith) (omega arith) (omega arith) _ _ _ _ c.next-heard.result c.show-at.ensures c.next-heard.ensures,
      c.next-heard.auto.rx ∙ l.invariant.1,
      c.next-heard.auto.msg ∙ l.invariant.2,
    )
