-- Answers to goals of `features::Features::of`.
use mathlib.Core.Bool.{Bool, false}
use mathlib.Core.List.{List, [], ◌∷◌}
use mathlib.Core.Path.{◌≡◌, refl, sym, ap, ◌∙◌}
use Prim.Native.Nat.{ℕ, ◌+◌, ◌-◌, ◌≤◌}
use lib.Dec.{lit≤}
use lib.ListN.{get_or, length-set}
use lib.Seq.{slice}
use Rattle.protocol.specs.Features.{some_is, has_feature, features_of}
use Rattle.features.specs.Meaning.{pieces_from}
use Rattle.features.proofs.Pieces.{pieces-within, pieces-past, has-pieces}
use Rattle.features.proofs.Names.{also}
use Rattle.features.proofs.Found.{name_of, none_found, one_found, none_more, last_found}
use Rattle.features.proofs.Features.of.Goals.{in-Some, in_default}
use Rattle.features.proofs.Features.of.Goals as goal

-- the seven answers
seven : (banner : List ℕ) (found : List Bool) → ((n : ℕ) → 1 ≤ n → n ≤ 7 → get_or found (n - 1) false ≡ has_feature banner (name_of n))
    → get_or found 0 false ∷ get_or found 1 false ∷ get_or found 2 false ∷ get_or found 3 false ∷ get_or found 4 false ∷ get_or found 5 false ∷ get_or found 6 false ∷ []
    ≡ features_of banner
unfolding features_of
seven banner found f =
    also (f 1 (lit≤ tt) (lit≤ tt))
    (also (f 2 (lit≤ tt) (lit≤ tt))
    (also (f 3 (lit≤ tt) (lit≤ tt))
    (also (f 4 (lit≤ tt) (lit≤ tt)) (also (f 5 (lit≤ tt) (lit≤ tt)) (also (f 6 (lit≤ tt) (lit≤ tt)) (also (f 7 (lit≤ tt) (lit≤ tt)) refl))))))

pub loop-start-init : goal.loop-start-init
loop-start-init c =
    let banner = c.args.banner.now in (
      refl,
      λ n h k. has-pieces banner (name_of n) ∙ ap (some_is (name_of n)) c.list_start-start.ensures ∙ none_found (pieces_from c.list_start-start.result banner) n h k,
    )

pub loop-start-preserved : goal.loop-start-preserved
loop-start-preserved c =
    let banner = c.args.banner.now in
    let end = c.piece_end-end.result in
    let l = c.loop-start in
    let piece : List ℕ = slice l.start end banner in
    let rest : List (List ℕ) = pieces_from (end + 1) banner in
    let next = pieces-within banner l.start c.loop-start-test.true ∙ c.piece_end-end.ensures.2 in
    elim c.match-number_at.branch [
      | in-Some w ↦
          let e = w.in-Some.ensures in
          rw w.found-is
          (simp length-set l.invariant.0, λ n h k. l.invariant.1 n h k ∙ rw next (one_found l.found piece rest w.in-Some.number l.invariant.0 e.0 e.1 e.2 n h k))
      | in_default w ↦
          rw w.found-is (l.invariant.0, λ n h k. l.invariant.1 n h k ∙ rw next (none_more l.found piece rest w.in_default.ensures n h k))
    ]

pub returns : goal.returns
returns c =
    let banner = c.args.banner.now in
    seven banner c.loop-start.found
    (λ n h k. sym (c.loop-start.invariant.1 n h k ∙ rw (pieces-past banner c.loop-start.start c.loop-start-test.false) (last_found c.loop-start.found n)))
