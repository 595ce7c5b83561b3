-- Answers to goals of `features::has_feature`.
use mathlib.Core.Path.{sym, ap, ◌∙◌}
use Rattle.protocol.specs.Features.{some_is}
use Rattle.features.proofs.Pieces.{pieces-within, pieces-past, has-pieces}
use Rattle.features.proofs.has_feature.Goals as goal

pub loop-start-init : goal.loop-start-init
loop-start-init c =
    let a = c.args in
    has-pieces a.banner.now a.name.now ∙ ap (some_is a.name.now) c.list_start-start.ensures

pub returns-then-part_is : goal.returns-then-part_is
returns-then-part_is c =
    let next = pieces-within _ c.loop-start.start c.loop-start-test.true ∙ c.piece_end-end.ensures.2 in
    sym (c.loop-start.invariant ∙ rw (next, ← c.part_is.ensures, c.if-part_is.true))

pub loop-start-preserved : goal.loop-start-preserved
loop-start-preserved c =
    let next = pieces-within _ c.loop-start.start c.loop-start-test.true ∙ c.piece_end-end.ensures.2 in
    c.loop-start.invariant ∙ rw (next, ← c.part_is.ensures, c.if-part_is.false)

pub returns : goal.returns
returns c =
    sym (c.loop-start.invariant ∙ rw (pieces-past _ c.loop-start.start c.loop-start-test.false))
