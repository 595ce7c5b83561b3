-- `request_refusal::check_feature` meets its contract.
use Rattle.request_refusal.proofs.Laws.{feature_named}
use Rattle.request_refusal.proofs.check_feature.Goals as goal
use Rattle.request_refusal.proofs.check_feature.Goals.{else-needed-via-then-needed+else-not-offers, else-needed-via-else-needed}

pub returns-then-not-offers : goal.returns-then-not-offers
returns-then-not-offers c = rw (feature_named _ _ c.args.feature, c.if-needed.true, ← c.offers.ensures) cc

pub returns : goal.returns
returns c =
    elim c.else-needed.branch [
      | else-needed-via-then-needed+else-not-offers w ↦ rw (feature_named _ _ c.args.feature, ← w.offers.ensures) cc
      | else-needed-via-else-needed w ↦ rw (feature_named _ _ c.args.feature, w.if-needed.false)
    ]
