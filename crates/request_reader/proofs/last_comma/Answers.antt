-- Answers to goals of `request_reader::last_comma`.
use mathlib.Core.Path.{sym, ap}
use lib.Seq.{drop-length}
use Rattle.protocol.specs.Requests.{last_comma}
use Rattle.request_reader.proofs.Search.{comma-here, comma-before}
use Rattle.request_reader.proofs.last_comma.Goals as goal

pub loop-at-init : goal.loop-at-init
loop-at-init c = ap last_comma (drop-length c.args.text.now)

pub loop-at-preserved : goal.loop-at-preserved
loop-at-preserved c = comma-before _ c.loop-at.at c.loop-at-test.true c.loop-at.auto.at c.loop-at.invariant c.if-text-at-eq44.false

pub returns-then-text-at-eq44 : goal.returns-then-text-at-eq44
returns-then-text-at-eq44 c =
    sym (comma-here _ c.loop-at.at c.loop-at-test.true c.loop-at.auto.at c.loop-at.invariant c.if-text-at-eq44.true)
