-- `panel_crossing::reply_numbered` meets its contract: of a stat and of an entry, the reply where its numbers are there and fit, and none where not.
use mathlib.Core.Path.{sym}
use Rattle.std.specs.Prelude.{Some, None}
use Rattle.panel_side.specs.Crossing.{stat_in, stat2_in, with_stat, with_stat2}
use Rattle.panel_crossing.proofs.Laws.{found, picked, passed}
use Rattle.panel_reply.specs.Replies as P
use Rattle.panel_writer.specs.declared.Reply.TheVariants as R
use Rattle.panel_crossing.proofs.reply_numbered.Goals as goal

pub returns-in-2 : goal.returns-in-2
unfolding with_stat
returns-in-2 c =
    let n = c.args.numbers.now in
    found n c.in-2.is (Some (R.Stat c.stat_in.result)) (λ l. picked _ P.stat (stat_in n) (sym c.if-has_stat.ensures) c.stat_in.ensures)

pub returns-in_default : goal.returns-in_default
unfolding with_stat
returns-in_default c =
    let n = c.args.numbers.now in
    found n c.in-2.is None (λ l. passed _ P.stat (stat_in n) (sym c.if-has_stat.ensures))

pub returns-in-3 : goal.returns-in-3
unfolding with_stat2
returns-in-3 c =
    let n = c.args.numbers.now in
    found n c.in-3.is (Some (R.StatV2 c.stat_v2_in.result)) (λ l. picked _ P.stat2 (stat2_in n) (sym c.if-has_stat_v2.ensures) c.stat_v2_in.ensures)

pub returns-in_default-2 : goal.returns-in_default-2
unfolding with_stat2
returns-in_default-2 c =
    let n = c.args.numbers.now in
    found n c.in-3.is None (λ l. passed _ P.stat2 (stat2_in n) (sym c.if-has_stat_v2.ensures))

pub returns-in-4 : goal.returns-in-4
unfolding with_stat
returns-in-4 c =
    let n = c.args.numbers.now in
    found n c.in-4.is (Some (R.Entry c.stat_in-in-4.result)) (λ l. picked _ (λ s. P.entry s l) (stat_in n) (sym c.if-has_stat-2.ensures) c.stat_in-in-4.ensures)

pub returns-in_default-3 : goal.returns-in_default-3
unfolding with_stat
returns-in_default-3 c =
    let n = c.args.numbers.now in
    found n c.in-4.is None (λ l. passed _ (λ s. P.entry s l) (stat_in n) (sym c.if-has_stat-2.ensures))

pub returns-in-5 : goal.returns-in-5
unfolding with_stat2
returns-in-5 c =
    let n = c.args.numbers.now in
    found n c.in-5.is (Some (R.EntryV2 c.stat_v2_in-in-5.result)) (λ l. picked _ (λ s. P.entry2 s l) (stat2_in n) (sym c.if-has_stat_v2-2.ensures) c.stat_v2_in-in-5.ensures)

pub returns-in_default-4 : goal.returns-in_default-4
unfolding with_stat2
returns-in_default-4 c =
    let n = c.args.numbers.now in
    found n c.in-5.is None (λ l. passed _ (λ s. P.entry2 s l) (stat2_in n) (sym c.if-has_stat_v2-2.ensures))
