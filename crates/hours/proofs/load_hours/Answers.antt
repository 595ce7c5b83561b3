-- `hours::load_hours` meets its contract: the file is read as by its lines.
use mathlib.Core.Bool.{true}
use mathlib.Core.Path.{◌≡◌, sym, ap, ◌∙◌}
use borrow.Author.Tests.{eq-eqb, ne_eqb}
use lib.ListN.{take, drop, replicate}
use Rattle.protocol.specs.Bytes.{same}
use Rattle.hours.specs.Scan.{head_size, head_line, days_size, days_of, scanned}
use Rattle.hours.specs.Settings.{loaded_hours}
use Rattle.hours.proofs.Cut.{same-pointwise}
use Rattle.hours.proofs.Scan.{file-unread, lines-refused, lines-taken}
use Rattle.hours.proofs.load_hours.Goals.{In-Some}
use Rattle.hours.proofs.load_hours.Goals as goal

pub returns-then-settings-ne-SETTINGS : goal.returns-then-settings-ne-SETTINGS
unfolding loaded_hours
returns-then-settings-ne-SETTINGS c = rw (ne_eqb _ _ c.if-settings-ne-SETTINGS.true)

pub returns-in_default : goal.returns-in_default
unfolding loaded_hours
returns-in_default c =
    let file = c.args.file.now in
    let bad = sym (same-pointwise (take head_size file) head_line) ∙ c.in_default.ensures.cases in
    rw (eq-eqb _ _ c.if-settings-ne-SETTINGS.false, file-unread file bad)

-- the file has the heading, and lines behind it
headed : (c : In-Some) → same (take head_size c.args.file.now) head_line ≡ true
headed c = sym (same-pointwise (take head_size c.args.file.now) head_line) ∙ c.in-Some.ensures.cases.0

behind : (c : In-Some) → scanned 0 (replicate days_size 0) c.in-Some.lines.now ≡ scanned 0 (replicate days_size 0) (drop head_size c.args.file.now)
behind c = ap (scanned 0 (replicate days_size 0)) c.in-Some.ensures.cases.1

pub returns-in_default-read_days : goal.returns-in_default-read_days
unfolding loaded_hours
returns-in_default-read_days c =
    let here = (goal.at.returns-in_default-read_days c).In-Some in
    let bad = ap days_of (sym c.in_default-read_days.is) ∙ c.read_days.ensures ∙ behind here in
    rw (eq-eqb _ _ c.if-settings-ne-SETTINGS.false, lines-refused c.args.file.now (headed here) bad)

pub returns : goal.returns
unfolding loaded_hours
returns c =
    let here = (goal.at.returns c).In-Some in
    let good = ap days_of (sym c.in-Some-read_days.is) ∙ c.read_days.ensures ∙ behind here in
    let all = lines-taken c.args.file.now (headed here) c.in-Some-read_days.days c.args.settings.now c.if-settings-ne-SETTINGS.false good in
    rw (eq-eqb _ _ c.if-settings-ne-SETTINGS.false, c.put_bytes.ensures, c.put_u32.ensures) all
