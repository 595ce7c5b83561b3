-- `request_reader::read_text` meets its contract.
use Prim.Native.Nat.{◌-◌}
use mathlib.Core.Option.{none, some}
use mathlib.Core.Path.{◌≡◌, sym, ap, ◌∙◌}
use lib.ListN.{take, drop}
use Rattle.decimal.specs.Meaning.{parsed}
use Rattle.protocol.specs.Ids.{published}
use Rattle.protocol.specs.Requests.{at_comma, last_comma}
use Rattle.request_reader.specs.Meaning.{place_of}
use Rattle.request_reader.proofs.Text.{comma-within, text-sent, text-size, text_path}
use Rattle.request_reader.proofs.read_text.Goals.{In-Some}
use Rattle.request_reader.proofs.read_text.Goals as goal

comma : (c : In-Some) → last_comma ((take (c.args.size - 8) (drop 8 c.args.s.now))) ≡ some c.in-Some.k
comma c = sym c.last_comma.ensures ∙ ap place_of c.in-Some.is

pub mode_after-requires : goal.mode_after-requires
mode_after-requires c =
    comma-within ((take (c.args.size - 8) (drop 8 c.args.s.now))) c.in-Some.k (comma (goal.at.mode_after-requires c).In-Some)

pub returns-in-None : goal.returns-in-None
returns-in-None c =
    sym (ap (at_comma published ((take (c.args.size - 8) (drop 8 c.args.s.now)))) (sym c.last_comma.ensures ∙ ap place_of c.in-None.is))

pub returns-in-None-mode_after : goal.returns-in-None-mode_after
returns-in-None-mode_after c =
    let mode = sym c.mode_after.ensures ∙ ap parsed c.in-None-mode_after.is in
    sym (text-sent ((take (c.args.size - 8) (drop 8 c.args.s.now))) c.in-Some.k none (comma (goal.at.returns-in-None-mode_after c).In-Some) mode)

pub returns-in-Some-mode_after : goal.returns-in-Some-mode_after
returns-in-Some-mode_after c =
    let k = c.in-Some.k in
    let a = c.args in
    let all = text-size a.s.now a.size c.requires.0 c.requires.1 in
    let path = text_path a.s.now a.size c.requires.0 c.requires.1 k (comma-within ((take (c.args.size - 8) (drop 8 c.args.s.now))) k (comma (goal.at.returns-in-Some-mode_after c).In-Some)) in
    let mode = sym c.mode_after.ensures ∙ ap parsed c.in-Some-mode_after.is in
    sym (rw (path, all) at (text-sent ((take (c.args.size - 8) (drop 8 c.args.s.now))) k (some c.in-Some-mode_after.mode) (comma (goal.at.returns-in-Some-mode_after c).In-Some) mode))
