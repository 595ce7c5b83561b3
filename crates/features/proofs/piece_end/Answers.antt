-- `features::piece_end` meets its contract.
use mathlib.Core.Path.{◌≡◌, sym, ap, ◌∙◌}
use native.Mathlib.Omega.{arith}
use lib.ListN.{drop, length-drop}
use lib.Seq.{take_all}
use Rattle.std.specs.Prelude.{position}
use Rattle.protocol.specs.Features.{separator}
use Rattle.features.proofs.Pieces.{piece_to, piece_all}
use Rattle.features.proofs.piece_end.Goals.{After-first_separator}
use Rattle.features.proofs.piece_end.Goals as goal

found : (c : After-first_separator) → c.first_separator.result ≡ position separator (drop c.args.from c.args.s.now)
found c =
    let s = c.args.s.now in
    c.first_separator.ensures ∙ ap (position separator) (take_all _ (drop c.args.from s) (omega (arith, length-drop c.args.from s)))

pub returns-in-Some : goal.returns-in-Some
returns-in-Some c =
    let e = sym (found (goal.at.returns-in-Some c).After-first_separator) ∙ c.in-Some.is in
    let p = piece_to c.args.s.now c.args.from (omega arith) c.in-Some.size e in
    (omega arith, p.0, p.1)

pub returns-in-None : goal.returns-in-None
returns-in-None c =
    let e = sym (found (goal.at.returns-in-None c).After-first_separator) ∙ c.in-None.is in
    (omega arith, omega arith, piece_all c.args.s.now c.args.from (omega arith) e)
