-- `request_reader::path_part` meets its contract.
use mathlib.Core.Path.{sym, ◌∙◌}
use native.Mathlib.Omega.{arith}
use Rattle.request_reader.proofs.Parts.{part-long, part-more, part-bad, part-good}
use Rattle.request_reader.proofs.path_part.Goals as goal

pub returns-then-n-gt-MAX_PATH : goal.returns-then-n-gt-MAX_PATH
returns-then-n-gt-MAX_PATH c = sym (part-long _ _ _ c.if-n-gt-MAX_PATH.true)

pub returns-then-s-size : goal.returns-then-s-size
returns-then-s-size c = sym (part-more _ _ _ c.if-n-gt-MAX_PATH.false (omega arith))

pub returns-then-bad_path : goal.returns-then-bad_path
returns-then-bad_path c =
    sym (part-bad _ _ _ c.if-n-gt-MAX_PATH.false (omega arith) (sym c.bad_path.ensures ∙ c.if-bad_path.true))

pub returns : goal.returns
returns c =
    sym (part-good _ _ _ c.if-n-gt-MAX_PATH.false (omega arith) (sym c.bad_path.ensures ∙ c.if-bad_path.false))
