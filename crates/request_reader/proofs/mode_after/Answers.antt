-- `request_reader::mode_after` meets its contract.
use Prim.Native.Nat.{ℕ, ◌+◌}
use mathlib.Core.Path.{sym, ap, ◌∙◌}
use native.Mathlib.Numerals.{add-one}
use native.Mathlib.Omega.{arith}
use lib.ListN.{drop}
use lib.Seq.{length-take-le}
use Rattle.protocol.specs.Modes.{mode_in}
use Rattle.protocol.proofs.Bytes.{end_whole}
use Rattle.request_reader.specs.Meaning.{mode_after}
use Rattle.request_reader.proofs.mode_after.Goals as goal

pub slice_bounds-bad_path-end : goal.slice_bounds-bad_path-end
slice_bounds-bad_path-end c = sym (length-take-le _ _ (omega arith))

pub returns-then-bad_path : goal.returns-then-bad_path
unfolding mode_after
returns-then-bad_path c = rw (sym c.bad_path.ensures ∙ c.if-bad_path.true)

pub returns : goal.returns
unfolding mode_after
returns c =
    let a = c.args in
    let text = end_whole a.text.now (a.k + 1) (omega arith) ∙ ap (λ (j : ℕ). drop j a.text.now) (add-one a.k) in
    rw (sym c.bad_path.ensures ∙ c.if-bad_path.false) (c.parse_mode.ensures ∙ ap mode_in text)
