-- Answers to goals of `format_number::put_bytes`.
use mathlib.Core.Path.{◌≡◌, refl, sym, ◌∙◌}
use native.Mathlib.Numerals.{add-one}
use native.Mathlib.Omega.{arith}
use lib.ListN.{length, length-set}
use lib.Seq.{paste-zero, paste-suc}
use Rattle.protocol.proofs.Bytes.{paste-over, put_in, put-out}
use Rattle.format_number.proofs.put_bytes.Goals as goal

pub returns-then-out-off : goal.returns-then-out-off
returns-then-out-off c = sym (put-out _ _ _ (omega arith))

pub loop-i-init : goal.loop-i-init
loop-i-init c = let a = c.args in (paste-zero a.out.now a.off a.src.now, refl)

pub loop-i-preserved : goal.loop-i-preserved
loop-i-preserved c =
    let s = c.args in
    let l = c.loop-i in (
      rw (l.invariant.0, add-one) (paste-suc s.out.now s.off s.src.now l.i 0 (omega arith) (omega arith)),
      simp length-set l.invariant.1,
    )

pub returns : goal.returns
returns c =
    let s = c.args in
    let e : c.loop-i.i ≡ length s.src.now = omega arith in
    rw e at c.loop-i.invariant.0
    ∙ paste-over s.out.now s.off s.src.now
    ∙ sym (put_in s.out.now s.off s.src.now (omega arith))
