-- Answers to goals of `format_number::put_u64s`.
use mathlib.Core.Path.{◌≡◌, refl, sym, ◌∙◌}
use native.Mathlib.Omega.{arith}
use lib.ListN.{length, take}
use lib.Seq.{take_all}
use Rattle.protocol.proofs.Bytes.{over_none, put_in, put-out}
use Rattle.format_number.specs.Words.{words}
use Rattle.format_number.proofs.Words.{length-words, put_next_word}
use Rattle.format_number.proofs.put_u64s.Goals as goal

pub returns-then-out-off : goal.returns-then-out-off
returns-then-out-off g c =
    let a = c.args in
    let n : length a.numbers ≡ g.row.N = omega arith in
    sym (put-out a.out.now a.off (words a.numbers) (omega (arith, length-words a.numbers)))

pub loop-i-init : goal.loop-i-init
loop-i-init g c = sym (over_none _ _)

pub loop-i-preserved : goal.loop-i-preserved
loop-i-preserved g c =
    let a = c.args in
    let l = c.loop-i in
    let n : length a.numbers ≡ g.row.N = omega arith in
    put_next_word _ a.off l.i _ _ a.numbers l.out _ l.invariant (c.copy_from_slice.ensures.after ∙ c.to_le_bytes.ensures) (omega arith) (omega arith) refl (omega arith)

pub returns : goal.returns
returns g c =
    let a = c.args in
    let all : take c.loop-i.i a.numbers ≡ a.numbers = take_all c.loop-i.i a.numbers (omega arith) in
    rw all at c.loop-i.invariant ∙ sym (put_in a.out.now a.off (words a.numbers) (omega (arith, length-words a.numbers)))
