-- Answers to goals of `listing_lines::put_octal`: all digits but the last, then the last.
use mathlib.Core.List.{List}
use mathlib.Core.Path.{sym, subst}
use Prim.Native.Nat.{ℕ}
use native.Mathlib.Omega.{arith}
use Rattle.protocol.proofs.Digits.{digits-small, digits_step, length-small, length-step}
use Rattle.listing_lines.specs.Lines.{Laid}
use Rattle.listing_lines.proofs.Laws.{laid-laid, laid-length}
use Rattle.listing_lines.proofs.+put_octal.Goals as goal

pub put_byte-requires : goal.put_byte-requires
put_byte-requires t c = omega (arith, c.requires, length-small 8 (omega arith) c.args.n (omega arith))

pub returns-then-n-lt8 : goal.returns-then-n-lt8
returns-then-n-lt8 t c =
    subst (λ (m : List ℕ). Laid c.args.out.now c.args.at m c.put_byte.new.out c.put_byte.result)
    (sym (digits-small 8 (omega arith) c.args.n (omega arith))) c.put_byte.ensures

pub put_octal-last-requires : goal.put_octal-last-requires
put_octal-last-requires t c = (omega (arith, c.decreases), omega (arith, c.requires, length-step 8 (omega arith) c.args.n (omega arith)))

pub put_byte-requires-2 : goal.put_byte-requires-2
put_byte-requires-2 t c =
    let l = length-step 8 (omega arith) c.args.n (omega arith) in
    omega (arith, c.requires, laid-length c.put_octal-last.ensures (omega (arith, c.requires)))

pub returns : goal.returns
returns t c =
    let l = length-step 8 (omega arith) c.args.n (omega arith) in
    subst (λ (m : List ℕ). Laid c.args.out.now c.args.at m c.put_byte-2.new.out c.put_byte-2.result)
    (sym (digits_step 8 (omega arith) c.args.n (omega arith)))
    (laid-laid c.put_octal-last.ensures (omega (arith, c.requires)) c.put_byte-2.ensures)
