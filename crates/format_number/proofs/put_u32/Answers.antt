-- `format_number::put_u32` meets its contract.
use mathlib.Core.Path.{sym, ap, ◌∙◌}
use native.Mathlib.Omega.{arith}
use lib.ListN.{length}
use Rattle.protocol.specs.Bytes.{over, bytes_of}
use Rattle.protocol.proofs.Bytes.{put_in, put-out, length-bytes_of}
use Rattle.format_number.proofs.Numbers.{to_le_bytes-of_4}
use Rattle.format_number.proofs.Words.{put_mid-over}
use Rattle.format_number.proofs.put_u32.Goals as goal

pub returns-then-out-off : goal.returns-then-out-off
returns-then-out-off c = sym (put-out _ _ _ (omega (arith, length-bytes_of 4 c.args.x)))

pub returns : goal.returns
returns c =
    let a = c.args in
    let b = c.copy_from_slice in
    put_mid-over a.off _ a.out.now b.new.self (ap length b.ensures.after ∙ omega arith)
    ∙ ap (over a.out.now a.off) (b.ensures.after ∙ c.to_le_bytes.ensures ∙ to_le_bytes-of_4 a.x)
    ∙ sym (put_in a.out.now a.off (bytes_of 4 a.x) (omega (arith, length-bytes_of 4 a.x)))
