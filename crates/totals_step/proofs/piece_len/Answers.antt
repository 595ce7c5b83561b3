-- `totals_step::piece_len` meets its contract.
use Rattle.std.proofs.Common.{sym, ◌∙◌, arith}
use Rattle.record.proofs.Words.{word_in}
use Rattle.totals_step.proofs.Asked.{asks-part, asks-said, asks-close}
use Rattle.totals_step.proofs.piece_len.Goals as goal

pub returns-in-2-to-3 : goal.returns-in-2-to-3
returns-in-2-to-3 c =
    let a = c.args in
    c.u64_at-in-2-to-3.ensures ∙ word_in a.out.now 1 (omega arith) ∙ sym (asks-part a.n a.out.now 0 (omega arith) (omega arith))

pub returns-in-4 : goal.returns-in-4
returns-in-4 c =
    let out = c.args.out.now in
    asks-said c.args.n out 0 c.in-4.is (c.u64_at.ensures ∙ word_in out 0 (omega arith)) (c.requires.2 c.in-4.is)

pub returns-in_default-2 : goal.returns-in_default-2
returns-in_default-2 c =
    let a = c.args in
    sym (asks-close a.n a.out.now 0 (omega arith))
