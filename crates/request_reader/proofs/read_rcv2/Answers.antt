-- `request_reader::read_rcv2` meets its contract.
use borrow.Author.Rules.{rules}
use Rattle.request_reader.proofs.Parts.{on-flags}
use Rattle.request_reader.proofs.read_rcv2.Goals as goal

pub returns-in_err-words_part : goal.returns-in_err-words_part
returns-in_err-words_part c =
    let f = c.u32_at in
    rw (on-flags c.args.n f.result c.args.s.now f.ensures, ← c.words_part.ensures) (search rules)

pub returns : goal.returns
returns c =
    let f = c.u32_at in
    rw (on-flags c.args.n f.result c.args.s.now f.ensures, ← c.words_part.ensures) (search rules)
