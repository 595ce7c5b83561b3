-- `request_reader::read_snd2` meets its contract.
use borrow.Author.Rules.{rules}
use Rattle.request_reader.proofs.Parts.{on-mode_flags}
use Rattle.request_reader.proofs.read_snd2.Goals as goal

pub returns-in_err-words_part : goal.returns-in_err-words_part
returns-in_err-words_part c =
    let m = c.u32_at in
    let f = c.u32_at-2 in
    rw (on-mode_flags c.args.n m.result f.result c.args.s.now m.ensures f.ensures, ← c.words_part.ensures) (search rules)

pub returns : goal.returns
returns c =
    let m = c.u32_at in
    let f = c.u32_at-2 in
    rw (on-mode_flags c.args.n m.result f.result c.args.s.now m.ensures f.ensures, ← c.words_part.ensures) (search rules)
