-- `request_reader::words_part` meets its contract.
use mathlib.Core.Path.{◌≡◌, sym, ◌∙◌}
use native.Mathlib.Omega.{arith}
use borrow.Author.Rules.{rules}
use Rattle.std.specs.Prelude.{Ok}
use Rattle.request_reader.specs.Meaning.{part_of, words_of}
use Rattle.request_reader.proofs.Parts.{part-whole}
use Rattle.request_reader.proofs.words_part.Goals.{In_ok-path_part}
use Rattle.request_reader.proofs.words_part.Goals as goal

-- where the first test passes the message is there, and its path good
there : (c : In_ok-path_part) → (let a = c.args in part_of a.n a.behind a.s.now ≡ Ok tt)
there c = sym c.path_part.ensures ∙ c.in_ok-path_part.was

pub returns-in_err-path_part : goal.returns-in_err-path_part
unfolding words_of
returns-in_err-path_part c = rw (← c.path_part.ensures, c.in_err-path_part.was) (search rules)

pub overflow_add-n : goal.overflow_add-n
overflow_add-n c =
    let a = c.args in
    let fits = part-whole a.n a.behind a.s.now (there (goal.at.overflow_add-n c).In_ok-path_part) in
    search rules

pub words_refused-requires : goal.words_refused-requires
words_refused-requires c =
    let a = c.args in
    let fits = part-whole a.n a.behind a.s.now (there (goal.at.words_refused-requires c).In_ok-path_part) in
    (omega arith, omega arith)

pub returns-then-words_refused : goal.returns-then-words_refused
unfolding words_of
returns-then-words_refused c = rw (there (goal.at.returns-then-words_refused c).In_ok-path_part, sym c.words_refused.ensures ∙ c.if-words_refused.true)

pub returns : goal.returns
unfolding words_of
returns c = rw (there (goal.at.returns c).In_ok-path_part, sym c.words_refused.ensures ∙ c.if-words_refused.false)
