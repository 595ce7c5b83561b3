-- `request_message::begin_v2` meets its contract.
use mathlib.Core.List.{List, ◌++◌}
use Prim.Native.Nat.{ℕ, ◌+◌}
use borrow.Author.Rules.{rules}
use lib.ListN.{length}
use Rattle.protocol.specs.Messages.{word}
use Rattle.request_message.proofs.Laws.{begun-within, v2_puts, v2_stop}
use Rattle.request_message.proofs.begin_v2.Goals as goal

pub returns-in_err-at : goal.returns-in_err-at
returns-in_err-at c =
    let a = c.args in
    let g = c.begin in
    let n : ℕ = length a.path.now in
    let w = v2_stop a.out.now (word a.id ++ word n ++ a.path.now) g.new.out g.result a.rest g.ensures.result_after a.id a.first c.in_err-at.was in record { result_after = cc w; upper_bound = search rules }

pub returns : goal.returns
returns c =
    let a = c.args in
    let g = c.begin in
    let at = c.in_ok-at.at in
    let m : List ℕ = word a.id ++ word (length a.path.now) ++ a.path.now in
    let w = v2_puts a.out.now m g.new.out g.result a.rest g.ensures.result_after a.id a.first at c.in_ok-at.was in record { result_after = cc w; upper_bound = begun-within a.out.now _ a.rest _ (at + 8) w }
