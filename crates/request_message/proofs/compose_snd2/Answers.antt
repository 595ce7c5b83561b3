-- `request_message::compose_snd2` meets its contract.
use mathlib.Core.List.{List, [], ◌∷◌, ◌++◌}
use mathlib.Core.Path.{refl, ◌∙◌}
use Prim.Native.Nat.{ℕ}
use lib.ListN.{length}
use Rattle.protocol.specs.Messages.{word}
use Rattle.request_message.proofs.Laws.{go_on, stop, begun-whole, snd2-bytes}
use Rattle.request_message.proofs.compose_snd2.Goals as goal

pub returns-in_err-at : goal.returns-in_err-at
returns-in_err-at c =
    let a = c.args in
    let g = c.begin_v2 in
    let m : List ℕ = word a.id ++ word (length a.path.now) ++ a.path.now ++ (word a.id ++ word a.mode.0) in
    cc (
    stop a.out.now m 4 g.new.out g.result g.ensures.result_after (word a.flags.0 ∷ []) 0 refl c.in_err-at.was
    ∙ begun-whole a.out.now _ _ (snd2-bytes a.id a.path.now a.mode.0 a.flags.0)
    )

pub returns : goal.returns
returns c =
    let a = c.args in
    let g = c.begin_v2 in
    let m : List ℕ = word a.id ++ word (length a.path.now) ++ a.path.now ++ (word a.id ++ word a.mode.0) in
    cc (
    go_on a.out.now m 4 g.new.out g.result g.ensures.result_after (word a.flags.0 ∷ []) 0 refl c.in_ok-at.at c.in_ok-at.was
    ∙ begun-whole a.out.now _ _ (snd2-bytes a.id a.path.now a.mode.0 a.flags.0)
    )
