-- `request_message::compose_digits` meets its contract.
use mathlib.Core.List.{List, [], ◌∷◌, ◌++◌, append-nil}
use mathlib.Core.Path.{◌≡◌, ap, ◌∙◌}
use Prim.Native.Nat.{ℕ, ◌+◌}
use native.Mathlib.Omega.{arith}
use lib.ListN.{length}
use Rattle.protocol.specs.Messages.{word, comma, joined}
use Rattle.request_message.proofs.Laws.{go_on, stop, begun-whole}
use Rattle.request_message.proofs.compose_digits.Goals as goal

-- the room that is asked for is that of the comma and the digits
room : (d : List ℕ) → 1 + length d ≡ length (joined (comma ∷ d ∷ [])) + 0
room d = let l = ap length (append-nil d) in omega arith

pub returns-in_err-at : goal.returns-in_err-at
returns-in_err-at c =
    let a = c.args in
    let g = c.begin in
    let d = a.digits.now in
    let n : ℕ = length a.path.now + (1 + length d) in
    let m : List ℕ = word a.id ++ word n ++ a.path.now in
    cc (
    stop a.out.now m (1 + length d) g.new.out g.result g.ensures.result_after (comma ∷ d ∷ []) 0 (room d) c.in_err-at.was
    ∙ begun-whole a.out.now _ _ (ap (λ l. m ++ (comma ++ l)) (append-nil d))
    )

pub returns : goal.returns
returns c =
    let a = c.args in
    let g = c.begin in
    let at = c.in_ok-at.at in
    let d = a.digits.now in
    let n : ℕ = length a.path.now + (1 + length d) in
    let m : List ℕ = word a.id ++ word n ++ a.path.now in
    let k : at + length (joined (comma ∷ d ∷ [])) ≡ at + (1 + length d) = omega (arith, room d) in
    cc (
    go_on a.out.now m (1 + length d) g.new.out g.result g.ensures.result_after (comma ∷ d ∷ []) 0 (room d) at c.in_ok-at.was
    ∙ begun-whole a.out.now _ _ (ap (λ l. m ++ (comma ++ l)) (append-nil d))
    )
