-- `boundary_reply::put_header_piece` meets its contract.
use mathlib.Core.List.{List, [], ◌∷◌, ◌++◌}
use mathlib.Core.Path.{sym, ap, ◌∙◌}
use Prim.Native.Nat.{ℕ}
use native.Mathlib.Omega.{arith}
use Rattle.protocol.specs.Bytes.{put}
use Rattle.protocol.specs.Messages.{word}
use Rattle.protocol.proofs.Bytes.{put-out, put-put}
use Rattle.record.specs.Record.{words}
use Rattle.boundary_reply.proofs.put_header_piece.Goals as goal

pub returns-then-out-lt16 : goal.returns-then-out-lt16
returns-then-out-lt16 c = sym (put-out _ _ (words (8 ∷ []) ++ word _ ++ word _) (omega arith))

-- the id behind the number of bytes, and the arg behind both
pub returns : goal.returns
returns c =
    let a = c.args in
    let b : List ℕ = a.out.now in
    c.put_u32-2.ensures
    ∙ ap (λ (l : List ℕ). put l 12 (word a.arg))
    (c.put_u32.ensures
    ∙ ap (λ (l : List ℕ). put l 8 (word a.id)) c.put_u64.ensures
    ∙ put-put b 0 8 (words (8 ∷ [])) (word a.id) (omega arith) (omega arith))
    ∙ put-put b 0 12 (words (8 ∷ []) ++ word a.id) (word a.arg) (omega arith) (omega arith)
