-- `boundary_reply::put_piece` meets its contract.
use mathlib.Core.List.{List, [], ◌∷◌, ◌++◌}
use mathlib.Core.Path.{◌≡◌, sym, ap, ◌∙◌}
use Prim.Native.Nat.{ℕ}
use native.Mathlib.Omega.{arith}
use lib.ListN.{length}
use Rattle.std.specs.Prelude.{Option}
use Rattle.protocol.specs.Bytes.{put}
use Rattle.protocol.proofs.Bytes.{put-out, put-put}
use Rattle.request_piece.specs.Pieces.{by_value}
use Rattle.record.specs.Record.{words}
use Rattle.boundary_reply.proofs.put_piece.Goals as goal

pub returns-then-out-all : goal.returns-then-out-all
returns-then-out-all c =
    let a = c.args in
    let m = by_value a.p in
    sym (put-out a.out.now 0 (words (length m ∷ []) ++ m) (omega (arith, c.piece_len-n.ensures.0)))

-- the bytes behind their number
pub returns : goal.returns
returns c =
    let a = c.args in
    let b : List ℕ = a.out.now in
    let m : List ℕ = by_value a.p in
    let n : (c.piece_len-n.result ≡ length m) = c.piece_len-n.ensures.0 in
    ap (λ (s : List ℕ × Option ℕ). s.0) c.piece_behind.ensures
    ∙ ap (λ (l : List ℕ). put l 8 m) (c.put_u64.ensures ∙ ap (λ (k : ℕ). put b 0 (words (k ∷ []))) n)
    ∙ put-put b 0 8 (words (length m ∷ [])) m (omega arith) (omega arith)
