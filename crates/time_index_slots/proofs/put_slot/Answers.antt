-- `time_index_slots::put_slot` meets its contract.
use mathlib.Core.List.{List, ◌++◌}
use mathlib.Core.Path.{ap, ◌∙◌}
use Prim.Native.Nat.{ℕ, ◌+◌, ◌*◌}
use native.Mathlib.Omega.{arith}
use Rattle.protocol.specs.Bytes.{bytes_of, put}
use Rattle.protocol.proofs.Bytes.{put_in, put-put}
use Rattle.time_index.specs.Index.{most_entries}
use Rattle.time_index_slots.proofs.Laws.{unsigned_back}
use Rattle.time_index_slots.proofs.put_slot.Goals as goal

pub returns : goal.returns
returns c =
    let a = c.args in
    let s = a.slots.now in
    let x = bytes_of 8 a.time in
    let y = bytes_of 4 a.start in
    let z = bytes_of 4 (most_entries * a.len + a.number) in
    rw (unsigned_back a.time (omega arith))
    (c.put_u32-2.ensures
    ∙ ap (λ (l : List ℕ). put l (a.at + 12) z) (c.put_u32.ensures ∙ ap (λ (l : List ℕ). put l (a.at + 8) y) c.put_u64.ensures ∙ put-put s a.at (a.at + 8) x y (omega arith) (omega arith))
    ∙ put-put s a.at (a.at + 12) (x ++ y) z (omega arith) (omega arith)
    ∙ put_in s a.at (x ++ y ++ z) (omega arith))
