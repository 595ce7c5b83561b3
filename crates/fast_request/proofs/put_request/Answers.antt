-- `fast_request::put_request` meets its contract.
use mathlib.Core.List.{List, [], ◌∷◌, ◌++◌}
use mathlib.Core.Path.{ap, ◌∙◌}
use Prim.Native.Nat.{ℕ, ◌-◌}
use native.Mathlib.Omega.{arith}
use lib.ListN.{length, take, drop}
use Rattle.std.specs.Prelude.{Option}
use Rattle.protocol.specs.Bytes.{put}
use Rattle.protocol.specs.Messages.{word, joined, message_of, bytes_of_request}
use Rattle.ids.specs.Ids.{number_of}
use Rattle.request_message.proofs.Laws.{placed_end}
use Rattle.request_message.specs.Composed.{placed}
use Rattle.recv_buf.specs.declared.RecvBuf.{RecvBuf}
use Rattle.fast_record.specs.Standing.{ids_held}
use Rattle.fast_request.specs.Starting.{ask_bytes}
use Rattle.fast_request.proofs.put_request.Goals as goal

pub returns : goal.returns
unfolding bytes_of_request message_of
returns c =
    let a = c.args in
    let rec = a.rec.now in
    let k = c.compact in
    let r = c.compose_lent in
    let x = k.new.buf in
    let held = a.tail - a.head in
    let p = a.path.now in
    let i = c.id_in-id.ensures ∙ ap (number_of (ids_held rec)) c.path_id.ensures in
    let e = r.ensures ∙ ap (λ (j : ℕ). placed (take (length x - held) (drop held x)) 0 (word j ++ word (length p) ++ joined (p ∷ []))) i in
    ap (λ (s : List ℕ × Option ℕ). s.0) (placed_end x held (omega arith) (ask_bytes rec a.call p) r.new.out r.result e)
    ∙ ap (λ (s : List ℕ × RecvBuf). put s.0 held (ask_bytes rec a.call p)) k.ensures
