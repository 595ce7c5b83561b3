-- `request_message::put_lent` meets its contract.
use mathlib.Core.List.{List}
use mathlib.Core.Path.{◌≡◌, ap, ◌∙◌}
use Prim.Native.Nat.{ℕ, ◌+◌, ◌-◌, ◌≤◌}
use native.Mathlib.Omega.{arith}
use lib.ListN.{length, take, drop, length-drop, take-append-drop}
use lib.Seq.{length-take-le, take_all}
use Rattle.protocol.specs.Bytes.{put}
use Rattle.protocol.proofs.Bytes.{put-put}
use Rattle.request_message.proofs.put_lent.Goals as goal

-- some bytes put in two parts
parted : (b l x y : List ℕ) → 8 ≤ length l → 8 + length l ≤ length b → y ≡ put b 8 (take 8 l) → x ≡ put y 16 (take (length l - 8) (drop 8 l))
    → x ≡ put b 8 l
parted b l x y m h e f =
    f
    ∙ ap (put y 16) (take_all (length l - 8) (drop 8 l) (omega (arith, length-drop 8 l)))
    ∙ ap (λ (z : List ℕ). put z 16 (drop 8 l)) e
    ∙ put-put b 8 16 (take 8 l) (drop 8 l) (omega (arith, length-take-le 8 l m)) (omega (arith, length-drop 8 l))
    ∙ ap (put b 8) (take-append-drop 8 l)

pub returns : goal.returns
returns c =
    let a = c.args in
    parted a.out.now a.lent.now _ _ (omega arith) (omega arith)
    c.put_bytes-2.ensures c.put_bytes-3.ensures
