-- `session_pump::keep_text` meets its contract.
use mathlib.Core.List.{List}
use mathlib.Core.Path.{◌≡◌, ◌∙◌}
use Prim.Native.Nat.{ℕ, ◌+◌, ◌-◌, ◌≤◌}
use native.Mathlib.Nat.{zero-add}
use native.Mathlib.Omega.{arith}
use lib.ListN.{length, take, drop, length-drop}
use lib.Seq.{length-take-le}
use Rattle.protocol.proofs.Bytes.{put_in}
use Rattle.protocol.specs.Bytes.{over, put}
use Rattle.session.specs.Steps.{kept}
use Rattle.session_pump.proofs.keep_text.Goals as goal

-- a text that is kept is put over the front of the message buffer
kept_put : (rx : List ℕ) (i n : ℕ) (msg : List ℕ) → i + n ≤ length rx → n ≤ length msg → put msg 0 (take n (drop i rx)) ≡ kept rx i n msg
unfolding kept over
kept_put rx i n msg there room =
    let l : length (take n (drop i rx)) ≡ n = length-take-le n (drop i rx) (omega (arith, length-drop i rx)) in
    rw (put_in msg 0 (take n (drop i rx)) (omega arith), l, zero-add)

pub returns : goal.returns
returns c =
    let a = c.args in
    let e : a.head + a.n - a.head ≡ a.n = omega arith in
    rw e at c.put_bytes.ensures ∙ kept_put a.rx.now a.head a.n a.msg.now (omega arith) (omega arith)
