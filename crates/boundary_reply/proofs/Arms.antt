-- What an arm of a `match` on a reply comes to. Assumes nothing.
use mathlib.Core.List.{List, []}
use mathlib.Core.Path.{◌≡◌, sym, ap}
use Prim.Native.Nat.{ℕ}
use native.Mathlib.Omega.{arith}
use Rattle.protocol.specs.Bytes.{over, put}
use Rattle.protocol.proofs.Bytes.{put_in}
use Rattle.boundary.specs.Told.{reply_number, reply_bytes}
use Rattle.session.specs.declared.Reply.{Reply}

-- the bytes and the number of a reply
pub reply-of : {x : Reply} {l : List ℕ} {n : ℕ} (b : List ℕ) (y : Reply) → x ≡ y → l ≡ put b 0 (reply_bytes y) → n ≡ reply_number y
    → ◌≡◌ {A = List ℕ × ℕ} (l, n) (put b 0 (reply_bytes x), reply_number x)
reply-of b y e h k = rw (h, k) (ap (λ (r : Reply). (put b 0 (reply_bytes r), reply_number r)) (sym e))

-- putting nothing
pub put-none : (b : List ℕ) → put b 0 [] ≡ b
unfolding over
put-none b = put_in b 0 [] (omega arith)
