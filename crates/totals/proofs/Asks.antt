-- A host is never asked to write 2^64 bytes: what it hears is read from eight bytes.
-- Assumes nothing.
use Prim.Native.Nat.{ℕ, zero, suc, ◌*◌, ◌/◌, ◌%◌, ◌≤◌, ◌<◌, ◌^◌}
use mathlib.Core.List.{List, [], ◌∷◌}
use mathlib.Core.Path.{◌≡◌}
use native.Mathlib.Omega.{arith}
use borrow.Author.Tests.{eq-eqb}
use lib.ListN.{length, drop, length-take, length-drop}
use Rattle.protocol.specs.Bytes.{bytes_of, le, put, over, number_at}
use Rattle.protocol.proofs.Bytes.{put_in, put-length}
use Rattle.record.specs.Record.{words}
use Rattle.record.proofs.Words.{length-words}
use Rattle.session.specs.declared.Reply.{Reply}
use Rattle.session.specs.declared.Reply.TheVariants as R
use Rattle.boundary.specs.Crossing.{Crossed}
use Rattle.boundary.specs.Heard.{at, heard}
use Rattle.boundary.specs.Told.{answer_number, reply_number, reply_bytes, out_size}
use Rattle.boundary_misuse.specs.Claim.{heard_of}
use Rattle.boundary_misuse.specs.Misuse.{Act, Event, acted}
use Rattle.session_layer.specs.Layer.{asked}
use Rattle.totals.specs.Crossing.{limit}
use Rattle.totals.proofs.Steps.{acted-all}

le-small : (k x : ℕ) → le (bytes_of k x) < 256 ^ k
le-small zero x = omega arith
le-small (suc k) x = omega (arith, le-small k (x / 256))

module _ (out : List ℕ) (few : length out < 2 ^ 63) (room : out_size ≤ length out) where
  second-small : (i n : ℕ) → at (put out 0 (words (i ∷ n ∷ []))) 1 < limit
  unfolding number_at over
  second-small i n = rw (put_in out 0 (words (i ∷ n ∷ [])) (omega (arith, length-words (i ∷ n ∷ [])))) (le-small 8 n)

  reply-small : (rx msg : List ℕ) (r : Reply) → asked (heard (reply_number r) (put out 0 (reply_bytes r)) rx msg) < limit
  unfolding heard reply_number reply_bytes
  reply-small rx msg (R.Told a) = let z : 256 * answer_number a % 256 ≡ 0 = omega arith in rw (eq-eqb (256 * answer_number a % 256) 0 z) (omega arith)
  reply-small rx msg (R.Read i n) = omega arith
  reply-small rx msg (R.WriteRx i n) = second-small i n
  reply-small rx msg (R.WriteLent i n) = second-small i n
  reply-small rx msg (R.WriteBytes p) =
      let m : List ℕ = put out 0 (reply_bytes (R.WriteBytes p)) in
      let k : length m ≡ length out = put-length out 0 (reply_bytes (R.WriteBytes p)) in
      omega (arith, length-take (at m 0) (drop 8 m), length-drop 8 m)
  reply-small rx msg R.Close = omega arith

pub acted-small : (rec : List ℕ) (e : Event) → length e.out < 2 ^ 63 → (x : Act) → asked (heard_of (acted rec e x)) < limit
unfolding heard
acted-small rec e h =
    acted-all rec e (λ (c : Crossed). asked (heard_of c) < limit) (omega arith) (λ l o. reply-small e.out h l o.st.rx o.st.msg o.reply) (λ t r. omega arith)
