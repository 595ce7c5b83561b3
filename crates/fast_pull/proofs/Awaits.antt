-- A chunk whose header is awaited at once, with nothing held: this is its crossing. Assumes nothing.
use mathlib.Core.Bool.{Bool, false}
use mathlib.Core.List.{List}
use mathlib.Core.Path.{◌≡◌, refl, sym, ap, ◌∙◌}
use Prim.Native.Nat.{ℕ, ◌-◌, ◌≤◌}
use native.Mathlib.Omega.{arith}
use borrow.Author.Tests.{le-leb, eq-eqb, eqb-true}
use lib.ListN.{length}
use Rattle.boundary.specs.Crossing.{crossed, back, request_numbered, call_numbered, unknown_call, cross_start}
use Rattle.boundary.specs.Told.{reply_number, out_size}
use Rattle.fast_replies.specs.Direct.{tried}
use Rattle.fast_replies.proofs.Taken.{ses, good, head-same, tail-same, no-refusal, done-tried}
use Rattle.fast_replies.proofs.Whole.{turn_asks}
use Rattle.recv_buf.specs.RecvBuf.{cursor, held_count, compacted}
use Rattle.recv_buf.specs.declared.RecvBuf.{RecvBuf}
use Rattle.recv_buf.proofs.Laws.{Sound, compacted-head, compacted-behind}
use Rattle.session.proofs.Buf.{sound-of}
use Rattle.session.specs.Calls.{chunk_call}
use Rattle.session.specs.Phases.{wants}
use Rattle.session.specs.State as S
use Rattle.session.specs.State.{St, st, stepped, at, begun, Good}
use Rattle.session.specs.Steps.{reading, read_on}
use Rattle.session.specs.Sends.{tidied}
use Rattle.session.specs.declared.Pending.TheVariants.{Idle, Reading}
use Rattle.session.specs.declared.Phase.TheVariants.{Header}
use Rattle.session.specs.declared.Reply.TheVariants as R
use Rattle.session.specs.declared.Want.TheVariants as W
use Rattle.fast_record.specs.Standing.{number_in, Stands, plain_step}
use Rattle.fast_record.proofs.Laws.{stands-in}
use Rattle.fast_pull.specs.Chunks.{nothing_held, next_done, next_now}

-- compaction of nothing moves nothing, and leaves the whole buffer free
module _ (b : List ℕ) (c : RecvBuf) (s : Sound b c) (e : held_count c ≡ 0) where
  none-moved : (compacted b c).0 ≡ b
  none-moved = rw e at (compacted-behind b c s)

  all-free : (compacted b c).1 ≡ cursor 0 0
  all-free = compacted-head b c s ∙ rw e

-- a session that holds nothing, and awaits a header
empty-asked : (s : St) → Good s → held_count s.ses.buf ≡ 0
    → read_on (tidied s) (Header W.Chunk) false ≡ S.out (reading s.ses 0 0 (Header W.Chunk) false) s.rx s.msg
unfolding wants
empty-asked s g e =
    let c = sound-of s g in
    rw (none-moved s.rx s.ses.buf c e, all-free s.rx s.ses.buf c e)
    (turn_asks (st (at s.ses (cursor 0 0) Idle) s.rx s.msg) (Header W.Chunk) false 3 g.least (omega arith) (omega (arith, g.least)))

module _ (rec rx msg lent out : List ℕ) (h : Stands rec (length rx) (length msg)) (o : out_size ≤ length out) (idle : number_in rec 7 ≡ 0) where
  -- the step, by the session's own definitions
  next-stepped : number_in rec 2 ≡ number_in rec 3
      → S.out (reading (begun (ses rec rx msg h) (length lent)) 0 0 (Header W.Chunk) false) rx msg ≡ chunk_call (st (ses rec rx msg h) rx msg) (length lent)
  unfolding chunk_call
  next-stepped e =
      let i = head-same rec rx msg h in
      let j = tail-same rec rx msg h in
      rw (no-refusal rec rx msg h idle)
      (sym (empty-asked (st (begun (ses rec rx msg h) (length lent)) rx msg) (good rec rx msg h (length lent)) (omega arith)))

  place : S.out (stepped (at (begun (ses rec rx msg h) (length lent)) (cursor 0 0) (Reading (Header W.Chunk) 8 false)) (R.Read 0 (length rx))) rx msg
      ≡ S.out (reading (begun (ses rec rx msg h) (length lent)) 0 0 (Header W.Chunk) false) rx msg
  unfolding wants
  place =
      let g = good rec rx msg h (length lent) in
      let e : (ses rec rx msg h).capacity - 0 ≡ length rx = omega (arith, g.rx) in
      rw e

  pub next-tried : (call : ℕ) → call ≡ 14 → (a b : ℕ) (t : Bool) (new told : List ℕ) → (t, new, told) ≡ next_done rec (length rx) (length lent) out
      → (t, crossed new rx msg told 1) ≡ tried (next_now rec rx msg call out) (cross_start rec rx msg lent call a b out) (crossed rec rx msg out 1)
  unfolding cross_start reply_number
  next-tried call c a b t new told e =
      done-tried rec rx msg out h o (λ s. back rec out (call_numbered call a b s lent (request_numbered call a b) (unknown_call s)))
      0 0 (length lent) 1 (plain_step 17 8) (Reading (Header W.Chunk) 8 false) (R.Read 0 (length rx))
      refl refl refl (nothing_held rec) (next_now rec rx msg call out) t new told
      (rw (
        eq-eqb call 14 c,
        eq-eqb (number_in rec 7) 0 idle,
        stands-in rec (length rx) (length msg) h,
        le-leb out_size (length out) o,
      ))
      (λ z. ap (back rec out) (place ∙ next-stepped (eqb-true (number_in rec 2) (number_in rec 3) z) ∙ called))
      e
    where
      called : chunk_call (st (ses rec rx msg h) rx msg) (length lent)
          ≡ call_numbered call a b (st (ses rec rx msg h) rx msg) lent (request_numbered call a b) (unknown_call (st (ses rec rx msg h) rx msg))
      called = rw c
