-- A read that completes a chunk's body, taken at once, is its crossing. Assumes nothing.
use mathlib.Core.Bool.{Bool, and-eq-true_iff}
use mathlib.Core.List.{List}
use mathlib.Core.Path.{◌≡◌, refl, sym, ◌∙◌}
use Prim.Native.Nat.{ℕ, ◌+◌, ◌-◌, ◌≤◌}
use native.Mathlib.Omega.{arith}
use borrow.Author.Tests.{le-leb, eq-eqb, leb-true}
use lib.Dec.{leb}
use lib.ListN.{length}
use Rattle.boundary.specs.Crossing.{crossed, back_read, cross_read}
use Rattle.boundary.specs.Told.{reply_number, out_size}
use Rattle.fast_replies.specs.Direct.{tried, met_by}
use Rattle.fast_replies.proofs.Arrivals.{Met, met_of, came, good-came, read-met}
use Rattle.fast_replies.proofs.Taken.{ses, head-same, tail-same, lent_same, pending-at, done-tried}
use Rattle.fast_replies.proofs.Whole.{dropped, turn_stops}
use Rattle.record.specs.Fields.{is_one, low}
use Rattle.record.specs.Record.{word_of}
use Rattle.recv_buf.specs.RecvBuf.{cursor}
use Rattle.session.specs.Phases.{wants, turn_at}
use Rattle.session.specs.State as S
use Rattle.session.specs.State.{St, stepped, at, begun}
use Rattle.session.specs.Steps.{read_on}
use Rattle.session.specs.Sends.{told}
use Rattle.session.specs.declared.Answer.TheVariants as A
use Rattle.session.specs.declared.Pending.TheVariants.{Idle, Reading}
use Rattle.session.specs.declared.Phase.TheVariants.{Body}
use Rattle.session.specs.declared.Reply.TheVariants.{Told}
use Rattle.fast_record.specs.Standing.{number_in, Stands}
use Rattle.fast_record.proofs.Laws.{number-in, stands-in}
use Rattle.fast_pull.specs.Chunks.{body_length, body_came, body_done, body_now}

module _ (rec rx msg lent out : List ℕ) (h : Stands rec (length rx) (length msg)) (o : out_size ≤ length out)
    (same : length lent ≡ number_in rec 4) (state : number_in rec 7 ≡ 28) where
  -- the length of its body, in the session
  abbrev n : ℕ
  n = low (word_of rec 12)

  awaits : (ses rec rx msg h).pending ≡ Reading (Body n) (word_of rec 9) (is_one (word_of rec 8))
  awaits = pending-at rec rx msg h 28 state

  module _ (k : ℕ) (m : Met rec rx k) (all : 8 + body_length rec ≤ number_in rec 3 + k - number_in rec 2) where
    abbrev t : St
    t = came rec rx msg h k

    body_stepped : told (dropped t (8 + n)) (A.Chunk (t.ses.buf.head + 8) n) ≡ read_on t (Body n) (is_one (word_of rec 8))
    unfolding wants turn_at
    body_stepped =
        let g = good-came rec rx msg h k m in
        let i = head-same rec rx msg h in
        let j = tail-same rec rx msg h in
        let e = number-in rec 12 h.sized in
        let there : 8 + n ≤ t.ses.buf.tail - t.ses.buf.head = omega (arith, all, i, j, e) in
        sym (turn_stops t (Body n) (is_one (word_of rec 8)) (omega (arith, g)) there 3 (8 + n) (A.Chunk (t.ses.buf.head + 8) n) refl)

    place : S.out (stepped (at (begun (ses rec rx msg h) (number_in rec 4)) (cursor (number_in rec 2 + (8 + body_length rec)) (number_in rec 3 + k)) Idle) (Told (A.Chunk (number_in rec 2 + 8) (body_length rec)))) rx msg
        ≡ told (dropped t (8 + n)) (A.Chunk (t.ses.buf.head + 8) n)
    place = rw (head-same rec rx msg h, tail-same rec rx msg h, lent_same rec rx msg h, number-in rec 12 h.sized)

  pub body_tried : (k : ℕ) (t : Bool) (new told' : List ℕ) → (t, new, told') ≡ body_done rec rx k out
      → (t, crossed new rx msg told' 0) ≡ tried (body_now rec rx msg lent k out) (cross_read rec rx msg lent k out) (crossed rec rx msg out 0)
  unfolding cross_read reply_number
  body_tried k t new told' e =
      done-tried rec rx msg out h o (λ s. back_read rec out s (length lent) k) (number_in rec 2 + (8 + body_length rec)) (number_in rec 3 + k) (number_in rec 4) 0 _ Idle
      (Told (A.Chunk (number_in rec 2 + 8) (body_length rec))) refl refl refl (body_came rec rx k) (body_now rec rx msg lent k out) t new told'
      (rw (
        eq-eqb (number_in rec 7) 28 state,
        stands-in rec (length rx) (length msg) h,
        eq-eqb (length lent) (number_in rec 4) same,
        le-leb out_size (length out) o,
      ))
      (λ z.
      let (a, r) = (and-eq-true_iff (met_by rec rx k) (leb (8 + body_length rec) (number_in rec 3 + k - number_in rec 2))).0 z in
      let m = met_of rec rx k a in
      let l = leb-true (8 + body_length rec) (number_in rec 3 + k - number_in rec 2) r in
      read-met rec rx msg h lent same (Body n) awaits k m out _ (place k m l ∙ body_stepped k m l))
      e
