-- The crossing of a record whose session stands, and a plain step put back. Assumes nothing.
use mathlib.Core.Bool.{Bool, true, false, true≢false}
use mathlib.Core.List.{List}
use mathlib.Core.Path.{◌≡◌, refl, sym, ap, ◌∙◌}
use Prim.Native.Nat.{ℕ, ◌≤◌}
use native.Mathlib.Omega.{arith}
use borrow.Author.Tests.{le-ltb, eq-eqb, ne_eqb}
use lib.Dec.{eqb}
use lib.ListN.{length, get_or}
use Rattle.protocol.specs.Bytes.{pick, put}
use Rattle.boundary.specs.Crossing.{Crossed, crossed, is_refusal, back, crossing}
use Rattle.boundary.specs.Told.{reply_number, reply_bytes, out_size}
use Rattle.ids.specs.Ids.{dialect_of}
use Rattle.record.specs.Fields.{step_numbers, pendings, session_of}
use Rattle.record.specs.Record.{size, words, word_of, stored}
use Rattle.record_load.proofs.Held.{held}
use Rattle.recv_buf.specs.RecvBuf.{cursor, held_bytes}
use Rattle.session.proofs.Misfit.{fits-misfit}
use Rattle.session.specs.Calls.{call_refusal, is_idle, refusal_of}
use Rattle.session.specs.Reports.{report_refusal, refusal_at}
use Rattle.session.specs.State as S
use Rattle.session.specs.State.{dialect_in, St, st, stepped, at, begun, Good}
use Rattle.session.specs.declared.Pending.{Pending}
use Rattle.session.specs.declared.Pending.TheVariants.{Idle}
use Rattle.session.specs.declared.Reply.{Reply}
use Rattle.session.specs.declared.Session.{Session}
use Rattle.fast_record.specs.Standing.{number_in, Stands, moved_numbers}
use Rattle.fast_record.proofs.Laws.{number-in, held_of, fits-of, ids-held, stored_moved}
use Rattle.fast_replies.specs.Direct.{held_in, dialect_held, tried, done, written}

-- a step that is not taken
pub not-tried : (b : Bool) (step same : Crossed) → b ≡ false → (false, same) ≡ tried b step same
unfolding tried
not-tried b step same e = rw e

-- what a step that was tried comes to
module _ (b r : Bool) (x step same : Crossed) (e : (r, x) ≡ tried b step same) where
  pub was_taken : r ≡ true → x ≡ step
  unfolding tried
  was_taken t = go b e
    where
      go : (q : Bool) → (r, x) ≡ tried q step same → x ≡ step
      go true f = ap (λ (p : Bool × Crossed). p.1) f
      go false f = absurd (true≢false (sym t ∙ ap (λ (p : Bool × Crossed). p.0) f))

  pub was_left : r ≡ false → x ≡ same
  unfolding tried
  was_left t = go b e
    where
      go : (q : Bool) → (r, x) ≡ tried q step same → x ≡ same
      go true f = absurd (true≢false (sym (ap (λ (p : Bool × Crossed). p.0) f) ∙ t))
      go false f = ap (λ (p : Bool × Crossed). p.1) f

module _ (rec rx msg : List ℕ) (h : Stands rec (length rx) (length msg)) where
  -- the session that stands in the record
  abbrev pub ses : Session
  ses = session_of (word_of rec)

  pub good : (n : ℕ) → Good (st (begun ses n) rx msg)
  good n =
      let g = fits-of rec (length rx) (length msg) h in
      record { order = g.order; inside = g.inside; rx = g.rx; least = g.least; aside = g.aside; msg = g.msg }

  pub held_same : held_in rec rx ≡ held_bytes rx ses.buf
  unfolding session_of
  held_same = rw (number-in rec 2 h.sized, number-in rec 3 h.sized)

  pub head-same : number_in rec 2 ≡ ses.buf.head
  unfolding session_of
  head-same = number-in rec 2 h.sized

  pub dialect-same : dialect_held rec ≡ dialect_in ses
  dialect-same = ap dialect_of (sym (ids-held rec (length rx) (length msg) h))

  pub lent_same : number_in rec 4 ≡ ses.lent
  unfolding session_of
  lent_same = number-in rec 4 h.sized

  pub tail-same : number_in rec 3 ≡ ses.buf.tail
  unfolding session_of
  tail-same = number-in rec 3 h.sized

  -- what is pending, by the state
  pub pending-at : (n : ℕ) → number_in rec 7 ≡ n → ses.pending ≡ get_or (pendings (word_of rec)) n Idle
  unfolding session_of
  pending-at n e = ap (λ (j : ℕ). get_or (pendings (word_of rec)) j Idle) (sym (number-in rec 7 h.sized) ∙ e)

  pub not-ended : ses.ended ≡ false
  unfolding session_of
  not-ended = let z : word_of rec 6 ≡ 0 = sym (number-in rec 6 h.sized) ∙ h.ended in ne_eqb (word_of rec 6) 1 (λ e. omega arith)

  -- a call is let in where nothing is pending
  pub no-refusal : number_in rec 7 ≡ 0 → refusal_of (st ses rx msg) ≡ 0
  unfolding call_refusal
  no-refusal e = rw (fits-misfit ses (length rx) (length msg) (fits-of rec (length rx) (length msg) h), not-ended, pending-at 0 e)

  -- a report is let in where it is awaited
  pub no-report_refusal : (n : ℕ) → n ≡ number_in rec 4 → (p : Pending) → ses.pending ≡ p → is_idle p ≡ false → refusal_at (st ses rx msg) n ≡ 0
  unfolding report_refusal
  no-report_refusal n e p f i =
      rw (
        fits-misfit ses (length rx) (length msg) (fits-of rec (length rx) (length msg) h),
        f,
        i,
        eq-eqb n ses.lent (e ∙ lent_same),
        not-ended,
      )

  module _ (out : List ℕ) (o : out_size ≤ length out) where
    pub crossing-at : (k : St → Crossed) → k (st ses rx msg) ≡ crossing rec rx msg out k
    crossing-at k = rw (le-ltb (length out) out_size o, ← held rec (held_of rec (length rx) (length msg) h))

-- what is put back of a step that is no refusal
put_back : (rec rx msg out new : List ℕ) (s : Session) (r : Reply) (n : ℕ) → is_refusal r ≡ false → n ≡ reply_number r → new ≡ stored s
    → crossed new rx msg (put out 0 (reply_bytes r)) n ≡ back rec out (S.out (stepped s r) rx msg)
put_back rec rx msg out new s r n e f g = rw (e, f, g)

-- ---- a step, as the code leaves it

module _ (b : Bool) (rec : List ℕ) (head tail lent : ℕ) (step : List ℕ) (r : Reply) (out : List ℕ) where
  pub done-out : b ≡ false → (false, rec, out) ≡ done b rec head tail lent step r out
  unfolding done
  done-out e = rw e

  pub done-in : (new told : List ℕ) (h t l : ℕ) → b ≡ true → length rec ≡ size → h ≡ head → t ≡ tail → l ≡ lent
      → new ≡ pick (eqb (length rec) size) (words (moved_numbers rec h t l step)) rec → told ≡ put out 0 (reply_bytes r)
      → (true, new, told) ≡ done b rec head tail lent step r out
  unfolding done
  done-in new told h t l e z eh et el p q = rw (e, p, q, eq-eqb (length rec) size z, eh, et, el)

  module _ (rx new : List ℕ) where
    pub written_out : b ≡ false → (false, rec, rx, out) ≡ written b rec rx head tail lent step new r out
    unfolding written
    written_out e = rw e

    pub written_in : (rec' rx' told : List ℕ) (h t l : ℕ) → b ≡ true → length rec ≡ size → h ≡ head → t ≡ tail → l ≡ lent
        → rec' ≡ pick (eqb (length rec) size) (words (moved_numbers rec h t l step)) rec → rx' ≡ new → told ≡ put out 0 (reply_bytes r)
        → (true, rec', rx', told) ≡ written b rec rx head tail lent step new r out
    unfolding written
    written_in rec' rx' told h t l e z eh et el p x q = rw (e, p, x, q, eq-eqb (length rec) size z, eh, et, el)

-- ... and the crossing that it is
module _ (rec rx msg out : List ℕ) (h : Stands rec (length rx) (length msg)) (o : out_size ≤ length out) (k : St → Crossed)
    (head tail lent n : ℕ) (step : List ℕ) (p : Pending) (r : Reply) (numbers : step_numbers p ≡ step)
    (fine : is_refusal r ≡ false) (number : n ≡ reply_number r) where
  -- the session's step, with the receive buffer that it leaves
  abbrev Steps : List ℕ → Type 0
  Steps new = back rec out (S.out (stepped (at (begun (ses rec rx msg h) lent) (cursor head tail) p) r) new msg) ≡ k (st (ses rec rx msg h) rx msg)

  steps-crossed : (new : List ℕ) → Steps new
      → crossed (words (moved_numbers rec head tail lent step)) new msg (put out 0 (reply_bytes r)) n ≡ crossing rec rx msg out k
  steps-crossed new g =
      put_back rec new msg out (words (moved_numbers rec head tail lent step)) _ r n fine number
      (sym (stored_moved rec (length rx) (length msg) h head tail lent step p numbers))
      ∙ g
      ∙ crossing-at rec rx msg h out o k

  pub done-tried : (b now t : Bool) (rec' told : List ℕ) → now ≡ b → (b ≡ true → Steps rx)
      → (t, rec', told) ≡ done b rec head tail lent step r out
      → (t, crossed rec' rx msg told n) ≡ tried now (crossing rec rx msg out k) (crossed rec rx msg out n)
  unfolding tried done
  done-tried b now t rec' told e f d = ap (λ (q : Bool × List ℕ × List ℕ). (q.0, crossed q.1 rx msg q.2 n)) d ∙ rw e (go b f)
    where
      go : (q : Bool) → (q ≡ true → Steps rx)
          → ◌≡◌ {A = Bool × Crossed} ((done q rec head tail lent step r out).0, crossed (done q rec head tail lent step r out).1 rx msg (done q rec head tail lent step r out).2 n)
          (tried q (crossing rec rx msg out k) (crossed rec rx msg out n))
      go true g = ap (λ (c : Crossed). (true, c)) (steps-crossed rx (g refl))
      go false g = refl

  pub written-tried : (new : List ℕ) (b now t : Bool) (rec' rx' told : List ℕ) → now ≡ b → (b ≡ true → Steps new)
      → (t, rec', rx', told) ≡ written b rec rx head tail lent step new r out
      → (t, crossed rec' rx' msg told n) ≡ tried now (crossing rec rx msg out k) (crossed rec rx msg out n)
  unfolding tried written
  written-tried new b now t rec' rx' told e f d =
      ap (λ (q : Bool × List ℕ × List ℕ × List ℕ). (q.0, crossed q.1 q.2 msg q.3 n)) d ∙ rw e (go b f)
    where
      left : Bool → Bool × List ℕ × List ℕ × List ℕ
      left q = written q rec rx head tail lent step new r out

      go : (q : Bool) → (q ≡ true → Steps new)
          → ◌≡◌ {A = Bool × Crossed} ((left q).0, crossed (left q).1 (left q).2 msg (left q).3 n)
          (tried q (crossing rec rx msg out k) (crossed rec rx msg out n))
      go true g = ap (λ (c : Crossed). (true, c)) (steps-crossed new (g refl))
      go false g = refl
