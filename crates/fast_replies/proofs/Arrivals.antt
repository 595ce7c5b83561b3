-- A read that meets its need: the session reads on in the phase that awaits it, whichever it is. Assumes nothing.
use mathlib.Core.Bool.{true, false, ◌&&◌, and-eq-true_iff}
use mathlib.Core.List.{List}
use mathlib.Core.Path.{◌≡◌, refl, ap, ◌∙◌}
use Prim.Native.Nat.{ℕ, ◌+◌, ◌-◌, ◌≤◌, ◌<◌}
use native.Mathlib.Omega.{arith}
use borrow.Author.Tests.{lt-ltb, le-ltb, le-leb, ne_eqb, ltb-true, leb-true}
use lib.Dec.{ltb, leb}
use lib.ListN.{length}
use Rattle.boundary.specs.Crossing.{back, stays, back_read}
use Rattle.record.specs.Fields.{is_one}
use Rattle.record.specs.Record.{word_of}
use Rattle.recv_buf.specs.RecvBuf.{cursor}
use Rattle.session.specs.Reports.{refusal_at, read_in, read_at, report_read}
use Rattle.session.specs.State.{St, st, Out, at, Good}
use Rattle.session.specs.Steps.{read_on}
use Rattle.session.specs.declared.Pending.TheVariants.{Idle, Reading}
use Rattle.session.specs.declared.Phase.{Phase}
use Rattle.fast_record.specs.Standing.{number_in, Stands}
use Rattle.fast_record.proofs.Laws.{number-in}
use Rattle.fast_replies.specs.Direct.{met_by}
use Rattle.fast_replies.proofs.Taken.{ses, good, tail-same, no-report_refusal}

-- `met_by`, taken apart
pub record Met (rec rx : List ℕ) (k : ℕ) : Type 0 where
  pub some : 0 < k
  pub fits : k ≤ length rx - number_in rec 3
  pub met : number_in rec 9 ≤ number_in rec 3 + k

pub met_of : (rec rx : List ℕ) (k : ℕ) → met_by rec rx k ≡ true → Met rec rx k
met_of rec rx k e =
    let (b, m) = (and-eq-true_iff (ltb 0 k && leb k (length rx - number_in rec 3)) (leb (number_in rec 9) (number_in rec 3 + k))).0 e in
    let (p, f) = (and-eq-true_iff (ltb 0 k) (leb k (length rx - number_in rec 3))).0 b in
    record { some = ltb-true _ _ p; fits = leb-true _ _ f; met = leb-true _ _ m }

module _ (rec rx msg : List ℕ) (h : Stands rec (length rx) (length msg)) where
  abbrev s : St
  s = st (ses rec rx msg h) rx msg

  -- the session, once k bytes have come
  abbrev pub came : ℕ → St
  came k = st (at (ses rec rx msg h) (cursor s.ses.buf.head (s.ses.buf.tail + k)) Idle) rx msg

  pub good-came : (k : ℕ) → Met rec rx k → Good (came k)
  good-came k m =
      let g = good rec rx msg h 0 in
      let e = tail-same rec rx msg h in
      record { order = omega (arith, g); inside = omega (arith, g, m.fits); rx = g.rx; least = g.least; aside = g.aside; msg = g.msg }

  module _ (lent : List ℕ) (same : length lent ≡ number_in rec 4) (p : Phase)
      (awaits : (ses rec rx msg h).pending ≡ Reading p (word_of rec 9) (is_one (word_of rec 8))) (k : ℕ) (m : Met rec rx k) where
    let_in : refusal_at s (length lent) ≡ 0
    let_in = no-report_refusal rec rx msg h (length lent) same _ awaits refl

    -- the tests on the way
    room : k ≤ (ses rec rx msg h).capacity - (ses rec rx msg h).buf.tail
    room = let g = good rec rx msg h 0 in let e = tail-same rec rx msg h in omega (arith, m.fits, g.rx)

    there : word_of rec 9 ≤ (ses rec rx msg h).buf.tail + k
    there = let e = tail-same rec rx msg h in omega (arith, m.met, number-in rec 9 h.sized)

    not_short : stays s (length lent) k ≡ false
    not_short =
        rw (
          let_in,
          awaits,
          lt-ltb 0 k m.some,
          le-leb k ((ses rec rx msg h).capacity - (ses rec rx msg h).buf.tail) room,
          le-ltb ((ses rec rx msg h).buf.tail + k) (word_of rec 9) there,
        )

    reads_on_lem : read_on (came k) p (is_one (word_of rec 8)) ≡ report_read s (length lent) k
    unfolding report_read read_at read_in
    reads_on_lem =
        rw (
          let_in,
          awaits,
          ne_eqb k 0 (λ e. omega (arith, m.some, e)),
          le-ltb ((ses rec rx msg h).capacity - (ses rec rx msg h).buf.tail) k room,
          le-ltb ((ses rec rx msg h).buf.tail + k) (word_of rec 9) there,
        )

    -- what it then comes to is what the report comes to
    pub read-met : (out : List ℕ) (o : Out) → o ≡ read_on (came k) p (is_one (word_of rec 8)) → back rec out o ≡ back_read rec out s (length lent) k
    read-met out o e = ap (back rec out) (e ∙ reads_on_lem) ∙ rw not_short
