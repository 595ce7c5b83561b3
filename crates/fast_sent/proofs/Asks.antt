-- A stat whose message is out, and which awaits the header of its reply at once: this is its crossing. Assumes nothing.
use mathlib.Core.Bool.{Bool, true, false, and-eq-true_iff}
use mathlib.Core.List.{List}
use mathlib.Core.Path.{◌≡◌, refl, sym, ap, ◌∙◌}
use Prim.Native.Nat.{ℕ, ◌+◌, ◌-◌, ◌≤◌, ◌<◌}
use native.Mathlib.Decide.{ℕ_discrete}
use native.Mathlib.Omega.{arith}
use borrow.Author.Tests.{le-leb, eq-eqb, ltb-true}
use lib.Dec.{eqb, ltb, leb}
use lib.ListN.{length}
use Rattle.protocol.specs.Bytes.{pick}
use Rattle.boundary.specs.Crossing.{crossed, back, cross_wrote}
use Rattle.boundary.specs.Told.{reply_number, out_size}
use Rattle.fast_replies.specs.Direct.{tried}
use Rattle.fast_replies.proofs.Taken.{ses, head-same, tail-same, lent_same, pending-at, no-report_refusal, done-tried}
use Rattle.fast_replies.proofs.Whole.{turn_asks}
use Rattle.record.specs.Fields.{want_state}
use Rattle.record.specs.Record.{word_of}
use Rattle.recv_buf.specs.RecvBuf.{cursor, held_count}
use Rattle.request.specs.declared.Request.{Request}
use Rattle.request.specs.declared.Request.TheVariants as Q
use Rattle.session.specs.Phases.{wants}
use Rattle.session.specs.Reports.{refusal_at, wrote_at, report_wrote}
use Rattle.session.specs.State as S
use Rattle.session.specs.State.{St, st, stepped, at, begun}
use Rattle.session.specs.Steps.{reading, read_on}
use Rattle.session.specs.Sends.{resumed, wrote_on}
use Rattle.session.specs.declared.Pending.{Pending}
use Rattle.session.specs.declared.Pending.TheVariants.{Reading, Writing}
use Rattle.session.specs.declared.Phase.TheVariants.{Header}
use Rattle.session.specs.declared.Reply.TheVariants as R
use Rattle.session.specs.declared.Version.{Version}
use Rattle.session.specs.declared.Version.TheVariants.{V1, V2}
use Rattle.session.specs.declared.Want.TheVariants as W
use Rattle.fast_record.specs.Standing.{number_in, Stands, plain_step}
use Rattle.fast_record.proofs.Laws.{number-in, fits-of, stands-in}
use Rattle.fast_sent.specs.Asking.{header_short, header_done, sent_now}

-- the request of a stat, and its state
abbrev stat_request : Version → Request
stat_request V1 = Q.Stat
stat_request V2 = Q.Sta2

abbrev sent_state : Version → ℕ
sent_state V1 = 1
sent_state V2 = 2

resumes : (v : Version) (s : St) (from : ℕ) (lent : List ℕ) → resumed s (stat_request v) from lent ≡ read_on s (Header (W.Stat v)) false
unfolding resumed
resumes V1 s from lent = refl
resumes V2 s from lent = refl

awaits_state : (v : Version) → sent_state v + 12 ≡ want_state (W.Stat v)
awaits_state V1 = refl
awaits_state V2 = refl

module _ (rec rx msg lent out : List ℕ) (h : Stands rec (length rx) (length msg)) (o : out_size ≤ length out)
    (same : length lent ≡ number_in rec 4) (whole : number_in rec 11 ≡ 0) (v : Version) (state : number_in rec 7 ≡ sent_state v) where
  abbrev s : St
  s = st (ses rec rx msg h) rx msg

  writes : (ses rec rx msg h).pending ≡ Writing (stat_request v) (word_of rec 10) (word_of rec 11)
  writes = by v state
    where
      by : (v : Version) → number_in rec 7 ≡ sent_state v → (ses rec rx msg h).pending ≡ Writing (stat_request v) (word_of rec 10) (word_of rec 11)
      by V1 e = pending-at rec rx msg h 1 e
      by V2 e = pending-at rec rx msg h 2 e

  let_in : refusal_at s (length lent) ≡ 0
  let_in = no-report_refusal rec rx msg h (length lent) same _ writes refl

  -- the step, by the session's own definitions
  wrote-whole : (q : Request) (from : ℕ) → wrote_at (Writing q from (word_of rec 11)) s lent ≡ resumed s q from lent
  unfolding wrote_at wrote_on
  wrote-whole q from = rw (eq-eqb (word_of rec 11) 0 (sym (number-in rec 11 h.sized) ∙ whole))

  header-stepped : held_count (ses rec rx msg h).buf < 8 → (ses rec rx msg h).buf.tail < (ses rec rx msg h).capacity
      → S.out (reading (ses rec rx msg h) (ses rec rx msg h).buf.head (ses rec rx msg h).buf.tail (Header (W.Stat v)) false) rx msg ≡ report_wrote s lent
  unfolding report_wrote wants
  header-stepped c t =
      rw let_in
      (sym (ap (λ (p : Pending). wrote_at p s lent) writes
      ∙ wrote-whole (stat_request v) (word_of rec 10)
      ∙ resumes v s (word_of rec 10) lent
      ∙ turn_asks s (Header (W.Stat v)) false 3 (fits-of rec (length rx) (length msg) h).least c t))

  place : S.out (stepped (at (begun (ses rec rx msg h) (number_in rec 4)) (cursor (number_in rec 2) (number_in rec 3)) (Reading (Header (W.Stat v)) (number_in rec 2 + 8) false))
      (R.Read (number_in rec 3) (length rx - number_in rec 3))) rx msg
      ≡ S.out (reading (ses rec rx msg h) (ses rec rx msg h).buf.head (ses rec rx msg h).buf.tail (Header (W.Stat v)) false) rx msg
  unfolding wants
  place =
      let g = fits-of rec (length rx) (length msg) h in
      rw (head-same rec rx msg h, tail-same rec rx msg h, lent_same rec rx msg h, g.rx)

  range : (leb 1 (number_in rec 7) ≡ true) × (leb (number_in rec 7) 2 ≡ true)
  range = by v state
    where
      by : (v : Version) → number_in rec 7 ≡ sent_state v → (leb 1 (number_in rec 7) ≡ true) × (leb (number_in rec 7) 2 ≡ true)
      by V1 e = (rw e, rw e)
      by V2 e = (rw e, rw e)

  pub header-tried : (t : Bool) (new told : List ℕ) → (t, new, told) ≡ header_done rec rx (number_in rec 7 + 12) out
      → (t, crossed new rx msg told 1) ≡ tried (sent_now rec rx msg lent out) (cross_wrote rec rx msg lent out) (crossed rec rx msg out 1)
  unfolding cross_wrote reply_number
  header-tried t new told e =
      done-tried rec rx msg out h o (λ s. back rec out (report_wrote s lent)) (number_in rec 2) (number_in rec 3) (number_in rec 4) 1
      (plain_step (number_in rec 7 + 12) (number_in rec 2 + 8)) (Reading (Header (W.Stat v)) (number_in rec 2 + 8) false) (R.Read (number_in rec 3) (length rx - number_in rec 3))
      (rw (state, awaits_state v)) refl refl (header_short rec rx) (sent_now rec rx msg lent out) t new told
      (rw (
        range.0,
        range.1,
        stands-in rec (length rx) (length msg) h,
        eq-eqb (length lent) (number_in rec 4) same,
        eq-eqb (number_in rec 11) 0 whole,
        le-leb out_size (length out) o,
      ))
      (λ z. ap (back rec out) (place ∙ short z))
      e
    where
      short : header_short rec rx ≡ true
          → S.out (reading (ses rec rx msg h) (ses rec rx msg h).buf.head (ses rec rx msg h).buf.tail (Header (W.Stat v)) false) rx msg ≡ report_wrote s lent
      short z =
          let (f, r) = (and-eq-true_iff (ltb (number_in rec 3 - number_in rec 2) 8) (ltb (number_in rec 3) (length rx))).0 z in
          let g = fits-of rec (length rx) (length msg) h in
          let i = head-same rec rx msg h in
          let j = tail-same rec rx msg h in
          let k = ltb-true (number_in rec 3 - number_in rec 2) 8 f in
          let l = ltb-true (number_in rec 3) (length rx) r in
          header-stepped (omega arith) (omega (arith, g.rx))

-- the version of a state
abbrev pub sent_version : ℕ → Version
sent_version n = pick (eqb n 1) V1 V2

pub state-of : (n : ℕ) → 1 ≤ n → n ≤ 2 → n ≡ sent_state (sent_version n)
state-of n l u = go (ℕ_discrete n 1)
  where
    go : Dec (n ≡ 1) → n ≡ sent_state (sent_version n)
    go (yes e) = rw e
    go (no f) = let e : n ≡ 2 = omega arith in rw e
