-- A read that completes a stat's reply, taken at once, is its crossing. Assumes nothing.
use mathlib.Core.Bool.{Bool, true, false, and-eq-true_iff}
use mathlib.Core.List.{List}
use mathlib.Core.Path.{◌≡◌, refl, sym, ◌∙◌}
use Prim.Native.Nat.{ℕ, ◌+◌, ◌≤◌}
use native.Mathlib.Decide.{ℕ_discrete}
use native.Mathlib.Omega.{arith}
use borrow.Author.Tests.{le-leb, eq-eqb}
use lib.Dec.{leb}
use lib.ListN.{length}
use Rattle.boundary.specs.Crossing.{crossed, is_refusal, back_read, cross_read}
use Rattle.boundary.specs.Told.{reply_number, out_size}
use Rattle.record.specs.Fields.{is_one, want_state}
use Rattle.record.specs.Record.{word_of}
use Rattle.recv_buf.specs.RecvBuf.{cursor, held_bytes}
use Rattle.session.specs.Phases.{stat_size_of}
use Rattle.session.specs.State as S
use Rattle.session.specs.State.{dialect_in, St, stepped, at, begun}
use Rattle.session.specs.Steps.{read_on}
use Rattle.session.specs.Sends.{told}
use Rattle.session.specs.declared.Pending.TheVariants.{Idle, Reading}
use Rattle.session.specs.declared.Phase.TheVariants.{Header}
use Rattle.session.specs.declared.Reply.TheVariants.{Told}
use Rattle.session.specs.declared.Version.{Version}
use Rattle.session.specs.declared.Version.TheVariants.{V1, V2}
use Rattle.session.specs.declared.Want.TheVariants as W
use Rattle.fast_record.specs.Standing.{number_in, Stands}
use Rattle.fast_record.proofs.Laws.{stands-in}
use Rattle.fast_replies.specs.Direct.{tried, dialect_held, came_in, met_by, is_stat, stat_told, stat_came, stat_done, stat_version, stat_now}
use Rattle.fast_replies.proofs.Arrivals.{Met, met_of, came, good-came, read-met}
use Rattle.fast_replies.proofs.Taken.{ses, head-same, tail-same, dialect-same, lent_same, pending-at, done-tried}
use Rattle.fast_replies.proofs.Whole.{dropped, whole-stat}

-- a stat is no refusal, and its number is 0
no-refusal_told : (v : Version) (x : List ℕ) → is_refusal (Told (stat_told v x)) ≡ false
no-refusal_told V1 x = refl
no-refusal_told V2 x = refl

number-told : (v : Version) (x : List ℕ) → 0 ≡ reply_number (Told (stat_told v x))
unfolding reply_number
number-told V1 x = refl
number-told V2 x = refl

module _ (rec rx msg lent out : List ℕ) (h : Stands rec (length rx) (length msg)) (o : out_size ≤ length out)
    (same : length lent ≡ number_in rec 4) (v : Version) (state : number_in rec 7 ≡ want_state (W.Stat v)) where
  awaits : (ses rec rx msg h).pending ≡ Reading (Header (W.Stat v)) (word_of rec 9) (is_one (word_of rec 8))
  awaits = by v state
    where
      by : (v : Version) → number_in rec 7 ≡ want_state (W.Stat v) → (ses rec rx msg h).pending ≡ Reading (Header (W.Stat v)) (word_of rec 9) (is_one (word_of rec 8))
      by V1 e = pending-at rec rx msg h 13 e
      by V2 e = pending-at rec rx msg h 14 e

  module _ (k : ℕ) (m : Met rec rx k) (r : is_stat (dialect_held rec) v (came_in rec rx k) ≡ true) where
    -- the session, once the bytes have come
    abbrev t : St
    t = came rec rx msg h k

    stat-came : is_stat (dialect_in t.ses) v (held_bytes rx t.ses.buf) ≡ true
    stat-came = rw (head-same rec rx msg h, tail-same rec rx msg h, dialect-same rec rx msg h) at r

    stat-stepped : told (dropped t (stat_size_of v)) (stat_told v (held_bytes rx t.ses.buf)) ≡ read_on t (Header (W.Stat v)) (is_one (word_of rec 8))
    stat-stepped = sym (whole-stat t (good-came rec rx msg h k m) v (is_one (word_of rec 8)) stat-came)

    place : S.out (stepped (at (begun (ses rec rx msg h) (number_in rec 4)) (cursor (number_in rec 2 + stat_size_of v) (number_in rec 3 + k)) Idle) (Told (stat_told v (came_in rec rx k)))) rx msg
        ≡ told (dropped t (stat_size_of v)) (stat_told v (held_bytes rx t.ses.buf))
    place = rw (head-same rec rx msg h, tail-same rec rx msg h, lent_same rec rx msg h)

  version_of_lem : stat_version (number_in rec 7) ≡ v
  version_of_lem = by v state
    where
      by : (v : Version) → number_in rec 7 ≡ want_state (W.Stat v) → stat_version (number_in rec 7) ≡ v
      by V1 e = rw e
      by V2 e = rw e

  range : (leb 13 (number_in rec 7) ≡ true) × (leb (number_in rec 7) 14 ≡ true)
  range = by v state
    where
      by : (v : Version) → number_in rec 7 ≡ want_state (W.Stat v) → (leb 13 (number_in rec 7) ≡ true) × (leb (number_in rec 7) 14 ≡ true)
      by V1 e = (rw e, rw e)
      by V2 e = (rw e, rw e)

  pub stat-tried : (k : ℕ) (t : Bool) (new told' : List ℕ) → (t, new, told') ≡ stat_done rec rx k v out
      → (t, crossed new rx msg told' 0) ≡ tried (stat_now rec rx msg lent k out) (cross_read rec rx msg lent k out) (crossed rec rx msg out 0)
  unfolding cross_read
  stat-tried k t new told' e =
      let x = came_in rec rx k in
      done-tried rec rx msg out h o (λ s. back_read rec out s (length lent) k) (number_in rec 2 + stat_size_of v) (number_in rec 3 + k) (number_in rec 4) 0 _ Idle
      (Told (stat_told v x)) refl (no-refusal_told v x) (number-told v x) (stat_came rec rx k v) (stat_now rec rx msg lent k out) t new told'
      (rw (
        range.0,
        range.1,
        stands-in rec (length rx) (length msg) h,
        eq-eqb (length lent) (number_in rec 4) same,
        le-leb out_size (length out) o,
        version_of_lem,
      ))
      (λ z.
      let (a, r) = (and-eq-true_iff (met_by rec rx k) (is_stat (dialect_held rec) v (came_in rec rx k))).0 z in
      let m = met_of rec rx k a in
      read-met rec rx msg h lent same (Header (W.Stat v)) awaits k m out _ (place k m r ∙ stat-stepped k m r))
      e

-- the version of a state
pub state-of : (n : ℕ) → 13 ≤ n → n ≤ 14 → n ≡ want_state (W.Stat (stat_version n))
state-of n l u = go (ℕ_discrete n 13)
  where
    go : Dec (n ≡ 13) → n ≡ want_state (W.Stat (stat_version n))
    go (yes e) = rw e
    go (no f) = let e : n ≡ 14 = omega arith in rw e
