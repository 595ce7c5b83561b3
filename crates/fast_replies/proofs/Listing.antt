-- A listing step that is taken at once is its crossing. Assumes nothing.
use mathlib.Core.Bool.{Bool, false}
use mathlib.Core.List.{List}
use mathlib.Core.Path.{◌≡◌, refl, sym, ap, ◌∙◌, subst⁻¹}
use Prim.Native.Nat.{ℕ, ◌+◌, ◌≤◌, ◌<◌}
use native.Mathlib.Decide.{ℕ_discrete}
use native.Mathlib.Omega.{arith}
use borrow.Author.Tests.{le-leb, eq-eqb, ltb-true}
use lib.Dec.{ltb}
use lib.ListN.{length}
use Rattle.boundary.specs.Crossing.{crossed, is_refusal, back, request_numbered, call_numbered, unknown_call, cross_start}
use Rattle.boundary.specs.Told.{reply_number, out_size}
use Rattle.recv_buf.specs.RecvBuf.{cursor}
use Rattle.session.specs.Calls.{entry_call}
use Rattle.session.specs.Phases.{entry_size_of}
use Rattle.session.specs.State as S
use Rattle.session.specs.State.{St, st, stepped, at, begun}
use Rattle.session.specs.Sends.{told}
use Rattle.session.specs.declared.Pending.TheVariants.{Idle}
use Rattle.session.specs.declared.Reply.TheVariants.{Told}
use Rattle.session.specs.declared.Version.{Version}
use Rattle.session.specs.declared.Version.TheVariants.{V1, V2}
use Rattle.fast_record.specs.Standing.{number_in, Stands}
use Rattle.fast_record.proofs.Laws.{stands-in}
use Rattle.fast_replies.specs.Direct.{tried, held_in, entry_in, entry_told, entry_version, entry_done, entry_now}
use Rattle.fast_replies.proofs.Taken.{ses, good, held_same, head-same, tail-same, dialect-same, no-refusal, done-tried}
use Rattle.fast_replies.proofs.Whole.{dropped, whole-entry}

-- calls 12 and 13 are listing steps
called : (call a b : ℕ) (s : St) (lent : List ℕ) → 12 ≤ call → call ≤ 13
    → entry_call s (entry_version call) (length lent) ≡ call_numbered call a b s lent (request_numbered call a b) (unknown_call s)
called call a b s lent l u = go (ℕ_discrete call 12)
  where
    Same : ℕ → Type 0
    Same k = entry_call s (entry_version k) (length lent) ≡ call_numbered k a b s lent (request_numbered k a b) (unknown_call s)

    go : Dec (call ≡ 12) → Same call
    go (yes e) = subst⁻¹ Same e refl
    go (no f) = let e : call ≡ 13 = omega arith in subst⁻¹ Same e refl

-- an entry is no refusal, and its number is 0
no-refusal_told : (v : Version) (x : List ℕ) (i : ℕ) → is_refusal (Told (entry_told v x i)) ≡ false
no-refusal_told V1 x i = refl
no-refusal_told V2 x i = refl

number-told : (v : Version) (x : List ℕ) (i : ℕ) → 0 ≡ reply_number (Told (entry_told v x i))
unfolding reply_number
number-told V1 x i = refl
number-told V2 x i = refl

module _ (rec rx msg lent out : List ℕ) (h : Stands rec (length rx) (length msg)) (o : out_size ≤ length out) (idle : number_in rec 7 ≡ 0) where
  -- the step, by the session's own definitions
  entry-stepped : (v : Version) → 0 < entry_in rec rx v
      → told (dropped (st (begun (ses rec rx msg h) (length lent)) rx msg) (entry_in rec rx v)) (entry_told v (held_in rec rx) (number_in rec 2 + entry_size_of v))
      ≡ entry_call (st (ses rec rx msg h) rx msg) v (length lent)
  unfolding entry_call
  entry-stepped v some =
      let e = held_same rec rx msg h in
      let d = dialect-same rec rx msg h in
      rw (no-refusal rec rx msg h idle, e, d, head-same rec rx msg h)
      (sym (whole-entry (st (begun (ses rec rx msg h) (length lent)) rx msg) (good rec rx msg h (length lent)) v false (rw (e, d) at some)))

  pub entry-tried : (call a b : ℕ) → 12 ≤ call → call ≤ 13 → (t : Bool) (new told' : List ℕ)
      → (t, new, told') ≡ entry_done rec rx (length lent) (entry_version call) out
      → (t, crossed new rx msg told' 0) ≡ tried (entry_now rec rx msg call out) (cross_start rec rx msg lent call a b out) (crossed rec rx msg out 0)
  unfolding cross_start
  entry-tried call a b l u t new told' e =
      let v = entry_version call in
      let x = held_in rec rx in
      let i = number_in rec 2 + entry_size_of v in
      done-tried rec rx msg out h o (λ s. back rec out (call_numbered call a b s lent (request_numbered call a b) (unknown_call s)))
      (number_in rec 2 + entry_in rec rx v) (number_in rec 3) (length lent) 0 _ Idle (Told (entry_told v x i)) refl (no-refusal_told v x i) (number-told v x i)
      (ltb 0 (entry_in rec rx v)) (entry_now rec rx msg call out) t new told'
      (rw (
        le-leb 12 call l,
        le-leb call 13 u,
        le-leb out_size (length out) o,
        eq-eqb (number_in rec 7) 0 idle,
        stands-in rec (length rx) (length msg) h,
      ))
      (λ z. ap (back rec out) (place v ∙ entry-stepped v (ltb-true 0 (entry_in rec rx v) z) ∙ called call a b (st (ses rec rx msg h) rx msg) lent l u))
      e
    where
      place : (v : Version)
          → S.out (stepped (at (begun (ses rec rx msg h) (length lent)) (cursor (number_in rec 2 + entry_in rec rx v) (number_in rec 3)) Idle)
          (Told (entry_told v (held_in rec rx) (number_in rec 2 + entry_size_of v)))) rx msg
          ≡ told (dropped (st (begun (ses rec rx msg h) (length lent)) rx msg) (entry_in rec rx v)) (entry_told v (held_in rec rx) (number_in rec 2 + entry_size_of v))
      place v = rw (head-same rec rx msg h, tail-same rec rx msg h)
