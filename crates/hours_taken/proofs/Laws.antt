-- A push start is taken where the crossing of the session in the record tells none of the numbers 1 to 11. Assumes nothing.
use Prim.Native.Nat.{ℕ, ◌*◌, ◌<◌, ◌≤◌, ◌^◌}
use mathlib.Core.Bool.{Bool, true, false, ◌&&◌, not}
use mathlib.Core.List.{List}
use mathlib.Core.Logic.{◌⊎◌, inl, inr}
use mathlib.Core.Option.{Option, none, some}
use mathlib.Core.Path.{◌≡◌, refl, ap, ◌∙◌}
use native.Mathlib.Omega.{arith}
use lib.Dec.{eqb}
use lib.ListN.{length}
use Rattle.protocol.specs.Answers.{Answer, done, refused}
use Rattle.protocol.specs.Bytes.{Bytes, pick}
use Rattle.protocol.specs.Ids.{letters}
use Rattle.protocol.specs.Refusal.{or_else, refuse, is_none, request_refusal}
use Rattle.features.specs.Meaning.{listed}
use Rattle.record.specs.Narrow.{Narrow}
use Rattle.record.specs.Record.{loaded}
use Rattle.request.specs.Meaning.{meant}
use Rattle.request_refusal.proofs.Laws.{alike}
use Rattle.request_refusal.specs.Meaning.{setting}
use Rattle.session.specs.Calls.{misfit, is_idle, call_refusal}
use Rattle.session.specs.Host.{told}
use Rattle.session.specs.State.{St, st, Out}
use Rattle.session.specs.declared.Session.{Session}
use Rattle.session.proofs.Turns.{Frame, frame_of}
use Rattle.boundary.specs.Crossing.{call_numbered, request_numbered, unknown_call, cross_start}
use Rattle.boundary.specs.Told.{out_size, reply_number}
use Rattle.boundary.proofs.Reports.{NarrowRefusal, lets, by_number, by_feature}
use Rattle.boundary_misuse.specs.Misuse.{start, call_of}
use Rattle.boundary_misuse.proofs.Known.{seen_of}
use Rattle.boundary_misuse.proofs.Table.{Comes, numbered-narrow, behind, begins, calls}
use Rattle.boundary_misuse.proofs.Unchanged.{put_back_of}
use Rattle.totals.specs.Crossing.{refuses}
use Rattle.totals.proofs.Card.{refuses-low}
use Rattle.totals.proofs.Sizes.{unrefused}
use Rattle.totals_taken.proofs.Laws.{Tells, refused-by, on-record}
use Rattle.hours_taken.specs.Taken.{push_numbered, takes_push}

-- ---- what is told

module _ (s : St) (φ : Frame) (o : Out) where
  by-refusal : (r : Option Answer) → NarrowRefusal r → Comes r φ s o → Tells s φ o (is_none r)
  unfolding reply_number
  by-refusal none lets c = rw (unrefused o.reply c.given)
  by-refusal (some r) (by_number {n = n} h) c = refused-by s φ o n (refuses-low (256 * n) n refl h.0 h.1.0) c
  by-refusal (some r) (by_feature {n = n} h) c = rw c

  -- 3, 6 and 4, or none of them, and then r
  by-table : (m e i : Bool) (r : Option Answer) → NarrowRefusal r
      → Comes (or_else (refuse m (refused 3)) (or_else (refuse e (refused 6)) (or_else (refuse (not i) (refused 4)) r))) φ s o
      → Tells s φ o (eqb (pick m 3 (pick e 6 (pick i 0 4))) 0 && is_none r)
  by-table true e i r n c = refused-by s φ o 3 refl c
  by-table false true i r n c = refused-by s φ o 6 refl c
  by-table false false false r n c = refused-by s φ o 4 refl c
  by-table false false true r n c = by-refusal r n c

-- ---- a push start, on any record of bytes

module _ (rec rx msg lent out : List ℕ) (a b : ℕ) (p : a < 2 ^ 32) (q : b < 2 ^ 32) (n : ℕ) where
  abbrev Told : Session → Type 0
  Told s =
      takes_push (some s) (length rx) (length msg) lent n a b
      ≡ not (refuses (reply_number (call_numbered n a b (st s rx msg) lent (request_numbered n a b) (unknown_call (st s rx msg))).reply))

  on-session : Bytes rec → out_size ≤ length out → ((s : Session) → Narrow s → Told s)
      → takes_push (loaded rec) (length rx) (length msg) lent n a b ≡ not (refuses (cross_start rec rx msg lent n a b out).number)
  unfolding takes_push cross_start
  on-session f o g = on-record rec rx msg lent out f o (λ (y : Option Session). takes_push y (length rx) (length msg) lent n a b) (put_back_of rec lent out (start n a b 0)) refl g

module _ (rec rx msg lent out : List ℕ) (a b : ℕ) (p : a < 2 ^ 32) (q : b < 2 ^ 32) (bytes : Bytes rx) (few : length msg < 2 ^ 63) (short : length lent < 2 ^ 63) where
  -- either version
  of_session : (n : ℕ) (s : Session) → Narrow s → (r : Option Answer) → NarrowRefusal r
      → is_none (request_refusal (setting s.features) (meant (push_numbered n a b) lent)) ≡ is_none r
      → Comes (behind s lent rx msg r) (begins s lent rx msg) (st s rx msg) (call_numbered n a b (st s rx msg) lent (request_numbered n a b) (unknown_call (st s rx msg)))
      → Told rec rx msg lent out a b p q n s
  unfolding takes_push call_refusal
  of_session n s w r i e c =
      ap (λ (t : Bool). eqb (call_refusal s (length rx) (length msg)) 0 && t) e
      ∙ by-table (st s rx msg) (begins s lent rx msg) _ (misfit s (length rx) (length msg)) s.ended (is_idle s.pending) r i c

  of_v1 : (s : Session) → Narrow s → Told rec rx msg lent out a b p q 7 s
  unfolding push_numbered
  of_v1 s w =
      let g = numbered-narrow (seen_of (frame_of s) (told done)) (call_of 7 a b lent) in
      of_session 7 s w _ g (ap is_none (alike letters letters (listed s.features) false s.ended (meant (push_numbered 7 a b) lent)))
      (calls s lent rx msg w (omega (arith, short)) few bytes (told done) a b p q 7)

  of_v2 : (s : Session) → Narrow s → Told rec rx msg lent out a b p q 8 s
  unfolding push_numbered
  of_v2 s w =
      let g = numbered-narrow (seen_of (frame_of s) (told done)) (call_of 8 a b lent) in
      of_session 8 s w _ g (ap is_none (alike letters letters (listed s.features) false s.ended (meant (push_numbered 8 a b) lent)))
      (calls s lent rx msg w (omega (arith, short)) few bytes (told done) a b p q 8)

  pub taken-push : Bytes rec → out_size ≤ length out → (n : ℕ) → (n ≡ 7) ⊎ (n ≡ 8)
      → takes_push (loaded rec) (length rx) (length msg) lent n a b ≡ not (refuses (cross_start rec rx msg lent n a b out).number)
  taken-push f o n (inl e) = rw e (on-session rec rx msg lent out a b p q 7 f o of_v1)
  taken-push f o n (inr e) = rw e (on-session rec rx msg lent out a b p q 8 f o of_v2)
