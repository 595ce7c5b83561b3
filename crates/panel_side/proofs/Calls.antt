-- The calls that replies belong to, with all seven features: none of them is refused. Assumes nothing.
use Prim.Native.Nat.{ℕ, ◌*◌, ◌≤◌}
use mathlib.Core.Bool.{Bool, true, false, ◌&&◌, not}
use mathlib.Core.List.{List, [], ◌∷◌, ◌++◌, map, append-nil}
use mathlib.Core.Option.{Option, none, some}
use mathlib.Core.Path.{◌≡◌, refl, ap, ◌∙◌}
use native.Mathlib.Omega.{arith}
use lib.ListN.{length, replicate, length-append}
use Rattle.protocol.specs.Answers.{Answer, refused}
use Rattle.protocol.specs.Bytes.{pick}
use Rattle.protocol.specs.Calls.{v1, v2, Call, call, next_entry, next_chunk, messages, joined_messages, Made, anytime}
use Rattle.protocol.specs.Hours.{Hours, lets}
use Rattle.protocol.specs.Features.{features_of}
use Rattle.protocol.specs.Ids.{Dialect, Sound, STAT, STA2, DONE}
use Rattle.protocol.specs.Messages as Q
use Rattle.protocol.specs.Messages.{message_of, bytes_of_request}
use Rattle.protocol.specs.Reader.{Config, Report, unless_written, writes, config_after, plain_writes}
use Rattle.protocol.specs.Refusal.{or_else, refuse, path_refusal, feature_refusal, request_refusal, refusal, closed_hours, outside, turned, refusal_at}
use Rattle.protocol.proofs.Ids.{legal-sound}
use Rattle.session.specs.Demand3.{Opening, Wide, AllWide, reader}
use Rattle.panel_reply.specs.Replies.{Reply, stat, stat2, entry, entry2, listing_end, chunk, transfer_end, okay, fail}
use Rattle.panel_side.specs.ReadBack.{chunk_reads, BelongsTo, of_stat, of_stat2, of_entry, of_entry2, of_listing_end, of_chunk, of_transfer_end, of_okay, of_fail, read_as, Dialogue, over, reading, NoneRefused}

-- one for each reply
abbrev call_for : Reply → Call
call_for (stat s) = call (Q.ask Q.stat [])
call_for (stat2 s) = call (Q.ask Q.sta2 [])
call_for (entry s name) = next_entry v1
call_for (entry2 s name) = next_entry v2
call_for (listing_end v) = next_entry v
call_for (chunk b) = next_chunk
call_for transfer_end = next_chunk
call_for okay = call (Q.done 0)
call_for (fail t) = next_chunk

belongs : (r : Reply) → BelongsTo r (call_for r)
belongs (stat s) = of_stat s []
belongs (stat2 s) = of_stat2 s []
belongs (entry s name) = of_entry s name
belongs (entry2 s name) = of_entry2 s name
belongs (listing_end v) = of_listing_end v
belongs (chunk b) = of_chunk b
belongs transfer_end = of_transfer_end
belongs okay = of_okay 0
belongs (fail t) = of_fail t chunk_reads

wide : (r : Reply) → Wide (call_for r)
wide (stat s) = omega arith
wide (stat2 s) = omega arith
wide (entry s name) = tt
wide (entry2 s name) = tt
wide (listing_end v) = tt
wide (chunk b) = tt
wide transfer_end = tt
wide okay = omega arith
wide (fail t) = tt

-- ---- what they write

unless_fewer : (o : Option Answer) (m : List ℕ) (n : ℕ) → length m ≤ n → length (unless_written o m) ≤ n
unless_fewer (some a) m n h = omega arith
unless_fewer none m n h = h

-- a header at most
header-few : (x : List ℕ) → length x ≡ 4 → length (((x ++ 0 ∷ 0 ∷ 0 ∷ 0 ∷ []) ++ []) ++ []) ≤ 8
header-few x e =
    let y : List ℕ = x ++ 0 ∷ 0 ∷ 0 ∷ 0 ∷ [] in
    rw (append-nil (y ++ []), append-nil y) (omega (arith, e, length-append x (0 ∷ 0 ∷ 0 ∷ 0 ∷ [])))

joined-few : (d : Dialect) → Sound d → (r : Reply) → length (joined_messages d (messages (call_for r))) ≤ 8
unfolding messages bytes_of_request message_of
joined-few d s (stat x) = header-few (d.bytes STAT) (s.four STAT)
joined-few d s (stat2 x) = header-few (d.bytes STA2) (s.four STA2)
joined-few d s (entry x name) = omega arith
joined-few d s (entry2 x name) = omega arith
joined-few d s (listing_end v) = omega arith
joined-few d s (chunk b) = omega arith
joined-few d s transfer_end = omega arith
joined-few d s okay = header-few (d.bytes DONE) (s.four DONE)
joined-few d s (fail t) = omega arith

abbrev made_for : Reply → Made
made_for r = anytime (call_for r)

made-fewer : (b : Bool) (m : List ℕ) (n : ℕ) → length m ≤ n → length (pick b [] m) ≤ n
made-fewer true m n h = omega arith
made-fewer false m n h = h

writes-few : (h : Option Hours) (g : Config) → Sound g.setting.dialect → (rs : List Reply) → length (plain_writes h g (map made_for rs)) ≤ 8 * length rs
unfolding plain_writes writes
writes-few h g s [] = omega arith
writes-few h g s (r ∷ rs) =
    let m : List ℕ = joined_messages g.setting.dialect (messages (call_for r)) in
    let u : List ℕ = unless_written (refusal g.setting (call_for r)) m in
    let w : List ℕ = pick (turned h g.setting (made_for r)) [] u in
    omega (
      arith,
      made-fewer (turned h g.setting (made_for r)) u 8 (unless_fewer (refusal g.setting (call_for r)) m 8 (joined-few g.setting.dialect s r)),
      writes-few h (config_after g (call_for r)) s rs,
      length-append w (plain_writes h (config_after g (call_for r)) (map made_for rs)),
    )

and-false : (x : Bool) → (x && false) ≡ false
and-false true = refl
and-false false = refl

-- none of them is a push start
never_outside : (h : Option Hours) (r : Reply) → outside h (made_for r) ≡ false
never_outside h (stat s) = and-false (not (lets h 0))
never_outside h (stat2 s) = and-false (not (lets h 0))
never_outside h (entry s name) = and-false (not (lets h 0))
never_outside h (entry2 s name) = and-false (not (lets h 0))
never_outside h (listing_end v) = and-false (not (lets h 0))
never_outside h (chunk b) = and-false (not (lets h 0))
never_outside h transfer_end = and-false (not (lets h 0))
never_outside h okay = and-false (not (lets h 0))
never_outside h (fail t) = and-false (not (lets h 0))

module _ (o : Opening) (all : features_of o.banner ≡ replicate 7 true) (close : Report) (c : ℕ) where
  free : (r : Reply) → refusal (reader o c close).setting (call_for r) ≡ none
  unfolding refusal request_refusal path_refusal feature_refusal
  free (stat s) = refl
  free (stat2 s) = rw all
  free (entry s name) = refl
  free (entry2 s name) = refl
  free (listing_end v) = refl
  free (chunk b) = refl
  free transfer_end = refl
  free okay = refl
  free (fail t) = refl

  free_made : (r : Reply) → refusal_at o.hours (reader o c close).setting (made_for r) ≡ none
  free_made r =
      ap (λ (y : Option Answer). or_else y (refuse (outside o.hours (made_for r)) (refused closed_hours))) (free r)
      ∙ ap (λ (b : Bool). refuse b (refused closed_hours)) (never_outside o.hours r)

  made : (rs : List Reply) → Dialogue (map made_for rs) rs (map read_as rs)
  made [] = over
  made (r ∷ rs) = reading (belongs r) (made rs)

  all-free : (rs : List Reply) → NoneRefused o.hours (reader o c close).setting (map made_for rs)
  all-free [] = tt
  all-free (r ∷ rs) = (free_made r, all-free rs)

  all-wide : (rs : List Reply) → AllWide (map made_for rs)
  all-wide [] = tt
  all-wide (r ∷ rs) = ((wide r, omega arith), all-wide rs)

  pub has_calls : (rs : List Reply) → (ms : List Made)
      × (Dialogue ms rs (map read_as rs)
      × (NoneRefused o.hours (reader o c close).setting ms × (AllWide ms × (length (plain_writes o.hours (reader o c close) ms) ≤ 8 * length rs))))
  has_calls rs = (map made_for rs, (made rs, (all-free rs, (all-wide rs, writes-few o.hours (reader o c close) (legal-sound o.table o.legal) rs))))
