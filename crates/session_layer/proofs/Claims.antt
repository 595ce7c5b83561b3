-- What is claimed of a system against every host is claimed of a layer around it, within a bound that keeps below the layer's limit.
-- Assumes nothing.
use Prim.Native.Nat.{ℕ, ◌+◌, ◌-◌, ◌≤◌, ◌<◌, ◌^◌}
use mathlib.Core.Bool.{Bool, true, false}
use mathlib.Core.List.{List, [], ◌∷◌, ◌++◌}
use mathlib.Core.Option.{Option, none, some}
use mathlib.Core.Path.{◌≡◌, refl, sym, ◌∙◌}
use native.Mathlib.Omega.{arith}
use lib.ListN.{length, length-append}
use Rattle.protocol.specs.Answers.{Answer, End, done}
use Rattle.protocol.specs.Bytes.{pick, Bytes}
use Rattle.protocol.specs.Calls.{Call, messages, joined_messages, Made}
use Rattle.protocol.specs.Hours.{Hours}
use Rattle.protocol.specs.Ids.{Dialect}
use Rattle.protocol.specs.Messages.{Request, joined, pieces, bytes_of_request}
use Rattle.protocol.specs.Reader.{Config, unless_written, writes, config_after, writes_made, plain_writes}
use Rattle.protocol.specs.Refusal.{refusal, turned}
use Rattle.protocol.proofs.Messages.{pieces-joined}
use Rattle.session.specs.Demand3.{Opening, System, AllWide, reader, Bound, unbounded, below, Within}
use Rattle.session.specs.EveryHost.{CodedHost, EveryHost}
use Rattle.session.specs.Faithful.{pieces_of, unless_pieces, call_pieces, Accepted, AsMade, Faithful}
use Rattle.session.specs.Host.{Show, Broken, World, Host, Entry, at_start, log_of}
use Rattle.session.proofs.Logs.{log-ends}
use Rattle.session_layer.specs.Layer.{Account, at_opening, Around, sizes, ends_of}
use Rattle.session_layer.proofs.Refused.{log-unasked}
use Rattle.session_layer.proofs.Runs.{total, Always, AtEnds, log-same, log-at}

-- ---- a faithful log writes no more than the plain reader

pub sizes-joined : (ps : List (List ℕ)) → sizes ps ≡ length (joined ps)
sizes-joined [] = refl
sizes-joined (p ∷ ps) = rw (length-append p (joined ps), sizes-joined ps)

sizes-append : (ps qs : List (List ℕ)) → sizes (ps ++ qs) ≡ sizes ps + sizes qs
sizes-append [] qs = omega arith
sizes-append (p ∷ ps) qs = omega (arith, sizes-append ps qs)

sizes-messages : (d : Dialect) (free : ℕ) (qs : List Request) → sizes (pieces_of d free qs) ≡ length (joined_messages d qs)
sizes-messages d free [] = refl
sizes-messages d free (q ∷ qs) =
    sizes-append (pieces d free q) (pieces_of d free qs) ∙ rw (sizes-joined (pieces d free q), pieces-joined d free q, sizes-messages d free qs) (sym (length-append (bytes_of_request d q) (joined_messages d qs)))

sizes-call : (g : Config) (q : Call) (n : ℕ) → sizes (call_pieces g q n) ≡ length (writes g q)
unfolding writes
sizes-call g q n = go (refusal g.setting q)
  where
    go : (o : Option Answer) → sizes (unless_pieces o (pieces_of g.setting.dialect (g.capacity - n) (messages q))) ≡ length (unless_written o (joined_messages g.setting.dialect (messages q)))
    go (some a) = refl
    go none = sizes-messages g.setting.dialect (g.capacity - n) (messages q)

sizes-accepted : (ps xs : List (List ℕ)) (bs : List Broken) → Accepted ps xs bs → sizes xs ≤ sizes ps
sizes-accepted ps xs [] h = rw h (omega arith)
sizes-accepted ps xs (b ∷ []) (rest, (e, x)) = rw e (omega (arith, sizes-append xs (b.piece ∷ rest)))
sizes-accepted ps xs (b ∷ c ∷ bs) h = absurd h

-- a call that was turned away writes nothing
entry-below : (b : Bool) (e : End) (g : Config) (q : Call) (v : List ℕ) (x : Entry) → AsMade b g e q v x → sizes x.pieces ≤ length (pick b [] (writes g q))
entry-below true e g q v x f = rw f.pieces (omega arith)
entry-below false e g q v x f = omega (arith, sizes-call g q (length x.held), sizes-accepted _ _ x.broken f.pieces)

log-below : (h : Option Hours) (e : End) (g : Config) (ms : List Made) (v : List ℕ) (es : List Entry) → Faithful h g e ms v es → total es ≤ length (plain_writes h g ms)
unfolding plain_writes
log-below h e g [] v [] f = omega arith
log-below h e g [] v (x ∷ es) f = absurd f
log-below h e g (m ∷ ms) v [] f = absurd f
log-below h e g (m ∷ ms) v (x ∷ es) f =
    omega (arith, log-below h e (config_after g m.call) ms x.unread es f.1, entry-below (turned h g.setting m) e g m.call v x f.0, length-append (writes_made h g m) (plain_writes h (config_after g m.call) ms))

-- ---- what is claimed against every host

-- a bound that asks more
pub narrower : {X : Type 0} (W' W : Bound) (S : System X) → ((m n : ℕ) → W' m n → W m n) → EveryHost W S → EveryHost W' S
narrower W' W S f every o x rx msg p least room wide h z lends ms v incoming b within =
    every o x rx msg p least room wide h z lends ms v incoming b (f _ _ within)

module _ {Y X : Type 0} (limit : ℕ) (T : System Y) (S : System X) (R : Account → Show → Y → X → Type 0) (A : Around limit T S R) where
  -- its log is that of the system inside, where this is the plain reader's
  pub same_log : (o : Opening) (y : Y) (rx msg : List ℕ) → T.place y → (h : Host) → ((w : World) → T.lends (h.spare w)) → (ms : List Made) (incoming : List ℕ)
      → Within (below limit) o.hours (reader o (length rx) h.close) ms incoming → (S.opened (A.inner y) o rx msg).number ≡ 0
      → Faithful o.hours (reader o (length rx) h.close) h.end ms incoming (log_of S.engine h ms (at_start incoming) (S.opened (A.inner y) o rx msg).x rx msg)
      → log_of T.engine h ms (at_start incoming) (T.opened y o rx msg).x rx msg ≡ log_of S.engine h ms (at_start incoming) (S.opened (A.inner y) o rx msg).x rx msg
  same_log o y rx msg p h lends ms incoming k z f =
      let g : Config = reader o (length rx) h.close in
      log-same limit T.engine S.engine T.lends R A.layer h lends ms (at_opening incoming) (at_start incoming) done _ _ rx msg refl
      (A.opens y p o rx msg incoming z k.0)
      (log-ends o.hours h.end g ms incoming _ f, (omega (arith, log-below o.hours h.end g ms incoming _ f), log-unasked o.hours h.end g ms incoming _ f))

  pub carried : (W : Bound) → ((m n : ℕ) → W m n → below limit m n) → EveryHost W S → EveryHost W T
  carried W keeps every o y rx msg p least room wide h z lends ms v incoming b within =
      let x = every o (A.inner y) rx msg (A.place y p) least room wide h z (λ w. A.lends (h.spare w) (lends w)) ms v incoming b within in
      (A.number y p o rx msg ∙ x.0, rw (same_log o y rx msg p h lends ms incoming (keeps _ _ within) x.0 x.1) x.1)

  -- .. and what stands in the layer when each call is over; P is what is known of a session inside from which every list of calls is the plain reader's
  pub carried-at : EveryHost unbounded S → (P : X → List ℕ → Type 0) → (o : Opening) (y : Y) (rx msg : List ℕ) → T.place y → 8 ≤ length rx → length rx ≤ length msg → length msg < 2 ^ 63
      → (h : Host) → CodedHost h → ((w : World) → T.lends (h.spare w))
      → ((g : Config) (v : List ℕ) (w : World) (x : X) (rx msg : List ℕ) → Always S.engine h o.hours g v w x rx msg → P x rx)
      → (ms : List Made) → AllWide ms → (incoming : List ℕ) → Bytes incoming
      → Within (below limit) o.hours (reader o (length rx) h.close) ms incoming
      → AtEnds S.engine R P (at_opening incoming) (log_of T.engine h ms (at_start incoming) (T.opened y o rx msg).x rx msg)
      (ends_of T.engine h ms (at_start incoming) (T.opened y o rx msg).x rx msg)
  carried-at every P o y rx msg p least room wide h z lends stands ms v incoming b k =
      let g : Config = reader o (length rx) h.close in
      let all : (ms : List Made) → AllWide ms → ((S.opened (A.inner y) o rx msg).number ≡ 0) × Faithful o.hours g h.end ms incoming (log_of S.engine h ms (at_start incoming) (S.opened (A.inner y) o rx msg).x rx msg) =
      λ ms' v'. every o (A.inner y) rx msg (A.place y p) least room wide h z (λ w. A.lends (h.spare w) (lends w)) ms' v' incoming b tt in
      let x = all ms v in
      let t : 0 + total (log_of S.engine h ms (at_start incoming) (S.opened (A.inner y) o rx msg).x rx msg) < limit = omega (arith, log-below o.hours h.end g ms incoming _ x.1) in
      let n = log-ends o.hours h.end g ms incoming _ x.1 in
      let u = log-unasked o.hours h.end g ms incoming _ x.1 in
      rw (same_log o y rx msg p h lends ms incoming k x.0 x.1)
      (log-at limit T.engine S.engine T.lends R A.layer h lends o.hours P stands ms v g incoming (at_opening incoming) (at_start incoming) done _ _ rx msg refl
      (A.opens y p o rx msg incoming x.0 k.0) (λ ms' v'. (all ms' v').1) (n, (t, u)))
