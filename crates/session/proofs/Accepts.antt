-- A host that accepts every write, and whose reads come to no fault too early: that is what is logged of each call, whatever the engine.
-- Assumes nothing.
use Prim.Native.Nat.{ℕ, zero, suc, ◌+◌}
use mathlib.Core.Bool.{Bool, true, false, ◌&&◌}
use mathlib.Core.List.{List, [], ◌∷◌}
use mathlib.Core.Option.{none}
use mathlib.Core.Path.{◌≡◌, refl}
use lib.Dec.{leb, ltb}
use lib.ListN.{length, take, drop}
use Rattle.protocol.specs.Bytes.{pick}
use Rattle.protocol.specs.Calls.{Made}
use Rattle.protocol.specs.Reader.{Report, accepted, broke}
use Rattle.session.specs.Host.{Show, told, read, write_rx, write_lent, write_bytes, close, Step, Engine, Host, World, new_call, has_read, has_written, composing, has_closed, counted, lent_of}
use Rattle.session.specs.Host.{Run, over_with, unended, asking, grant_read, grant_write, grant_close, granted, run, enough, run_call, Entry, on_run, log_of}

abbrev pub AllAccepted : List Entry → Type 0
AllAccepted [] = Unit {0}
AllAccepted (x ∷ xs) = ((x.broken ≡ []) × (x.stopped ≡ none)) × AllAccepted xs

-- no write came to a fault, and no read before its time
abbrev Smooth : World → Type 0
Smooth w = (w.broken ≡ []) × (w.stopped ≡ none)

abbrev Kept : {X : Type 0} → Run X → Type 0
Kept (over_with x rx msg a w) = Smooth w
Kept unended = Unit {0}

module _ {X : Type 0} (E : Engine X) (h : Host) (accepts : (i : ℕ) → h.writes i ≡ accepted) (reads : (i : ℕ) → h.fails i ≡ none) where
  module _ (lent : List ℕ) where
    kept-unless : (b : Bool) (o : Run X) → Kept o → Kept (pick b o unended)
    kept-unless true o x = x
    kept-unless false o x = tt

    module _ (k : World → Step X → Run X) (on : (w : World) (s : Step X) → Smooth w → Kept (k w s)) (w : World) (s : Step X)
        (e : Smooth w) where
      read_kept : (at len : ℕ) (l : List ℕ) → Kept (grant_read E h lent k w s at len l (h.fails w.reads))
      read_kept at len [] = on (has_read 0 (asking E h lent k w s at len 0) w) _ e
      read_kept at len (b ∷ bs) =
          let n : ℕ = counted (h.count w.reads) len (length w.left) in
          rw (reads w.reads) (on (has_read n (asking E h lent k w s at len n) w) _ e)

      write_kept : (w' : World) (b : List ℕ) → Smooth w' → Kept (grant_write E h lent k w' s b (h.writes w.writes))
      write_kept w' b e' = rw (accepts w.writes) (on (has_written b w') _ e')

      close-kept : (r : Report) → Kept (grant_close E h lent k w s r)
      close-kept accepted = on (has_closed w) _ e
      close-kept (broke d) = on (has_closed w) _ e

      granted-kept : (o : Show) → Kept (granted E h lent k w s o)
      granted-kept (told a) = e
      granted-kept (read at len) =
          kept-unless (ltb 0 len && leb (at + len) (length s.rx)) (grant_read E h lent k w s at len w.left (h.fails w.reads)) (read_kept at len w.left)
      granted-kept (write_rx at len) =
          let b : List ℕ = take len (drop at s.rx) in
          kept-unless (leb (at + len) (length s.rx)) (grant_write E h lent k (composing at w) s b (h.writes w.writes)) (write_kept (composing at w) b e)
      granted-kept (write_lent at len) =
          let b : List ℕ = take len (drop at lent) in
          kept-unless (leb (at + len) (length lent)) (grant_write E h lent k w s b (h.writes w.writes)) (write_kept w b e)
      granted-kept (write_bytes b) = write_kept w b e
      granted-kept close = close-kept h.close

    run-kept : (n : ℕ) (w : World) (s : Step X) → Smooth w → Kept (run E h lent n w s)
    unfolding run
    run-kept zero w s e = tt
    run-kept (suc n) w s e = granted-kept (λ w' s'. run E h lent n w' s') (λ w' s' e'. run-kept n w' s' e') w s e s.show

  entry_kept : (held : List ℕ) (tail : ℕ) (msg : List ℕ) (k : World → X → List ℕ → List ℕ → List Entry) → ((w : World) (x : X) (rx msg : List ℕ) → AllAccepted (k w x rx msg))
      → (o : Run X) → Kept o → AllAccepted (on_run E held tail msg k o)
  entry_kept held tail msg k rest (over_with x rx msg' a w) e = (e, rest w x rx msg')
  entry_kept held tail msg k rest unended e = tt

  pub log-accepts : (ms : List Made) (w : World) (x : X) (rx msg : List ℕ) → AllAccepted (log_of E h ms w x rx msg)
  unfolding log_of
  log-accepts [] w x rx msg = tt
  log-accepts (m ∷ ms) w x rx msg =
      entry_kept (E.holds x rx) (E.tail x) msg (λ w' x' rx' msg'. log_of E h ms w' x' rx' msg') (λ w' x' rx' msg'. log-accepts ms w' x' rx' msg')
      (run_call E h m w x rx msg)
      (run-kept (lent_of (h.spare w) m.call) (enough m.call w) (new_call w) (E.start x rx msg m (h.spare w)) (refl, refl))
