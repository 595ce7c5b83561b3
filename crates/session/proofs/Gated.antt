-- The log of any engine behind the gate, by the engine inside: no step but a start looks at the hours. Assumes nothing.
use Prim.Native.Nat.{ℕ, zero, suc, ◌+◌}
use mathlib.Core.Bool.{Bool, true, false, ◌&&◌}
use mathlib.Core.List.{List, [], ◌∷◌}
use mathlib.Core.Option.{Option, none, some}
use mathlib.Core.Path.{◌≡◌, refl, ap, ◌∙◌}
use lib.Dec.{leb, ltb}
use lib.ListN.{length, take, drop}
use Rattle.protocol.specs.Answers.{End}
use Rattle.protocol.specs.Bytes.{pick}
use Rattle.protocol.specs.Calls.{Made}
use Rattle.protocol.specs.Hours.{Hours}
use Rattle.protocol.specs.Reader.{Report, accepted, broke}
use Rattle.session.specs.Gate.{Timed, timed, keeping, gated_start, gate}
use Rattle.session.specs.Host.{Show, told, read, write_rx, write_lent, write_bytes, close, Step, Engine, Host, World, new_call, composing, lent_of, Run, over_with, unended, grant_read, grant_write, grant_close, granted, run, enough, Entry, on_run, log_of}

-- the log of calls as they are made, where the session inside starts behind the hours t
abbrev pub run_at : {X : Type 0} → Engine X → Option Hours → Host → Made → World → X → List ℕ → List ℕ → Run X
run_at E t h m w x rx msg = run E h (lent_of (h.spare w) m.call) (enough m.call w) (new_call w) (gated_start E t x rx msg m (h.spare w))

unfoldable pub log_at : {X : Type 0} → Engine X → Option Hours → Host → List Made → World → X → List ℕ → List ℕ → List Entry
log_at E t h [] w x rx msg = []
log_at E t h (m ∷ ms) w x rx msg = on_run E (E.holds x rx) (E.tail x) msg (λ w' x' rx' msg'. log_at E t h ms w' x' rx' msg') (run_at E t h m w x rx msg)

abbrev timed_run : {X : Type 0} → Option Hours → Run X → Run (Timed X)
timed_run t (over_with x rx msg a w) = over_with (timed t x) rx msg a w
timed_run t unended = unended

module _ {X : Type 0} (E : Engine X) (t : Option Hours) (h : Host) where
  module _ (lent : List ℕ) where
    timed-if : (b : Bool) (r : Run (Timed X)) (r' : Run X) → r ≡ timed_run t r' → pick b r unended ≡ timed_run t (pick b r' unended)
    timed-if true r r' e = e
    timed-if false r r' e = refl

    module _ (k : World → Step (Timed X) → Run (Timed X)) (k' : World → Step X → Run X) (on : (w : World) (s : Step X) → k w (keeping t s) ≡ timed_run t (k' w s))
        (s : Step X) where
      read-timed : (w : World) (at len : ℕ) (l : List ℕ) (f : Option End) → grant_read (gate E) h lent k w (keeping t s) at len l f ≡ timed_run t (grant_read E h lent k' w s at len l f)
      read-timed w at len [] f = on _ _
      read-timed w at len (b ∷ bs) (some e) = on _ _
      read-timed w at len (b ∷ bs) none = on _ _

      write-timed : (w : World) (b : List ℕ) (r : Report) → grant_write (gate E) h lent k w (keeping t s) b r ≡ timed_run t (grant_write E h lent k' w s b r)
      write-timed w b accepted = on _ _
      write-timed w b (broke e) = on _ _

      close-timed : (w : World) (r : Report) → grant_close (gate E) h lent k w (keeping t s) r ≡ timed_run t (grant_close E h lent k' w s r)
      close-timed w accepted = on _ _
      close-timed w (broke e) = on _ _

      granted-timed : (w : World) (o : Show) → granted (gate E) h lent k w (keeping t s) o ≡ timed_run t (granted E h lent k' w s o)
      granted-timed w (told a) = refl
      granted-timed w (read at len) = timed-if (ltb 0 len && leb (at + len) (length s.rx)) _ _ (read-timed w at len w.left (h.fails w.reads))
      granted-timed w (write_rx at len) = timed-if (leb (at + len) (length s.rx)) _ _ (write-timed (composing at w) (take len (drop at s.rx)) (h.writes w.writes))
      granted-timed w (write_lent at len) = timed-if (leb (at + len) (length lent)) _ _ (write-timed w (take len (drop at lent)) (h.writes w.writes))
      granted-timed w (write_bytes b) = write-timed w b (h.writes w.writes)
      granted-timed w close = close-timed w h.close

    run-timed : (n : ℕ) (w : World) (s : Step X) → run (gate E) h lent n w (keeping t s) ≡ timed_run t (run E h lent n w s)
    unfolding run
    run-timed zero w s = refl
    run-timed (suc n) w s = granted-timed (λ w' s'. run (gate E) h lent n w' s') (λ w' s'. run E h lent n w' s') (λ w' s'. run-timed n w' s') s w s.show

  entry-timed : (held : List ℕ) (tail : ℕ) (msg : List ℕ) (k : World → Timed X → List ℕ → List ℕ → List Entry) (k' : World → X → List ℕ → List ℕ → List Entry)
      → ((w : World) (x : X) (rx msg : List ℕ) → k w (timed t x) rx msg ≡ k' w x rx msg)
      → (r : Run X) → on_run (gate E) held tail msg k (timed_run t r) ≡ on_run E held tail msg k' r
  entry-timed held tail msg k k' same (over_with x rx msg' a w) = rw (same w x rx msg')
  entry-timed held tail msg k k' same unended = refl

  pub log-gated : (ms : List Made) (w : World) (x : X) (rx msg : List ℕ) → log_of (gate E) h ms w (timed t x) rx msg ≡ log_at E t h ms w x rx msg
  unfolding log_of log_at
  log-gated [] w x rx msg = refl
  log-gated (m ∷ ms) w x rx msg =
      ap (on_run (gate E) (E.holds x rx) (E.tail x) msg (λ w' x' rx' msg'. log_of (gate E) h ms w' x' rx' msg'))
      (run-timed (lent_of (h.spare w) m.call) (enough m.call w) (new_call w) (gated_start E t x rx msg m (h.spare w)))
      ∙ entry-timed (E.holds x rx) (E.tail x) msg _ _ (λ w' x' rx' msg'. log-gated ms w' x' rx' msg') (run_at E t h m w x rx msg)
