-- The reads of a call follow each other: each finds the bytes that the one before it left. Of any engine, against any host.
-- Assumes nothing.
use Prim.Native.Nat.{ℕ, zero, suc, ◌+◌, ◌≤◌}
use mathlib.Core.Bool.{Bool, true, false, ◌&&◌}
use mathlib.Core.List.{List, [], ◌∷◌, ◌++◌}
use mathlib.Core.Logic.{◌⊎◌, inl, inr}
use mathlib.Core.Option.{Option, none, some}
use mathlib.Core.Path.{◌≡◌, refl, ap}
use native.Mathlib.Omega.{arith}
use lib.Dec.{ltb, leb}
use lib.ListN.{length, drop}
use Rattle.protocol.specs.Answers.{End}
use Rattle.protocol.specs.Bytes.{pick}
use Rattle.protocol.specs.Calls.{Made}
use Rattle.protocol.specs.Reader.{Report, accepted, broke}
use Rattle.session.specs.Host.{Show, told, read, write_rx, write_lent, write_bytes, close, Step, Engine, Host, Ask, Stop, World, new_call, composing, counted, lent_of, Run, over_with, unended, asking, grant_read, grant_write, grant_close, granted, run, enough, run_call, Entry, on_run, log_of}

-- l was to come when the call began, l' is now
abbrev pub Chained : List ℕ → List Ask → List ℕ → Type 0
Chained l [] l' = l' ≡ l
Chained l (a ∷ more) l' = (l' ≡ drop a.brought a.rest) × ((a.brought ≤ length a.rest) × Chained l more a.rest)

-- a read that brings nothing comes at the end, or is the one that is noted
abbrev pub AtEnd : List Ask → Type 0
AtEnd [] = Unit {0}
AtEnd (a ∷ more) = (a.brought ≡ 0 → a.rest ≡ []) × AtEnd more

abbrev pub Noted : List ℕ → List Ask → Type 0
Noted r [] = ⊥
Noted r (a ∷ more) = ((a.brought ≡ 0) × (r ≡ a.rest)) ⊎ Noted r more

abbrev pub Stopped : Option Stop → List Ask → Type 0
Stopped none xs = AtEnd xs
Stopped (some s) xs = Noted s.rest xs

pub record Turn (l : List ℕ) (xs : List Ask) (stop : Option Stop) (l' : List ℕ) : Type 0 where
  pub chain : Chained l xs l'
  pub stops : Stopped stop xs

abbrev In : List ℕ → World → Type 0
In l w = Turn l w.asks w.stopped w.left

-- an entry for each call, from the bytes held and those to come
abbrev pub Linked : (h l : List ℕ) → List Entry → Type 0
Linked h l [] = Unit {0}
Linked h l (x ∷ xs) =
    (x.held ≡ h) × ((h' : List ℕ) × ((l' : List ℕ) × (Turn l x.asks x.stopped l' × ((x.unread ≡ h' ++ l') × Linked h' l' xs))))

module _ {X : Type 0} (E : Engine X) (h : Host) where
  module _ (lent l : List ℕ) where
    abbrev Ok : Run X → Type 0
    Ok (over_with x rx msg a w) = In l w
    Ok unended = Unit {0}

    ok-if : (b : Bool) (r : Run X) → Ok r → Ok (pick b r unended)
    ok-if true r o = o
    ok-if false r o = tt

    module _ (k : World → Step X → Run X) (on : (w : World) (s : Step X) → In l w → Ok (k w s)) (s : Step X) where
      end-stops : (stop : Option Stop) (xs : List Ask) (a : Ask) → (a.brought ≡ 0 → a.rest ≡ []) → Stopped stop xs → Stopped stop (a ∷ xs)
      end-stops none xs a e z = (e, z)
      end-stops (some s) xs a e z = inr z

      read-turn : (w : World) (at len : ℕ) (v : List ℕ) (f : Option End) → w.left ≡ v → In l w → Ok (grant_read E h lent k w s at len v f)
      read-turn w at len [] f e i =
          on _ _ (record { chain = (refl, (omega arith, i.chain)); stops = end-stops w.stopped w.asks (asking E h lent k w s at len 0) (λ _. e) i.stops })
      read-turn w at len (b ∷ bs) (some d) e i = on _ _ (record { chain = (refl, (omega arith, i.chain)); stops = inl (refl, refl) })
      read-turn w at len (b ∷ bs) none e i =
          let n : ℕ = counted (h.count w.reads) len (length w.left) in
          let q : length w.left ≡ suc (length bs) = ap length e in
          on _ _
          (record {
            chain = (refl, (omega arith, i.chain));
            stops = end-stops w.stopped w.asks (asking E h lent k w s at len n) (λ z. absurd (omega (arith, z))) i.stops;
          })

      write-turn : (w : World) (b : List ℕ) (o : Report) → In l w → Ok (grant_write E h lent k w s b o)
      write-turn w b accepted i = on _ _ (record { chain = i.chain; stops = i.stops })
      write-turn w b (broke e) i = on _ _ (record { chain = i.chain; stops = i.stops })

      close-turn : (w : World) (o : Report) → In l w → Ok (grant_close E h lent k w s o)
      close-turn w accepted i = on _ _ (record { chain = i.chain; stops = i.stops })
      close-turn w (broke e) i = on _ _ (record { chain = i.chain; stops = i.stops })

      granted-turn : (w : World) (sh : Show) → In l w → Ok (granted E h lent k w s sh)
      granted-turn w (told a) i = i
      granted-turn w (read at len) i = ok-if (ltb 0 len && leb (at + len) (length s.rx)) _ (read-turn w at len w.left (h.fails w.reads) refl i)
      granted-turn w (write_rx at len) i =
          ok-if (leb (at + len) (length s.rx)) _ (write-turn (composing at w) _ (h.writes w.writes) (record { chain = i.chain; stops = i.stops }))
      granted-turn w (write_lent at len) i = ok-if (leb (at + len) (length lent)) _ (write-turn w _ (h.writes w.writes) i)
      granted-turn w (write_bytes b) i = write-turn w b (h.writes w.writes) i
      granted-turn w close i = close-turn w h.close i

    run-turn : (f : ℕ) (w : World) (s : Step X) → In l w → Ok (run E h lent f w s)
    unfolding run
    run-turn zero w s i = tt
    run-turn (suc f) w s i = granted-turn (λ w' s'. run E h lent f w' s') (run-turn f) s w s.show i

  entry-linked : (lent l held : List ℕ) (tail : ℕ) (msg : List ℕ) (k : World → X → List ℕ → List ℕ → List Entry) (r : Run X) → Ok lent l r
      → ((w : World) (x : X) (rx msg : List ℕ) → Linked (E.holds x rx) w.left (k w x rx msg)) → Linked held l (on_run E held tail msg k r)
  entry-linked lent l held tail msg k (over_with x rx msg' a w) o on = (refl, (E.holds x rx, (w.left, (o, (refl, on w x rx msg')))))
  entry-linked lent l held tail msg k unended o on = tt

  pub log-linked : (ms : List Made) (w : World) (x : X) (rx msg : List ℕ) → Linked (E.holds x rx) w.left (log_of E h ms w x rx msg)
  unfolding log_of
  log-linked [] w x rx msg = tt
  log-linked (m ∷ ms) w x rx msg =
      entry-linked (lent_of (h.spare w) m.call) w.left (E.holds x rx) (E.tail x) msg _ (run_call E h m w x rx msg)
      (run-turn (lent_of (h.spare w) m.call) w.left (enough m.call w) (new_call w) (E.start x rx msg m (h.spare w)) (record { chain = refl; stops = tt }))
      (λ w' x' rx' msg'. log-linked ms w' x' rx' msg')
