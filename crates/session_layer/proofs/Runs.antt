-- Runs and logs of a layer are those of the engine inside, where these end, write fewer bytes than the limit and refuse no report; and what stands in the layer when
-- each call is over.
-- Assumes nothing.
use Prim.Native.Nat.{ℕ, zero, suc, ◌+◌, ◌≤◌, ◌<◌}
use mathlib.Core.Bool.{Bool, true, false, true≢false, ◌&&◌, and-eq-true_iff}
use mathlib.Core.List.{List, [], ◌∷◌, ◌++◌}
use mathlib.Core.Option.{Option, none, some}
use mathlib.Core.Path.{◌≡◌, refl, sym, ap, ◌∙◌, subst}
use native.Mathlib.Omega.{arith}
use borrow.Author.Tests.{ltb-true, leb-true, lt-ltb}
use lib.Dec.{ltb, leb}
use lib.ListN.{length, take, drop, length-drop, length-append}
use lib.Seq.{length-take-le}
use Rattle.protocol.specs.Answers.{Answer, End}
use Rattle.protocol.specs.Bytes.{pick}
use Rattle.protocol.specs.Calls.{Made}
use Rattle.protocol.specs.Hours.{Hours}
use Rattle.protocol.specs.Reader.{Config, Report, accepted, broke, config_after}
use Rattle.session.specs.Demand3.{AllWide}
use Rattle.session.specs.Faithful.{Faithful}
use Rattle.session.specs.Host.{Show, told, read, write_rx, write_lent, write_bytes, close, Spare, Step, Engine, Host, Ask, World, new_call, has_read, has_written, has_broken, has_stopped, has_closed, composing, counted, lent_of, Run, over_with, unended, asking, grant_read, grant_write, grant_close, granted, run, enough, run_call, Entry, on_run, log_of}
use Rattle.session_reads.specs.Counted.{reads_in}
use Rattle.session_layer.specs.Layer.{asked, Writes, Asks, was_refused, tells_refusal, Account, starting, reading, writing, under, Alike, Layer, sizes, brought, end_run, ends_of}
use Rattle.session_layer.proofs.Refused.{Unasked, RefusedUnasked}

-- ---- accounts

-- in a call, l being the account when it began
abbrev running : Account → World → Account
running l w = record { coming = l.coming; left = w.left; received = l.received + brought w.asks; written = l.written + sizes w.pieces; reads = reads_in w.asks }

-- .. with this asked or told: a refused call leaves the reads
abbrev account : Account → World → Show → Account
account l w sh = record { coming = l.coming; left = w.left; received = l.received + brought w.asks; written = l.written + sizes w.pieces; reads = pick (tells_refusal sh) l.reads (reads_in w.asks) }

sizes-last : (ps : List (List ℕ)) (b : List ℕ) → sizes (ps ++ b ∷ []) ≡ sizes ps + length b
sizes-last [] b = omega arith
sizes-last (p ∷ ps) b = omega (arith, sizes-last ps b)

abbrev made : ℕ → List ℕ → ℕ → ℕ → ℕ → Account
made c v r n k = record { coming = c; left = v; received = r; written = n; reads = k }

made-same : (c : ℕ) (v v' : List ℕ) (r r' n n' k k' : ℕ) → v ≡ v' → r ≡ r' → n ≡ n' → k ≡ k' → made c v r n k ≡ made c v' r' n' k'
made-same c v v' r r' n n' k k' a b d e = λ i. made c (a i) (b i) (d i) (e i)

account_running : (l : Account) (w : World) (sh : Show) → tells_refusal sh ≡ false → account l w sh ≡ running l w
account_running l w sh e = made-same _ _ _ _ _ _ _ _ _ refl refl refl (ap (λ (b : Bool). pick b l.reads (reads_in w.asks)) e)

-- one that brings bytes counts, one that brings none does not
count-some : (n b k : ℕ) → b ≡ k → 0 < k → n + pick (ltb 0 b) 1 0 ≡ n + 1
count-some n b k e h = ap (λ (t : Bool). n + pick t 1 0) (lt-ltb 0 b (omega arith))

count_none : (n b : ℕ) → b ≡ 0 → n + pick (ltb 0 b) 1 0 ≡ n
count_none n b e = ap (λ (i : ℕ). n + pick (ltb 0 i) 1 0) e ∙ omega arith

running_read : (l : Account) (w : World) (k : ℕ) (a : Ask) → a.brought ≡ k → 0 < k → running l (has_read k a w) ≡ reading k (running l w)
running_read l w k a e h = made-same _ _ _ _ _ _ _ _ _ refl (omega (arith, e)) refl (count-some (reads_in w.asks) a.brought k e h)

running_none : (l : Account) (w : World) (a : Ask) → a.brought ≡ 0 → running l (has_read 0 a w) ≡ running l w
running_none l w a e = made-same _ _ _ _ _ _ _ _ _ refl (omega (arith, e)) refl (count_none (reads_in w.asks) a.brought e)

running_wrote : (l : Account) (w : World) (b : List ℕ) (n : ℕ) → length b ≡ n → running l (has_written b w) ≡ writing n (running l w)
running_wrote l w b n e = made-same _ _ _ _ _ _ _ _ _ refl refl (omega (arith, e, sizes-last w.pieces b)) refl

account_start : (l : Account) (w : World) (sh : Show) → w.left ≡ l.left → account l (new_call w) sh ≡ starting sh l
account_start l w sh e = made-same _ _ _ _ _ _ _ _ _ e (omega arith) (omega arith) refl

writes-ask : (sh : Show) → Writes sh → Asks sh
writes-ask (told a) w = w
writes-ask (read at len) w = absurd w
writes-ask (write_rx at len) w = tt
writes-ask (write_lent at len) w = tt
writes-ask (write_bytes b) w = tt
writes-ask close w = tt

length_part : (at len : ℕ) (s : List ℕ) → at + len ≤ length s → length (take len (drop at s)) ≡ len
length_part at len s h = length-take-le len (drop at s) (omega (arith, length-drop at s))

-- ---- logs

-- how many bytes a log has written
abbrev pub total : List Entry → ℕ
total [] = 0
total (e ∷ es) = sizes e.pieces + total es

-- from here on every list of calls is the plain reader's
abbrev pub Always : {X : Type 0} → Engine X → Host → Option Hours → Config → List ℕ → World → X → (rx msg : List ℕ) → Type 0
Always E h t g v w x rx msg = (ms : List Made) → AllWide ms → Faithful t g h.end ms v (log_of E h ms w x rx msg)

-- What stands in the layer when a call is over, in y: e is its entry, l the account before it and l' after it. `P`: what is known of the engine's
-- session inside, and of the receive buffer.
pub record Over {Y X : Type 0} (E : Engine X) (R : Account → Show → Y → X → Type 0) (P : X → List ℕ → Type 0) (l : Account) (e : Entry) (y : Y) (l' : Account) : Type 0 where
  pub x : X
  pub rx : List ℕ
  pub relates : R l' (told e.answer) y x
  pub known : P x rx
  pub unread : e.unread ≡ E.holds x rx ++ l'.left
  pub coming : l'.coming ≡ l.coming
  pub received : l'.received ≡ l.received + brought e.asks
  pub written : l'.written ≡ l.written + sizes e.pieces
  pub reads : l'.reads ≡ pick (was_refused e.answer) l.reads (reads_in e.asks)

abbrev pub AtEnds : {Y X : Type 0} → Engine X → (Account → Show → Y → X → Type 0) → (X → List ℕ → Type 0) → Account → List Entry → List Y → Type 0
AtEnds E R P l [] ys = ys ≡ []
AtEnds E R P l (e ∷ es) [] = ⊥
AtEnds E R P l (e ∷ es) (y ∷ ys) = (l' : Account) × (Over E R P l e y l' × AtEnds E R P l' es ys)

-- ---- what was asked leaves a trace

abbrev Quiet : World → Type 0
Quiet w = Unasked w.asks w.pieces w.broken w.closes

cons_nil : {A : Type 0} (a : A) (l : List A) → a ∷ l ≡ [] → ⊥
cons_nil a l e = absurd (omega (arith, ap length e))

last-nil : {A : Type 0} (l : List A) (a : A) → l ++ a ∷ [] ≡ [] → ⊥
last-nil l a e = absurd (omega (arith, ap length e, length-append l (a ∷ [])))

-- ---- runs

module _ {Y X : Type 0} (limit : ℕ) (F : Engine Y) (E : Engine X) (lends : Spare → Type 0) (R : Account → Show → Y → X → Type 0)
    (L : Layer limit F E lends R) (h : Host) (Lent-ok : (w : World) → lends (h.spare w)) where
  -- E's run ends, and fewer bytes than the limit are written then, n before it; where it ends with a refusal, nothing was asked
  abbrev Ends : ℕ → Run X → Type 0
  Ends n (over_with x rx msg a w) = (n + sizes w.pieces < limit) × (was_refused a ≡ true → Quiet w)
  Ends n unended = ⊥

  module _ (lent : List ℕ) where
    -- .. so are they on the way
    module _ (n : ℕ) where
      fits-if : (b : Bool) (r : Run X) (m : ℕ) → (Ends n r → m < limit) → Ends n (pick b r unended) → m < limit
      fits-if true r m f y = f y
      fits-if false r m f y = absurd y

      module _ (k : World → Step X → Run X) (on : (w : World) (s : Step X) → Ends n (k w s) → n + sizes w.pieces < limit) (s : Step X) where
        fits_read : (w : World) (at len : ℕ) (v : List ℕ) (f : Option End) → Ends n (grant_read E h lent k w s at len v f) → n + sizes w.pieces < limit
        fits_read w at len [] f y = on _ _ y
        fits_read w at len (c ∷ v) (some e) y = on _ _ y
        fits_read w at len (c ∷ v) none y = on _ _ y

        fits-write : (w : World) (b : List ℕ) (o : Report) → Ends n (grant_write E h lent k w s b o) → n + sizes w.pieces < limit
        fits-write w b accepted y = omega (arith, on _ _ y, sizes-last w.pieces b)
        fits-write w b (broke e) y = on _ _ y

        fits-close : (w : World) (o : Report) → Ends n (grant_close E h lent k w s o) → n + sizes w.pieces < limit
        fits-close w accepted y = on _ _ y
        fits-close w (broke e) y = on _ _ y

        fits-granted : (w : World) (sh : Show) → Ends n (granted E h lent k w s sh) → n + sizes w.pieces < limit
        fits-granted w (told a) y = y.0
        fits-granted w (read at len) y = fits-if (ltb 0 len && leb (at + len) (length s.rx)) _ _ (fits_read w at len w.left (h.fails w.reads)) y
        fits-granted w (write_rx at len) y = fits-if (leb (at + len) (length s.rx)) _ _ (fits-write (composing at w) _ (h.writes w.writes)) y
        fits-granted w (write_lent at len) y = fits-if (leb (at + len) (length lent)) _ _ (fits-write w _ (h.writes w.writes)) y
        fits-granted w (write_bytes b) y = fits-write w b (h.writes w.writes) y
        fits-granted w close y = fits-close w h.close y

      fits-run : (i : ℕ) (w : World) (s : Step X) → Ends n (run E h lent i w s) → n + sizes w.pieces < limit
      unfolding run
      fits-run zero w s y = absurd y
      fits-run (suc i) w s y = fits-granted (λ w' s'. run E h lent i w' s') (fits-run i) s w s.show y

      -- a step that refuses ends the run: nothing was asked before it
      refused-granted : (k : World → Step X → Run X) (w : World) (s : Step X) (sh : Show) → Ends n (granted E h lent k w s sh) → tells_refusal sh ≡ true → Quiet w
      refused-granted k w s (told a) y e = y.1 e
      refused-granted k w s (read at len) y e = absurd (true≢false (sym e))
      refused-granted k w s (write_rx at len) y e = absurd (true≢false (sym e))
      refused-granted k w s (write_lent at len) y e = absurd (true≢false (sym e))
      refused-granted k w s (write_bytes b) y e = absurd (true≢false (sym e))
      refused-granted k w s close y e = absurd (true≢false (sym e))

      refused-run : (i : ℕ) (w : World) (s : Step X) → Ends n (run E h lent i w s) → tells_refusal s.show ≡ true → Quiet w
      unfolding run
      refused-run zero w s y e = absurd y
      refused-run (suc i) w s y e = refused-granted (λ w' s'. run E h lent i w' s') w s s.show y e

    module _ (l : Account) where
      -- F's run e is E's run, and the relation holds at its end
      abbrev Same : Run Y → Run X → Type 0
      Same e (over_with x rx msg a w) = (y : Y) × ((e ≡ over_with y rx msg a w) × R (account l w (told a)) (told a) y x)
      Same e unended = e ≡ unended

      same_if : (b : Bool) (e : Run Y) (r : Run X) → (b ≡ true → Ends l.written r → Same e r) → Ends l.written (pick b r unended)
          → Same (pick b e unended) (pick b r unended)
      same_if true e r f y = f refl y
      same_if false e r f y = refl

      module _ (k : World → Step Y → Run Y) (k' : World → Step X → Run X)
          (fits : (w : World) (s : Step X) → Ends l.written (k' w s) → l.written + sizes w.pieces < limit)
          (quiet : (w : World) (s : Step X) → Ends l.written (k' w s) → tells_refusal s.show ≡ true → Quiet w)
          (on : (w : World) (t : Step Y) (s : Step X) → Alike R (account l w s.show) t s → Ends l.written (k' w s) → Same (k w t) (k' w s))
          (y : Y) (s : Step X) where
        -- a report is not refused
        let_in : (w : World) (s : Step X) → (Quiet w → ⊥) → Ends l.written (k' w s) → tells_refusal s.show ≡ false
        let_in w s n f = go (tells_refusal s.show) refl
          where
            go : (b : Bool) → tells_refusal s.show ≡ b → b ≡ false
            go true e = absurd (n (quiet w s f e))
            go false e = refl

        -- a report, the account then being m
        on-at : (w : World) (m : Account) (t : Step Y) (s : Step X) → (Quiet w → ⊥) → running l w ≡ m → (tells_refusal s.show ≡ false → Alike R m t s) → Ends l.written (k' w s)
            → Same (k w t) (k' w s)
        on-at w m t s n e z f =
            let i : tells_refusal s.show ≡ false = let_in w s n f in
            on w t s (subst (λ (m : Account). Alike R m t s) (sym (account_running l w s.show i ∙ e)) (z i)) f

        same-fault : (w w' : World) (sh : Show) → R (running l w) sh y s.x → Asks sh → (Quiet w' → ⊥) → running l w' ≡ running l w → (rx : List ℕ) (x : End)
            → Ends l.written (k' w' (E.on_fault s.x rx s.msg lent x (h.spare w)))
            → Same (k w' (F.on_fault y rx s.msg lent x (h.spare w))) (k' w' (E.on_fault s.x rx s.msg lent x (h.spare w)))
        same-fault w w' sh z c n e rx x f = on-at _ _ _ _ n e (L.on_fault (running l w) sh y s.x z c rx s.msg lent x (h.spare w) (Lent-ok w)) f

        same_write : (w : World) (sh : Show) → R (running l w) sh y s.x → Writes sh → (b : List ℕ) (o : Report) → length b ≡ asked sh
            → Ends l.written (grant_write E h lent k' w s b o) → Same (grant_write F h lent k w (under y s) b o) (grant_write E h lent k' w s b o)
        same_write w sh z c b accepted e f =
            on-at (has_written b w) _ _ _ (λ u. last-nil w.pieces b u.1.0) (running_wrote l w b (asked sh) e)
            (L.on_wrote (running l w) sh y s.x z c (omega (arith, e, sizes-last w.pieces b, fits _ _ f)) s.rx s.msg lent (h.spare w) (Lent-ok w)) f
        same_write w sh z c b (broke x) e f = same-fault w (has_broken b x w) sh z (writes-ask sh c) (λ u. cons_nil _ w.broken u.1.1.0) refl s.rx x f

        same-close : (w : World) → R (running l w) close y s.x → (o : Report)
            → Ends l.written (grant_close E h lent k' w s o) → Same (grant_close F h lent k w (under y s) o) (grant_close E h lent k' w s o)
        same-close w z accepted f =
            on-at (has_closed w) _ _ _ (λ u. cons_nil _ w.closes u.1.1.1) (made-same _ _ _ _ _ _ _ _ _ refl refl (omega arith) refl)
            (L.on_wrote (running l w) close y s.x z tt (omega (arith, fits _ _ f)) s.rx s.msg lent (h.spare w) (Lent-ok w)) f
        same-close w z (broke x) f = same-fault w (has_closed w) close z tt (λ u. cons_nil _ w.closes u.1.1.1) refl s.rx x f

        same_read : (w : World) (at len : ℕ) → R (running l w) (read at len) y s.x → 0 < len → (v : List ℕ) → w.left ≡ v → (o : Option End)
            → Ends l.written (grant_read E h lent k' w s at len v o) → Same (grant_read F h lent k w (under y s) at len v o) (grant_read E h lent k' w s at len v o)
        same_read w at len z p [] e o f =
            let a : Ask = asking E h lent k' w s at len 0 in
            rw (L.holds _ _ _ _ z s.rx) (same-fault w (has_read 0 a w) (read at len) z tt (λ u. cons_nil a w.asks u.0) (running_none l w a refl) _ h.end f)
        same_read w at len z p (c ∷ v) e (some x) f =
            let a : Ask = asking E h lent k' w s at len 0 in
            rw (L.holds _ _ _ _ z s.rx) (same-fault w (has_stopped x (has_read 0 a w)) (read at len) z tt (λ u. cons_nil a w.asks u.0) (running_none l w a refl) _ x f)
        same_read w at len z p (c ∷ v) e none f =
            let n : ℕ = counted (h.count w.reads) len (length w.left) in
            let q : length w.left ≡ suc (length v) = ap length e in
            let a : Ask = asking E h lent k' w s at len n in
            rw (L.holds _ _ _ _ z s.rx)
            (on-at (has_read n a w) _ _ _ (λ u. cons_nil a w.asks u.0) (running_read l w n a refl (omega arith))
            (L.on_read (running l w) at len y s.x z _ s.msg lent n (h.spare w) (Lent-ok w) (omega arith) (omega arith) (omega arith)) f)

        same-granted : (w : World) (sh : Show) → R (account l w sh) sh y s.x → Ends l.written (granted E h lent k' w s sh)
            → Same (granted F h lent k w (under y s) sh) (granted E h lent k' w s sh)
        same-granted w (told a) z f = (y, (refl, z))
        same-granted w (read at len) z f =
            same_if (ltb 0 len && leb (at + len) (length s.rx)) _ _
            (λ e. let (c, d) = (and-eq-true_iff (ltb 0 len) (leb (at + len) (length s.rx))).0 e in
            same_read w at len z (ltb-true 0 len c) w.left refl (h.fails w.reads)) f
        same-granted w (write_rx at len) z f =
            same_if (leb (at + len) (length s.rx)) _ _
            (λ e. same_write (composing at w) (write_rx at len) z tt _ (h.writes w.writes) (length_part at len s.rx (leb-true _ _ e))) f
        same-granted w (write_lent at len) z f =
            same_if (leb (at + len) (length lent)) _ _
            (λ e. same_write w (write_lent at len) z tt _ (h.writes w.writes) (length_part at len lent (leb-true _ _ e))) f
        same-granted w (write_bytes b) z f = same_write w (write_bytes b) z tt b (h.writes w.writes) refl f
        same-granted w close z f = same-close w z h.close f

      same-run : (i : ℕ) (w : World) (t : Step Y) (s : Step X) → Alike R (account l w s.show) t s → Ends l.written (run E h lent i w s)
          → Same (run F h lent i w t) (run E h lent i w s)
      unfolding run
      same-run zero w t s z f = refl
      same-run (suc i) w t s (y, (e, z)) f =
          rw e
          (same-granted (λ w' t'. run F h lent i w' t') (λ w' s'. run E h lent i w' s') (fits-run l.written i) (refused-run l.written i) (same-run i) y s w s.show z f)

  -- ---- logs

  -- a log that has an entry for each call, and has written fewer bytes than the limit, n before it; a call that was refused has asked nothing
  abbrev Whole : ℕ → List Made → List Entry → Type 0
  Whole n ms es = (length es ≡ length ms) × ((n + total es < limit) × RefusedUnasked es)

  ends_of_lem : (n : ℕ) (c : Made) (ms : List Made) (u : List ℕ) (z : ℕ) (m : List ℕ) (k : World → X → List ℕ → List ℕ → List Entry) (r : Run X)
      → Whole n (c ∷ ms) (on_run E u z m k r) → Ends n r
  ends_of_lem n c ms u z m k (over_with x rx msg a w) (e, (f, (g, gs))) = (omega arith, g)
  ends_of_lem n c ms u z m k unended (e, f) = omega (arith, e)

  -- a call from where the relation holds
  call_same : (c : Made) (l : Account) (w : World) (a : Answer) (y : Y) (x : X) (rx msg : List ℕ) → w.left ≡ l.left → R l (told a) y x → Ends l.written (run_call E h c w x rx msg)
      → Same (lent_of (h.spare w) c.call) l (run_call F h c w y rx msg) (run_call E h c w x rx msg)
  call_same c l w a y x rx msg e z f =
      let t : Step Y = F.start y rx msg c (h.spare w) in
      let s : Step X = E.start x rx msg c (h.spare w) in
      same-run (lent_of (h.spare w) c.call) l (enough c.call w) (new_call w) t s
      (subst (λ (m : Account). Alike R m t s) (sym (account_start l w s.show e)) (L.start l a y x z rx msg c (h.spare w) (Lent-ok w))) f

  -- an entry, and what follows
  entry-same : (l : Account) (lent : List ℕ) (c : Made) (ms : List Made) (u : List ℕ) (z : ℕ) (m : List ℕ)
      (k : World → Y → List ℕ → List ℕ → List Entry) (k' : World → X → List ℕ → List ℕ → List Entry)
      → ((w : World) (a : Answer) (y : Y) (x : X) (rx msg : List ℕ) → R (account l w (told a)) (told a) y x
      → Whole (l.written + sizes w.pieces) ms (k' w x rx msg) → k w y rx msg ≡ k' w x rx msg)
      → (e : Run Y) (r : Run X) → Same lent l e r → Whole l.written (c ∷ ms) (on_run E u z m k' r) → on_run F u z m k e ≡ on_run E u z m k' r
  entry-same l lent c ms u z m k k' on e (over_with x rx msg a w) (y, (p, i)) (f, (b, (d, ds))) =
      ap (on_run F u z m k) p ∙ rw (L.holds _ _ _ _ i rx, L.tail _ _ _ _ i, on w a y x rx msg i (omega (arith, f), (omega arith, ds)))
  entry-same l lent c ms u z m k k' on e unended p f = ap (on_run F u z m k) p

  pub log-same : (ms : List Made) (l : Account) (w : World) (a : Answer) (y : Y) (x : X) (rx msg : List ℕ) → w.left ≡ l.left → R l (told a) y x
      → Whole l.written ms (log_of E h ms w x rx msg) → log_of F h ms w y rx msg ≡ log_of E h ms w x rx msg
  unfolding log_of
  log-same [] l w a y x rx msg e z f = refl
  log-same (c ∷ ms) l w a y x rx msg e z f =
      rw (L.holds _ _ _ _ z rx, L.tail _ _ _ _ z)
      (entry-same l (lent_of (h.spare w) c.call) c ms (E.holds x rx) (E.tail x) msg _ _
      (λ w' a' y' x' rx' msg' z' f'. log-same ms (account l w' (told a')) w' a' y' x' rx' msg' refl z' f')
      (run_call F h c w y rx msg) (run_call E h c w x rx msg)
      (call_same c l w a y x rx msg e z (ends_of_lem l.written c ms (E.holds x rx) (E.tail x) msg (λ w' x' rx' msg'. log_of E h ms w' x' rx' msg') (run_call E h c w x rx msg) f)) f)

  -- ---- what stands in F when each call is over

  module _ (t : Option Hours) (P : X → List ℕ → Type 0) (stands : (g : Config) (v : List ℕ) (w : World) (x : X) (rx msg : List ℕ) → Always E h t g v w x rx msg → P x rx) where
    entry_at : (g : Config) (v : List ℕ) (l : Account) (lent : List ℕ) (c : Made) (ms : List Made) (u : List ℕ) (z : ℕ) (m : List ℕ) (k : World → Y → List ℕ → List ℕ → List Y)
        → ((w : World) (a : Answer) (y : Y) (x : X) (rx msg : List ℕ) → R (account l w (told a)) (told a) y x → Always E h t (config_after g c.call) (E.holds x rx ++ w.left) w x rx msg
        → Whole (l.written + sizes w.pieces) ms (log_of E h ms w x rx msg) → AtEnds E R P (account l w (told a)) (log_of E h ms w x rx msg) (k w y rx msg))
        → (e : Run Y) (r : Run X) → Same lent l e r
        → ((ms : List Made) → AllWide ms → Faithful t g h.end (c ∷ ms) v (on_run E u z m (λ w' x' rx' msg'. log_of E h ms w' x' rx' msg') r))
        → Whole l.written (c ∷ ms) (on_run E u z m (λ w' x' rx' msg'. log_of E h ms w' x' rx' msg') r)
        → AtEnds E R P l (on_run E u z m (λ w' x' rx' msg'. log_of E h ms w' x' rx' msg') r) (end_run k e)
    entry_at g v l lent c ms u z m k on e (over_with x rx msg a w) (y, (p, i)) always (f, (b, (d, ds))) =
        let after : Always E h t (config_after g c.call) (E.holds x rx ++ w.left) w x rx msg = λ ms' wide. (always ms' wide).1 in
        rw p (
          account l w (told a),
          (
            record { x = x; rx = rx; relates = i; known = stands (config_after g c.call) (E.holds x rx ++ w.left) w x rx msg after; unread = refl; coming = refl; received = refl; written = refl; reads = refl },
            on w a y x rx msg i after (omega (arith, f), (omega arith, ds)),
          ),
        )
    entry_at g v l lent c ms u z m k on e unended p always f = rw p refl

    pub log-at : (ms : List Made) → AllWide ms → (g : Config) (v : List ℕ) (l : Account) (w : World) (a : Answer) (y : Y) (x : X) (rx msg : List ℕ) → w.left ≡ l.left → R l (told a) y x
        → Always E h t g v w x rx msg → Whole l.written ms (log_of E h ms w x rx msg) → AtEnds E R P l (log_of E h ms w x rx msg) (ends_of F h ms w y rx msg)
    unfolding log_of ends_of
    log-at [] wide g v l w a y x rx msg e z always f = refl
    log-at (c ∷ ms) wide g v l w a y x rx msg e z always f =
        entry_at g v l (lent_of (h.spare w) c.call) c ms (E.holds x rx) (E.tail x) msg _
        (λ w' a' y' x' rx' msg' z' always' f'. log-at ms wide.1 (config_after g c.call) (E.holds x' rx' ++ w'.left) (account l w' (told a')) w' a' y' x' rx' msg' refl z' always' f')
        (run_call F h c w y rx msg) (run_call E h c w x rx msg)
        (call_same c l w a y x rx msg e z (ends_of_lem l.written c ms (E.holds x rx) (E.tail x) msg (λ w' x' rx' msg'. log_of E h ms w' x' rx' msg') (run_call E h c w x rx msg) f))
        (λ ms' wide'. always (c ∷ ms') (wide.0, wide')) f
