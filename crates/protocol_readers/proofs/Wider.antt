-- Demand 3's comparison of two plain readers (`specs/Wider.antt`): what A reads before its first 12, 13 or 17, B reads too, and leaves
-- the same bytes unread, with x behind them. Only a FAIL's text depends on the capacity. Assumes nothing.
use Prim.Native.Nat.{ℕ, zero, suc, ◌-◌, ◌≤◌, ◌<◌, min, max}
use mathlib.Core.Bool.{Bool, true, false}
use mathlib.Core.List.{List, [], ◌∷◌, ◌++◌}
use mathlib.Core.Logic.{inl, inr}
use mathlib.Core.Option.{Option, none, some}
use mathlib.Core.Path.{◌≡◌, refl, sym, ap, ◌∙◌, subst}
use native.Mathlib.Decide.{dec_le}
use native.Mathlib.Omega.{arith}
use borrow.Author.Tests.{ltb-false}
use lib.Dec.{ltb}
use lib.ListN.{length, take, drop, get_or, length-append, length-drop}
use lib.Seq.{take-append-le, drop-append-le, take-take, length-take-le}
use Rattle.protocol.specs.Answers as A
use Rattle.protocol.specs.Answers.{Answer, End, closed, error}
use Rattle.protocol.specs.Bytes.{pick, same}
use Rattle.protocol.specs.Calls.{Version, v1, v2, Call, call, next_entry, next_chunk, Made}
use Rattle.protocol.specs.Hours.{Hours}
use Rattle.protocol.specs.Refusal.{refusal, turned, closed_hours}
use Rattle.protocol.specs.Ids.{Dialect, FAIL}
use Rattle.protocol.specs.Messages.{PathOnly, stat, sta2, list, lis2, recv, ask, rcv2, send, snd2, chunk, done, quit}
use Rattle.protocol.specs.Reader.{Prog, answer, need, skip, Result, ended, short, plain, failing, Way, among_ways, next_on, next}
use Rattle.protocol.specs.Reader.{stat_ways, entry_ways, chunk_ways, okay_ways, Config, accepted, closing, ask_prog, written, unless_refused, program}
use Rattle.protocol.specs.Reader.{Reply, reply, plain_call, config_after, plain_made, writes_made, plain_answers, writes, plain_writes}
use Rattle.protocol.specs.Records.{id_at, arg_at, header_size}
use Rattle.protocol_readers.specs.Wider.{widen, Stops, Unstopped, unread_at, Like}
use Rattle.protocol_readers.proofs.Fails.{arg-taken, Dropped, all, part, failing-drops}
use Rattle.protocol_readers.proofs.Needs.{plain-go_held}

-- ---- one program

-- B's result r, of A's, where A's answer is none of 12, 13 and 17; l is the length in the header
abbrev Grown : ℕ → ℕ → List ℕ → Result → Result → Type 0
Grown c l x (ended a v) r = (Stops a → ⊥) → (b : Answer) × (r ≡ ended b (v ++ x)) × Like c l a b
Grown c l x (short n v) r = Unit {0}

-- A program drops only what a need has shown; m bytes are known to be there.
abbrev Ok : ℕ → Prog → Type 0
Ok m (answer a) = Unit {0}
Ok m (need n k) = (y : List ℕ) → length y ≡ n → Ok (max m n) (k y)
Ok m (skip n p) = (n ≤ m) × Ok (m - n) p

module _ (c d l : ℕ) (x : List ℕ) (wide : c ≤ d) where
  -- a need that A meets is met by B, with the same bytes in view
  need-grown : (n : ℕ) (k k' : List ℕ → Prog) (u : List ℕ)
      → (n ≤ length u → Grown c l x (plain c (k (take n u)) u) (plain d (k' (take n u)) (u ++ x)))
      → Grown c l x (plain c (need n k) u) (plain d (need n k') (u ++ x))
  unfolding plain
  need-grown n k k' u rest = go (ltb c n) (ltb (length u) n) refl refl
    where
      go : (b₁ b₂ : Bool) → ltb c n ≡ b₁ → ltb (length u) n ≡ b₂
          → Grown c l x (pick b₁ (ended A.too_large u) (pick b₂ (short n u) (plain c (k (take n u)) u))) (plain d (need n k') (u ++ x))
      go true b₂ e₁ e₂ = λ runs. absurd (runs refl)
      go false true e₁ e₂ = tt
      go false false e₁ e₂ =
          let h : n ≤ c = ltb-false c n e₁ in
          let m : n ≤ length u = ltb-false (length u) n e₂ in
          subst (Grown c l x (plain c (k (take n u)) u)) (sym (plain-go_held d n k' u x (omega arith) m)) (rest m)

  -- a program that does not know the capacity
  same-grown : (p : Prog) (m : ℕ) (u : List ℕ) → Ok m p → m ≤ length u → Grown c l x (plain c p u) (plain d p (u ++ x))
  unfolding plain
  same-grown (answer a) m u o h = λ runs. (a, refl, inl refl)
  same-grown (need n k) m u o h =
      need-grown n k k u (λ f. same-grown (k (take n u)) (max m n) u (o (take n u) (length-take-le n u f)) (omega arith))
  same-grown (skip n p) m u o h =
      rw (drop-append-le n u x (omega arith)) (same-grown p (m - n) (drop n u) o.1 (omega (arith, length-drop n u)))

  text-like : (v : List ℕ) → l ≤ length v → Like c l (A.fail (take (min l c) v)) (A.fail (take (min l d) (v ++ x)))
  text-like v m = rw (take-append-le (min l d) v x (omega arith)) (go (dec_le l c))
    where
      go : Dec (l ≤ c) → Like c l (A.fail (take (min l c) v)) (A.fail (take (min l d) v))
      go (yes h) = let z : min l c ≡ min l d = omega arith in inl (ap (λ (n : ℕ). A.fail (take n v)) z)
      go (no f) =
          let z : min l c ≡ c = omega arith in
          inr
          (record {
            over = omega arith;
            text = take (min l c) v;
            longer = take (min l d) v;
            A_fails = refl;
            B_fails = refl;
            begins = ap (λ (n : ℕ). take n v) z ∙ sym (take-take c (min l d) v (omega arith));
            full = length-take-le (min l c) v (omega arith) ∙ z;
          })

  failing-grown : (u : List ℕ) → 1 ≤ c → header_size ≤ length u → Grown c l x (plain c (failing c l) u) (plain d (failing d l) (u ++ x))
  failing-grown u p h =
      go (failing-drops c l u p) (rw (drop-append-le header_size u x h) at (failing-drops d l (u ++ x) (omega arith)))
    where
      v : List ℕ
      v = drop header_size u

      t : Answer
      t = A.fail (take (min l d) (v ++ x))

      go : {r r' : Result} → Dropped (A.fail (take (min l c) v)) l v r → Dropped t l (v ++ x) r' → Grown c l x r r'
      go {r} {r'} (all i e) (all j e') =
          subst (λ (s : Result). Grown c l x s r') (sym e) (λ runs. (t, e' ∙ ap (ended t) (drop-append-le l v x i), text-like v i))
      go (all i e) (part j n w e') = absurd (omega (arith, length-append v x))
      go {r} {r'} (part i n w e) s = subst (λ (s : Result). Grown c l x s r') (sym e) tt

-- ---- the calls

abbrev OkWays : List Way → Type 0
OkWays [] = Unit {0}
OkWays (w ∷ ws) = ((h : List ℕ) → Ok header_size (w.on h)) × OkWays ws

ok-pick : (m : ℕ) (b : Bool) (p q : Prog) → Ok m p → Ok m q → Ok m (pick b p q)
ok-pick m true p q i j = i
ok-pick m false p q i j = j

ok-among : (i : Dialect) (ws : List Way) (h : List ℕ) (a : Answer) → OkWays ws → Ok header_size (among_ways i ws h a)
ok-among i [] h a o = tt
ok-among i (w ∷ ws) h a o =
    ok-pick header_size (same (id_at h) (i.bytes w.id)) (w.on h) (among_ways i ws h a) (o.0 h) (ok-among i ws h a o.1)

-- A's results of p, and B's of p'
abbrev Grows : ℕ → ℕ → List ℕ → Prog → Prog → Type 0
Grows c d x p p' = (u : List ℕ) → Grown c (arg_at u) x (plain c p u) (plain d p' (u ++ x))

module _ (c d : ℕ) (x : List ℕ) (least : 8 ≤ c) (wide : c ≤ d) where
  answer-grows : (a : Answer) → Grows c d x (answer a) (answer a)
  answer-grows a u = same-grown c d (arg_at u) x wide (answer a) 0 u tt (omega arith)

  next_grows : (i : Dialect) (ws : List Way) → OkWays ws → Grows c d x (next i c ws) (next i d ws)
  next_grows i ws o u =
      need-grown c d (arg_at u) x wide header_size (next_on i c ws A.unexpected) (next_on i d ws A.unexpected) u
      (λ m. go m (take header_size u) (arg-taken u m) (same (id_at (take header_size u)) (i.bytes FAIL)))
    where
      rest : List ℕ → Prog
      rest h = among_ways i ws h (A.unexpected (id_at h))

      go : header_size ≤ length u → (h : List ℕ) → arg_at h ≡ arg_at u → (b : Bool)
          → Grown c (arg_at u) x (plain c (pick b (failing c (arg_at h)) (rest h)) u) (plain d (pick b (failing d (arg_at h)) (rest h)) (u ++ x))
      go m h e true = rw e (failing-grown c d (arg_at u) x wide u (omega arith) m)
      go m h e false = same-grown c d (arg_at u) x wide (rest h) header_size u (ok-among i ws h (A.unexpected (id_at h)) o) m

  stat-grows : (i : Dialect) (v : Version) → Grows c d x (next i c (stat_ways v)) (next i d (stat_ways v))
  stat-grows i v = next_grows i (stat_ways v) ((λ h y e. (omega arith, tt)), tt)

  ask-grows : (i : Dialect) (q : PathOnly) → Grows c d x (ask_prog i c q) (ask_prog i d q)
  ask-grows i stat = stat-grows i v1
  ask-grows i sta2 = stat-grows i v2
  ask-grows i list = answer-grows A.done
  ask-grows i lis2 = answer-grows A.done
  ask-grows i recv = answer-grows A.done

  written_grows : (g : Config) (q : Call) → Grows c d x (written (widen c g) q) (written (widen d g) q)
  unfolding written
  written_grows g (call (ask i p)) = ask-grows g.setting.dialect i
  written_grows g (call (rcv2 p f)) = answer-grows A.done
  written_grows g (call (send p m)) = answer-grows A.done
  written_grows g (call (snd2 p m f)) = answer-grows A.done
  written_grows g (call (chunk y)) = answer-grows A.done
  written_grows g (call (done t)) = next_grows g.setting.dialect okay_ways ((λ h. (omega arith, tt)), tt)
  written_grows g (call quit) = answer-grows (closing g.close)
  written_grows g (next_entry v) =
      next_grows g.setting.dialect (entry_ways v) ((λ h y e. (omega arith, λ z r. (omega arith, tt))), ((λ h y e. (omega arith, tt)), tt))
  written_grows g next_chunk = next_grows g.setting.dialect chunk_ways ((λ h y e. (omega arith, tt)), ((λ h. (omega arith, tt)), tt))

  call-grows : (g : Config) (q : Call) → Grows c d x (program (widen c g) accepted q) (program (widen d g) accepted q)
  call-grows g q = go (refusal g.setting q)
    where
      go : (o : Option Answer) → Grows c d x (unless_refused o (written (widen c g) q)) (unless_refused o (written (widen d g) q))
      go (some a) = answer-grows a
      go none = written_grows g q

-- ---- the list of calls

stops-short : (e : End) → Stops (A.broken e)
stops-short closed = refl
stops-short (error c) = refl

module _ (d : ℕ) (e e' : End) (x : List ℕ) where
  -- a call that does not stop A: what B leaves unread, and B's answer
  replies : (g : Config) (q : Call) (u : List ℕ) → 8 ≤ g.capacity → g.capacity ≤ d → (Stops (plain_call g e accepted q u).answer → ⊥)
      → ((plain_call (widen d g) e' accepted q (u ++ x)).unread ≡ (plain_call g e accepted q u).unread ++ x)
      × Like g.capacity (arg_at u) (plain_call g e accepted q u).answer (plain_call (widen d g) e' accepted q (u ++ x)).answer
  replies g q u least wide =
      go (plain c (program g accepted q) u) (plain d (program (widen d g) accepted q) (u ++ x)) (call-grows c d x least wide g q u)
    where
      c : ℕ
      c = g.capacity

      go : (r r' : Result) → Grown c (arg_at u) x r r' → (Stops (reply e r).answer → ⊥)
          → ((reply e' r').unread ≡ (reply e r).unread ++ x) × Like c (arg_at u) (reply e r).answer (reply e' r').answer
      go (ended a v) r' h runs = rw (h runs).1 (refl, (h runs).2)
      go (short n v) r' h runs = absurd (runs (stops-short e))

  -- .. as it is made: both meet the same hours
  made-replies : (h : Option Hours) (g : Config) (m : Made) (u : List ℕ) → 8 ≤ g.capacity → g.capacity ≤ d → (Stops (plain_made h g e m u).answer → ⊥)
      → ((plain_made h (widen d g) e' m (u ++ x)).unread ≡ (plain_made h g e m u).unread ++ x)
      × Like g.capacity (arg_at u) (plain_made h g e m u).answer (plain_made h (widen d g) e' m (u ++ x)).answer
  made-replies h g m u least wide = go (turned h g.setting m)
    where
      shut : List ℕ → Reply
      shut v = record { answer = A.refused closed_hours; unread = v }

      go : (b : Bool) → (Stops (pick b (shut u) (plain_call g e accepted m.call u)).answer → ⊥)
          → ((pick b (shut (u ++ x)) (plain_call (widen d g) e' accepted m.call (u ++ x))).unread ≡ (pick b (shut u) (plain_call g e accepted m.call u)).unread ++ x)
          × Like g.capacity (arg_at u) (pick b (shut u) (plain_call g e accepted m.call u)).answer
          (pick b (shut (u ++ x)) (plain_call (widen d g) e' accepted m.call (u ++ x))).answer
      go true runs = (refl, inl refl)
      go false runs = replies g m.call u least wide runs

  -- "Before A's first answer 12, 13 or 17 B gives A's answers; only where A's FAIL text is cut, B's text begins with A's instead."
  pub before : (h : Option Hours) (g : Config) (ms : List Made) (u : List ℕ) → 8 ≤ g.capacity → g.capacity ≤ d
      → (k : ℕ) → k < length ms → Unstopped (plain_answers h g e ms u) k
      → Like g.capacity (arg_at (unread_at h g e ms u k)) (get_or (plain_answers h g e ms u) k A.done) (get_or (plain_answers h (widen d g) e' ms (u ++ x)) k A.done)
  unfolding plain_answers unread_at
  before h g [] u least wide k i runs = absurd (omega arith)
  before h g (m ∷ ms) u least wide zero i runs = (made-replies h g m u least wide (runs 0 (omega arith))).1
  before h g (m ∷ ms) u least wide (suc k) i runs =
      rw (made-replies h g m u least wide (runs 0 (omega arith))).0
      (before h (config_after g m.call) ms (plain_made h g e m u).unread least wide k (omega arith) (λ j i. runs (suc j) (omega arith)))

  -- where the FAIL's length is within A's capacity, the answers are equal
  pub uncut : (h : Option Hours) (g : Config) (ms : List Made) (u : List ℕ) → 8 ≤ g.capacity → g.capacity ≤ d
      → (k : ℕ) → k < length ms → Unstopped (plain_answers h g e ms u) k → arg_at (unread_at h g e ms u k) ≤ g.capacity
      → get_or (plain_answers h g e ms u) k A.done ≡ get_or (plain_answers h (widen d g) e' ms (u ++ x)) k A.done
  uncut h g ms u least wide k l runs i = go (before h g ms u least wide k l runs)
    where
      go : {a b : Answer} → Like g.capacity (arg_at (unread_at h g e ms u k)) a b → a ≡ b
      go (inl equal) = equal
      go (inr cut) = absurd (omega arith)

-- "B writes what A writes", over the whole list
pub writes-same : (h : Option Hours) (g : Config) (d : ℕ) (ms : List Made) → plain_writes h (widen d g) ms ≡ plain_writes h g ms
unfolding plain_writes writes
writes-same h g d [] = refl
writes-same h g d (m ∷ ms) = ap (λ (y : List ℕ). writes_made h g m ++ y) (writes-same h (config_after g m.call) d ms)

-- as many answers as calls
pub answers-length : (h : Option Hours) (g : Config) (e : End) (ms : List Made) (u : List ℕ) → length (plain_answers h g e ms u) ≡ length ms
unfolding plain_answers
answers-length h g e [] u = refl
answers-length h g e (m ∷ ms) u = ap suc (answers-length h (config_after g m.call) e ms (plain_made h g e m u).unread)
