-- A call that ends in anything but 12 or 13 accepted at most 8 more reads than bytes it consumed.
--
-- The last read of a call stands at a need of n bytes, of which fewer had come, and each read before it brought one: so there are no more reads
-- than the bytes consumed before that need and n. The n bytes are consumed later, or n is 8, a header that is left.
-- Assumes nothing.
use Prim.Native.Nat.{ℕ, zero, suc, ◌+◌, ◌-◌, ◌≤◌, ◌<◌, min, max}
use mathlib.Core.Bool.{Bool, true, false, true≢false}
use mathlib.Core.List.{List, [], ◌∷◌}
use mathlib.Core.Logic.{◌⊎◌, inl, inr}
use mathlib.Core.Option.{Option, none, some}
use mathlib.Core.Path.{◌≡◌, refl, subst}
use native.Mathlib.Omega.{arith}
use borrow.Author.Tests.{ltb-true, ltb-false}
use lib.Dec.{eqb, ltb}
use lib.ListN.{length, take, drop, length-drop}
use Rattle.protocol.specs.Answers as A
use Rattle.protocol.specs.Answers.{Answer, End, closed, error}
use Rattle.protocol.specs.Bytes.{pick, same}
use Rattle.protocol.specs.Calls.{Version, v1, v2, Call, call, next_entry, next_chunk}
use Rattle.protocol.specs.Ids.{Dialect, FAIL}
use Rattle.protocol.specs.Messages.{stat, sta2, list, lis2, recv, ask, rcv2, send, snd2, chunk, done, quit}
use Rattle.protocol.specs.Reader.{Prog, answer, need, skip, Result, ended, short, plain, drain, failing, Way, among_ways, next_on, next, taking, stat_answer, stat_ways, name_length, entry_answer, entry_ways, chunk_ways, okay_ways, Config, Report, accepted, broke, written, push_broke, write_broke, on_report, unless_refused, program, end_of, reply}
use Rattle.protocol.specs.Records.{id_at, arg_at, header_size, stat_size, stat2_size, dent_size, dent2_size}
use Rattle.protocol.specs.Refusal.{refusal}
use Rattle.protocol_reads.specs.Reads.{Tally, still, one_more, reach, then, reads_of, call_reads, Positive, OffLink, ReadsCeiling}

-- ---- programs that leave at most a header

-- m: of the unread bytes, how many were needed and are not yet dropped
abbrev pub Tight : ℕ → Prog → Type 0
Tight m (answer a) = m ≤ 8
Tight m (need n k) = (m ≤ 8) × ((x : List ℕ) → Tight (max m n) (k x))
Tight m (skip d p) = (d ≤ m) × Tight (m - d) p

abbrev EndedIn : ℕ → List ℕ → Result → Type 0
EndedIn m u (ended a v) = (length v ≤ length u) × (m + length v ≤ length u + 8)
EndedIn m u (short n v) = Unit {0}

-- what was needed is dropped in the end, but for a header
leaves : (c m : ℕ) (p : Prog) (u : List ℕ) → Tight m p → m ≤ length u → EndedIn m u (plain c p u)
unfolding plain
leaves c m (answer a) u t l = (omega arith, omega arith)
leaves c m (need n k) u (t, f) l = go (ltb c n) (ltb (length u) n) refl (λ h. leaves c (max m n) (k (take n u)) u (f (take n u)) h)
  where
    narrow : (r : Result) → EndedIn (max m n) u r → EndedIn m u r
    narrow (ended a v) (x, y) = (x, omega arith)
    narrow (short i v) x = tt

    go : (b₁ b₂ : Bool) → ltb (length u) n ≡ b₂ → (max m n ≤ length u → EndedIn (max m n) u (plain c (k (take n u)) u))
        → EndedIn m u (pick b₁ (ended A.too_large u) (pick b₂ (short n u) (plain c (k (take n u)) u)))
    go true b₂ e r = (omega arith, omega arith)
    go false true e r = tt
    go false false e r = narrow (plain c (k (take n u)) u) (r (omega (arith, ltb-false (length u) n e)))
leaves c m (skip d p) u (h, t) l = onward (plain c p (drop d u)) (leaves c (m - d) p (drop d u) t (omega (arith, length-drop d u)))
  where
    onward : (r : Result) → EndedIn (m - d) (drop d u) r → EndedIn m u r
    onward (ended a v) (x, y) = (omega (arith, length-drop d u), omega (arith, length-drop d u))
    onward (short i v) x = tt

-- ---- reads at one need

-- j reads brought i bytes to b: at least one each, and the last where fewer than n had come
record Reached (n i : ℕ) (t : Tally) : Type 0 where
  forward : i + t.reads ≤ t.come
  below : (t.reads ≡ 0) ⊎ (i + t.reads ≤ n)
  positive : Positive t.lengths

reach-ok : (n u i : ℕ) (ks : List ℕ) → Positive ks → Reached n i (reach n u i ks)
unfolding reach
reach-ok n u i [] p = record { forward = omega arith; below = inl refl; positive = tt }
reach-ok n u i (k ∷ ks) (o, p) = go (ltb i (min n u)) refl (reach-ok n u (i + k) ks p)
  where
    under : (r : ℕ) → i < n → (r ≡ 0) ⊎ (i + k + r ≤ n) → i + (r + 1) ≤ n
    under r h (inl e) = omega arith
    under r h (inr e) = omega arith

    go : (b : Bool) → ltb i (min n u) ≡ b → Reached n (i + k) (reach n u (i + k) ks)
        → Reached n i (pick b (one_more (reach n u (i + k) ks)) (still i (k ∷ ks)))
    go true e r =
        let h : i < min n u = ltb-true i (min n u) e in
        record { forward = omega (arith, r.forward); below = inr (under _ (omega arith) r.below); positive = r.positive }
    go false e r = record { forward = omega arith; below = inl refl; positive = (o, p) }

-- ---- reads of a program

abbrev Within : (come reads : ℕ) → List ℕ → Result → Type 0
Within i n u (ended a v) = (n ≡ 0) ⊎ (n + i + length v ≤ length u + 8)
Within i n u (short k v) = Unit {0}

within : (c m : ℕ) (p : Prog) (u : List ℕ) → Tight m p → m ≤ length u → (i : ℕ) (ks : List ℕ) → Positive ks
    → Within i (reads_of c p u i ks).reads u (plain c p u)
unfolding plain reads_of
within c m (answer a) u t l i ks o = inl refl
within c m (need n k) u (t, f) l i ks o =
    go (ltb c n) (ltb (length u) n) refl (leaves c (max m n) (k (take n u)) u (f (take n u)))
    (λ h. within c (max m n) (k (take n u)) u (f (take n u)) h (reach n (length u) i ks).come (reach n (length u) i ks).lengths reached.positive)
  where
    reached : Reached n i (reach n (length u) i ks)
    reached = reach-ok n (length u) i ks o

    sum : (t s j : ℕ) (v : List ℕ) → i + t ≤ j → (t ≡ 0) ⊎ (i + t ≤ n) → n + length v ≤ length u + 8 → (s ≡ 0) ⊎ (s + j + length v ≤ length u + 8)
        → (t + s ≡ 0) ⊎ (t + s + i + length v ≤ length u + 8)
    sum t s j v a (inl e) d (inl e') = inl (omega arith)
    sum t s j v a (inr b) d (inl e') = inr (omega arith)
    sum t s j v a b d (inr e') = inr (omega arith)

    join : (r : Result) → (s : ℕ) → EndedIn (max m n) u r → Within (reach n (length u) i ks).come s u r → Within i ((reach n (length u) i ks).reads + s) u r
    join (ended a v) s (x, y) z = sum (reach n (length u) i ks).reads s (reach n (length u) i ks).come v reached.forward reached.below (omega arith) z
    join (short j v) s x z = tt

    go : (b₁ b₂ : Bool) → ltb (length u) n ≡ b₂ → (max m n ≤ length u → EndedIn (max m n) u (plain c (k (take n u)) u))
        → (max m n ≤ length u → Within (reach n (length u) i ks).come (reads_of c (k (take n u)) u (reach n (length u) i ks).come (reach n (length u) i ks).lengths).reads u (plain c (k (take n u)) u))
        → Within i
        (pick b₁ (still i ks)
        (then (reach n (length u) i ks) (λ j ls. pick b₂ (still j ls) (reads_of c (k (take n u)) u j ls)))).reads u
        (pick b₁ (ended A.too_large u) (pick b₂ (short n u) (plain c (k (take n u)) u)))
    go true b₂ e x y = inl refl
    go false true e x y = tt
    go false false e x y =
        let h : max m n ≤ length u = omega (arith, ltb-false (length u) n e) in
        join (plain c (k (take n u)) u) (reads_of c (k (take n u)) u (reach n (length u) i ks).come (reach n (length u) i ks).lengths).reads (x h) (y h)
within c m (skip d p) u (h, t) l i ks o = onward (plain c p (drop d u)) (within c (m - d) p (drop d u) t (omega (arith, length-drop d u)) (i - d) ks o)
  where
    over : (n : ℕ) (v : List ℕ) → (n ≡ 0) ⊎ (n + (i - d) + length v ≤ length (drop d u) + 8) → (n ≡ 0) ⊎ (n + i + length v ≤ length u + 8)
    over n v (inl e) = inl e
    over n v (inr e) = inr (omega (arith, length-drop d u))

    onward : (r : Result) → Within (i - d) (reads_of c p (drop d u) (i - d) ks).reads (drop d u) r → Within i (reads_of c p (drop d u) (i - d) ks).reads u r
    onward (ended a v) x = over (reads_of c p (drop d u) (i - d) ks).reads v x
    onward (short j v) x = tt

-- ---- the reader's programs

-- need n, drop it: nothing is left over
taking-tight : (m n : ℕ) (k : List ℕ → Prog) → m ≤ 8 → m ≤ n → ((x : List ℕ) → Tight 0 (k x)) → Tight m (taking n k)
taking-tight m n k h l f = (h, λ x. (omega arith, subst (λ (i : ℕ). Tight i (k x)) zero_is (f x)))
  where
    zero_is : 0 ≡ max m n - n
    zero_is = omega arith

pick-tight : (m : ℕ) (b : Bool) (p q : Prog) → Tight m p → Tight m q → Tight m (pick b p q)
pick-tight m true p q x y = x
pick-tight m false p q x y = y

drain-tight : (c f left : ℕ) (t : List ℕ) → Tight 0 (drain c f left t)
unfolding drain
drain-tight c zero left t = omega arith
drain-tight c (suc f) left t =
    pick-tight 0 (eqb left 0) (answer (A.fail t)) (taking (min left c) (λ x. drain c f (left - min left c) t)) (omega arith)
    (taking-tight 0 (min left c) (λ x. drain c f (left - min left c) t) (omega arith) (omega arith) (λ x. drain-tight c f (left - min left c) t))

failing-tight : (c l : ℕ) → Tight 8 (failing c l)
failing-tight c l = (omega arith, taking-tight 0 (min l c) (λ t. drain c l (l - min l c) t) (omega arith) (omega arith) (λ t. drain-tight c l (l - min l c) t))

-- each way goes on from a header
abbrev AllTight : List Way → Type 0
AllTight [] = Unit {0}
AllTight (w ∷ ws) = ((h : List ℕ) → Tight 8 (w.on h)) × AllTight ws

ways_tight : (d : Dialect) (ws : List Way) (h : List ℕ) (o : Answer) → AllTight ws → Tight 8 (among_ways d ws h o)
ways_tight d [] h o a = omega arith
ways_tight d (w ∷ ws) h o (x, a) = pick-tight 8 (same (id_at h) (d.bytes w.id)) (w.on h) (among_ways d ws h o) (x h) (ways_tight d ws h o a)

header-tight : (d : Dialect) (c : ℕ) (ws : List Way) (f : List ℕ → Answer) → AllTight ws → Tight 0 (need 8 (next_on d c ws f))
header-tight d c ws f a = (omega arith, λ h. pick-tight 8 (same (id_at h) (d.bytes FAIL)) (failing c (arg_at h)) (among_ways d ws h (f (id_at h))) (failing-tight c (arg_at h)) (ways_tight d ws h (f (id_at h)) a))

one-tight : (n : ℕ) (f : List ℕ → Answer) → 8 ≤ n → Tight 8 (taking n (λ x. answer (f x)))
one-tight n f l = taking-tight 8 n (λ x. answer (f x)) (omega arith) l (λ x. omega arith)

entry-tight : (n : ℕ) (m : List ℕ → ℕ) (f : List ℕ → List ℕ → Answer) → 8 ≤ n → Tight 8 (taking n (λ x. taking (m x) (λ y. answer (f x y))))
entry-tight n m f l =
    taking-tight 8 n (λ x. taking (m x) (λ y. answer (f x y))) (omega arith) l
    (λ x. taking-tight 0 (m x) (λ y. answer (f x y)) (omega arith) (omega arith) (λ y. omega arith))

stat-ways : (v : Version) → AllTight (stat_ways v)
stat-ways v1 = ((λ h. one-tight stat_size (stat_answer v1) (omega arith)), tt)
stat-ways v2 = ((λ h. one-tight stat2_size (stat_answer v2) (omega arith)), tt)

entry-ways : (v : Version) → AllTight (entry_ways v)
entry-ways v1 = ((λ h. entry-tight dent_size (name_length v1) (entry_answer v1) (omega arith)), ((λ h. one-tight dent_size (λ x. A.end) (omega arith)), tt))
entry-ways v2 = ((λ h. entry-tight dent2_size (name_length v2) (entry_answer v2) (omega arith)), ((λ h. one-tight dent2_size (λ x. A.end) (omega arith)), tt))

chunk-ways : AllTight chunk_ways
chunk-ways = ((λ h. one-tight (header_size + arg_at h) (λ x. A.chunk (drop header_size x)) (omega arith)), ((λ h. (omega arith, omega arith)), tt))

next-tight : (g : Config) (ws : List Way) → AllTight ws → Tight 0 (next g.setting.dialect g.capacity ws)
next-tight g ws a = header-tight g.setting.dialect g.capacity ws A.unexpected a

written-tight : (g : Config) (q : Call) → Tight 0 (written g q)
unfolding written
written-tight g (call (ask stat p)) = next-tight g (stat_ways v1) (stat-ways v1)
written-tight g (call (ask sta2 p)) = next-tight g (stat_ways v2) (stat-ways v2)
written-tight g (call (ask list p)) = omega arith
written-tight g (call (ask lis2 p)) = omega arith
written-tight g (call (ask recv p)) = omega arith
written-tight g (call (rcv2 p f)) = omega arith
written-tight g (call (send p m)) = omega arith
written-tight g (call (snd2 p m f)) = omega arith
written-tight g (call (chunk x)) = omega arith
written-tight g (call (done t)) = next-tight g okay_ways ((λ h. (omega arith, omega arith)), tt)
written-tight g (call quit) = omega arith
written-tight g (next_entry v) = next-tight g (entry_ways v) (entry-ways v)
written-tight g next_chunk = next-tight g chunk_ways chunk-ways

lost-tight : (g : Config) (e : End) → Tight 0 (push_broke g e)
lost-tight g closed = header-tight g.setting.dialect g.capacity [] (λ id. A.broken closed) tt
lost-tight g (error c) = omega arith

broke-tight : (g : Config) (e : End) (q : Call) → Tight 0 (write_broke g e q)
unfolding write_broke
broke-tight g e (call (ask i p)) = omega arith
broke-tight g e (call (rcv2 p f)) = omega arith
broke-tight g e (call (send p m)) = lost-tight g e
broke-tight g e (call (snd2 p m f)) = lost-tight g e
broke-tight g e (call (chunk x)) = lost-tight g e
broke-tight g e (call (done t)) = lost-tight g e
broke-tight g closed (call quit) = omega arith
broke-tight g (error c) (call quit) = omega arith
broke-tight g e (next_entry v) = written-tight g (next_entry v)
broke-tight g e next_chunk = written-tight g next_chunk

pub program-tight : (g : Config) (r : Report) (q : Call) → Tight 0 (program g r q)
program-tight g r q = go (refusal g.setting q) r
  where
    go : (o : Option Answer) (r : Report) → Tight 0 (unless_refused o (on_report g r q))
    go (some a) r = omega arith
    go none accepted = written-tight g q
    go none (broke e) = broke-tight g e q

-- ---- the ceiling

-- an end error is 12 or 13
stops : (e : End) → OffLink (A.broken e) → ⊥
stops closed h = true≢false h
stops (error c) h = true≢false h

pub reads-ceiling : ReadsCeiling
reads-ceiling g e r q u i ks o = go (plain g.capacity (program g r q) u) (within g.capacity 0 (program g r q) u (program-tight g r q) (omega arith) i ks o) (leaves g.capacity 0 (program g r q) u (program-tight g r q) (omega arith))
  where
    go : (y : Result) → Within i (call_reads g r q u i ks).reads u y → EndedIn 0 u y → OffLink (reply (end_of e r q) y).answer
        → (call_reads g r q u i ks).reads + length (reply (end_of e r q) y).unread ≤ length u + 8
    go (ended a v) (inl z) (x, y) h = omega arith
    go (ended a v) (inr z) (x, y) h = omega arith
    go (short n v) w l h = absurd (stops (end_of e r q) h)
