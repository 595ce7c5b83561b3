-- The same count without a walk: the plain reader is given what has come, and as long as it falls short and there is more, a read is made.
-- Assumes nothing.
use Prim.Native.Nat.{ℕ, ◌+◌, ◌-◌, ◌≤◌, ◌<◌, min, max}
use mathlib.Core.Bool.{Bool, true, false, true≢false, ◌&&◌}
use mathlib.Core.List.{List, [], ◌∷◌}
use mathlib.Core.Logic.{◌⊎◌, inl, inr}
use mathlib.Core.Path.{◌≡◌, refl, sym, ap, ◌∙◌, subst}
use native.Mathlib.Omega.{arith}
use borrow.Author.Tests.{ltb-true, ltb-false, lt-ltb, le-ltb}
use lib.Dec.{ltb}
use lib.ListN.{length, take, drop, length-drop, length-take}
use lib.Seq.{take-take, length-take-le, take-add, drop_at}
use Rattle.protocol.specs.Answers as A
use Rattle.protocol.specs.Bytes.{pick}
use Rattle.protocol.specs.Reader.{Prog, answer, need, skip, Result, ended, short, plain}
use Rattle.protocol_readers.proofs.Needs.{plain-full, plain-short, plain-go}
use Rattle.protocol_reads.specs.Reads.{Tally, still, one_more, reach, then, reads_of}
use Rattle.protocol_reads.proofs.Ceiling.{Tight}

abbrev pub is_short : Result → Bool
is_short (ended a u) = false
is_short (short n u) = true

abbrev pub left : Result → List ℕ
left (ended a u) = u
left (short n u) = u

-- the reader falls short of what has come, and there is more
abbrev pub reading : ℕ → Prog → List ℕ → ℕ → Bool
reading c p u i = is_short (plain c p (take i u)) && ltb i (length u)

abbrev pub rerun : ℕ → Prog → List ℕ → ℕ → List ℕ → Tally
rerun c p u i [] = still i []
rerun c p u i (k ∷ ks) = pick (reading c p u i) (one_more (rerun c p u (i + k) ks)) (still i (k ∷ ks))

-- what had come in the end was enough, or was all
abbrev pub Settles : ℕ → Prog → List ℕ → ℕ → Type 0
Settles c p u i = (is_short (plain c p (take i u)) ≡ false) ⊎ (length u ≤ i)

-- ---- two tallies

pub record Alike (s t : Tally) : Type 0 where
  pub reads : s.reads ≡ t.reads
  pub come : s.come ≡ t.come
  pub lengths : s.lengths ≡ t.lengths

same_more : (s t : Tally) → Alike s t → Alike (one_more s) (one_more t)
same_more s t a = record { reads = ap (λ (n : ℕ). n + 1) a.reads; come = a.come; lengths = a.lengths }

same-still : (t : Tally) → Alike t t
same-still t = record { reads = refl; come = refl; lengths = refl }

pick-alike : (b : Bool) (s s' t t' : Tally) → Alike s t → Alike s' t' → Alike (pick b s s') (pick b t t')
pick-alike true s s' t t' a a' = a
pick-alike false s s' t t' a a' = a'

-- ---- at one need

length-come : (i : ℕ) (u : List ℕ) → length (take i u) ≡ min i (length u)
length-come = length-take

module _ (c n : ℕ) (k : List ℕ → Prog) (u : List ℕ) (fits : n ≤ c) where
  -- where n have come, what follows is read
  past : (i : ℕ) → n ≤ length u → n ≤ i → plain c (need n k) (take i u) ≡ plain c (k (take n u)) (take i u)
  past i l h =
      plain-go c n k (take i u) fits (omega (arith, length-come i u)) ∙ ap (λ (x : List ℕ). plain c (k x) (take i u)) (take-take n i u h)

  under : (i : ℕ) → i < n → is_short (plain c (need n k) (take i u)) ≡ true
  under i h = ap is_short (plain-short c n k (take i u) fits (omega (arith, length-come i u)))

  few : (i : ℕ) → length u < n → is_short (plain c (need n k) (take i u)) ≡ true
  few i h = ap is_short (plain-short c n k (take i u) fits (omega (arith, length-come i u)))

  reads_on_lem : (i : ℕ) (ks : List ℕ) → n ≤ length u → n ≤ i → Alike (rerun c (need n k) u i ks) (rerun c (k (take n u)) u i ks)
  reads_on_lem i [] l h = same-still (still i [])
  reads_on_lem i (j ∷ ks) l h =
      rw (past i l h)
      (pick-alike (reading c (k (take n u)) u i) _ _ _ _ (same_more _ _ (reads_on_lem (i + j) ks l (omega arith))) (same-still (still i (j ∷ ks))))

  -- fewer than n bytes: all of them are read
  all_read : (i : ℕ) (ks : List ℕ) → length u < n → Alike (reach n (length u) i ks) (rerun c (need n k) u i ks)
  unfolding reach
  all_read i [] l = same-still (still i [])
  all_read i (j ∷ ks) l =
      let e : min n (length u) ≡ length u = omega arith in
      rw (few i l, e) (pick-alike (ltb i (length u)) _ _ _ _ (same_more _ _ (all_read (i + j) ks l)) (same-still (still i (j ∷ ks))))

  record Follows (i : ℕ) (s t : Tally) : Type 0 where
    enough : n ≤ s.come
    forward : i ≤ s.come
    reads : t.reads ≡ s.reads + (rerun c (k (take n u)) u s.come s.lengths).reads
    come : t.come ≡ (rerun c (k (take n u)) u s.come s.lengths).come
    lengths : t.lengths ≡ (rerun c (k (take n u)) u s.come s.lengths).lengths

  follows-more : (i j : ℕ) (s t : Tally) → Follows (i + j) s t → Follows i (one_more s) (one_more t)
  follows-more i j s t f = record { enough = f.enough; forward = omega (arith, f.forward); reads = omega (arith, f.reads); come = f.come; lengths = f.lengths }

  -- there are as many
  follows : (i : ℕ) (ks : List ℕ) → n ≤ length u → Settles c (need n k) u (rerun c (need n k) u i ks).come
      → Follows i (reach n (length u) i ks) (rerun c (need n k) u i ks)
  unfolding reach
  follows i [] l (inl s) = go (ltb i n) refl
    where
      go : (b : Bool) → ltb i n ≡ b → Follows i (still i []) (still i [])
      go true e = absurd (true≢false (sym (under i (ltb-true i n e)) ∙ s))
      go false e = record { enough = ltb-false i n e; forward = omega arith; reads = refl; come = refl; lengths = refl }
  follows i [] l (inr s) = record { enough = omega arith; forward = omega arith; reads = refl; come = refl; lengths = refl }
  follows i (j ∷ ks) l s = go (ltb i n) refl (λ z. follows (i + j) ks l z)
    where
      go : (b : Bool) → ltb i n ≡ b
          → (Settles c (need n k) u (rerun c (need n k) u (i + j) ks).come → Follows (i + j) (reach n (length u) (i + j) ks) (rerun c (need n k) u (i + j) ks))
          → Follows i (reach n (length u) i (j ∷ ks)) (rerun c (need n k) u i (j ∷ ks))
      go true e more =
          let h : i < n = ltb-true i n e in
          let h₁ : ltb i (min n (length u)) ≡ true = lt-ltb i (min n (length u)) (omega arith) in
          let h₂ : reading c (need n k) u i ≡ true = ap (λ (b : Bool). b && ltb i (length u)) (under i h) ∙ lt-ltb i (length u) (omega arith) in
          rw (h₁, h₂)
          (follows-more i j _ _
          (more (subst (λ (b : Bool). Settles c (need n k) u (pick b (one_more (rerun c (need n k) u (i + j) ks)) (still i (j ∷ ks))).come) h₂ s)))
      go false e more =
          let h : n ≤ i = ltb-false i n e in
          let h₁ : ltb i (min n (length u)) ≡ false = le-ltb i (min n (length u)) (omega arith) in
          let a = reads_on_lem i (j ∷ ks) l h in
          rw h₁ (record { enough = h; forward = omega arith; reads = omega (arith, a.reads); come = a.come; lengths = a.lengths })

-- ---- a program

-- the walk makes the same reads; of the bytes that have come, those that were consumed are no longer unread
pub record Walks (u : List ℕ) (r : Result) (s t : Tally) : Type 0 where
  pub reads : s.reads ≡ t.reads
  pub come : s.come + length u ≡ t.come + length (left r)
  pub lengths : s.lengths ≡ t.lengths

-- those dropped had come
drop-come : (d i j : ℕ) (u : List ℕ) → d ≤ length u → i ≡ d + j → drop d (take i u) ≡ take j (drop d u)
drop-come d i j u l e =
    ap (λ (n : ℕ). drop d (take n u)) e ∙ ap (drop d) (take-add d j u) ∙ drop_at (take d u) (take j (drop d u)) d (length-take-le d u l)

less_shift : (d i j n m : ℕ) → i ≡ d + j → n ≡ d + m → ltb i n ≡ ltb j m
less_shift d i j n m e f = go (ltb j m) refl
  where
    go : (b : Bool) → ltb j m ≡ b → ltb i n ≡ b
    go true h = lt-ltb i n (omega (arith, ltb-true j m h))
    go false h = le-ltb i n (omega (arith, ltb-false j m h))

-- t stands d bytes further on than s
record Shifted (d : ℕ) (s t : Tally) : Type 0 where
  reads : t.reads ≡ s.reads
  come : t.come ≡ d + s.come
  lengths : t.lengths ≡ s.lengths

shifted_if : (d : ℕ) (b : Bool) (s s' t t' : Tally) → Shifted d s t → Shifted d s' t' → Shifted d (pick b s s') (pick b t t')
shifted_if d true s s' t t' x y = x
shifted_if d false s s' t t' x y = y

shifted_more : (d : ℕ) (s t : Tally) → Shifted d s t → Shifted d (one_more s) (one_more t)
shifted_more d s t x = record { reads = ap (λ (n : ℕ). n + 1) x.reads; come = x.come; lengths = x.lengths }

module _ (c d : ℕ) (p : Prog) (u : List ℕ) (some : d ≤ length u) where
  skip-short : (i j : ℕ) → i ≡ d + j → is_short (plain c (skip d p) (take i u)) ≡ is_short (plain c p (take j (drop d u)))
  unfolding plain
  skip-short i j e = ap (λ (x : List ℕ). is_short (plain c p x)) (drop-come d i j u some e)

  skip-reading : (i j : ℕ) → i ≡ d + j → reading c (skip d p) u i ≡ reading c p (drop d u) j
  skip-reading i j e =
      let l : length u ≡ d + length (drop d u) = omega (arith, length-drop d u) in
      rw (skip-short i j e, less_shift d i j (length u) (length (drop d u)) e l)

  skips : (i j : ℕ) (ks : List ℕ) → i ≡ d + j → Shifted d (rerun c p (drop d u) j ks) (rerun c (skip d p) u i ks)
  skips i j [] e = record { reads = refl; come = e; lengths = refl }
  skips i j (k ∷ ks) e =
      rw (skip-reading i j e)
      (shifted_if d (reading c p (drop d u) j) _ _ _ _ (shifted_more d _ _ (skips (i + k) (j + k) ks (omega arith))) (record { reads = refl; come = e; lengths = refl }))

rerun_forward : (c : ℕ) (p : Prog) (u : List ℕ) (i : ℕ) (ks : List ℕ) → i ≤ (rerun c p u i ks).come
rerun_forward c p u i [] = omega arith
rerun_forward c p u i (k ∷ ks) = go (reading c p u i) (rerun_forward c p u (i + k) ks)
  where
    go : (b : Bool) → i + k ≤ (rerun c p u (i + k) ks).come → i ≤ (pick b (one_more (rerun c p u (i + k) ks)) (still i (k ∷ ks))).come
    go true h = omega arith
    go false h = omega arith

-- settled at one need, and behind it
settled-past : (c n : ℕ) (k : List ℕ → Prog) (u : List ℕ) → n ≤ c → n ≤ length u → (z : ℕ) → n ≤ z → Settles c (need n k) u z → Settles c (k (take n u)) u z
settled-past c n k u fits l z h (inl e) = inl (ap is_short (sym (past c n k u fits z l h)) ∙ e)
settled-past c n k u fits l z h (inr e) = inr e

settled-skip : (c d : ℕ) (p : Prog) (u : List ℕ) → d ≤ length u → (z y : ℕ) → z ≡ d + y → Settles c (skip d p) u z → Settles c p (drop d u) y
settled-skip c d p u l z y f (inl e) = inl (sym (skip-short c d p u l z y f) ∙ e)
settled-skip c d p u l z y f (inr e) = inr (omega (arith, length-drop d u))

-- where what had come in the end was enough or all
pub walks : (c m : ℕ) (p : Prog) (u : List ℕ) → Tight m p → m ≤ length u → (i : ℕ) (ks : List ℕ) → m ≤ i → Settles c p u (rerun c p u i ks).come
    → Walks u (plain c p u) (reads_of c p u i ks) (rerun c p u i ks)
unfolding plain reads_of
walks c m (answer a) u t l i [] h s = record { reads = refl; come = refl; lengths = refl }
walks c m (answer a) u t l i (k ∷ ks) h s = record { reads = refl; come = refl; lengths = refl }
walks c m (need n k) u (t, f) l i ks h s =
    go (ltb c n) refl (ltb (length u) n) refl
    (λ a b z. walks c (max m n) (k (take n u)) u (f (take n u)) a (reach n (length u) i ks).come (reach n (length u) i ks).lengths b z)
  where
    large : (c < n) → (ls : List ℕ) → Alike (still i ls) (rerun c (need n k) u i ls)
    large g [] = same-still (still i [])
    large g (j ∷ ls) = rw (plain-full c n k (take i u) g) (same-still (still i (j ∷ ls)))

    go : (b₁ : Bool) → ltb c n ≡ b₁ → (b₂ : Bool) → ltb (length u) n ≡ b₂
        → (max m n ≤ length u → max m n ≤ (reach n (length u) i ks).come → Settles c (k (take n u)) u (rerun c (k (take n u)) u (reach n (length u) i ks).come (reach n (length u) i ks).lengths).come
        → Walks u (plain c (k (take n u)) u) (reads_of c (k (take n u)) u (reach n (length u) i ks).come (reach n (length u) i ks).lengths) (rerun c (k (take n u)) u (reach n (length u) i ks).come (reach n (length u) i ks).lengths))
        → Walks u (pick b₁ (ended A.too_large u) (pick b₂ (short n u) (plain c (k (take n u)) u)))
        (pick b₁ (still i ks) (then (reach n (length u) i ks) (λ j ls. pick b₂ (still j ls) (reads_of c (k (take n u)) u j ls)))) (rerun c (need n k) u i ks)
    go true e₁ b₂ e₂ more =
        let a = large (ltb-true c n e₁) ks in
        record { reads = a.reads; come = omega (arith, a.come); lengths = a.lengths }
    go false e₁ true e₂ more =
        let a = all_read c n k u (ltb-false c n e₁) i ks (ltb-true (length u) n e₂) in
        record { reads = omega (arith, a.reads); come = omega (arith, a.come); lengths = a.lengths }
    go false e₁ false e₂ more =
        let fits : n ≤ c = ltb-false c n e₁ in
        let l' : n ≤ length u = ltb-false (length u) n e₂ in
        let x = follows c n k u fits i ks l' s in
        let w = more (omega arith) (omega (arith, x.enough, x.forward)) (settled fits l' x) in
        record { reads = omega (arith, w.reads, x.reads); come = omega (arith, w.come, x.come); lengths = w.lengths ∙ sym x.lengths }
      where
        settled : (fits : n ≤ c) → n ≤ length u → (x : Follows c n k u fits i (reach n (length u) i ks) (rerun c (need n k) u i ks))
            → Settles c (k (take n u)) u (rerun c (k (take n u)) u (reach n (length u) i ks).come (reach n (length u) i ks).lengths).come
        settled fits l' x =
            settled-past c n k u fits l' _ (omega (arith, x.enough, rerun_forward c (k (take n u)) u (reach n (length u) i ks).come (reach n (length u) i ks).lengths))
            (subst (Settles c (need n k) u) x.come s)
walks c m (skip d p) u (h₀, t) l i ks h s =
    let j : i ≡ d + (i - d) = omega arith in
    let some : d ≤ length u = omega arith in
    let x = skips c d p u some i (i - d) ks j in
    let w = walks c (m - d) p (drop d u) t (omega (arith, length-drop d u)) (i - d) ks (omega arith) (settled-skip c d p u some _ _ x.come s) in
    record { reads = w.reads ∙ sym x.reads; come = omega (arith, w.come, x.come, length-drop d u); lengths = w.lengths ∙ sym x.lengths }
