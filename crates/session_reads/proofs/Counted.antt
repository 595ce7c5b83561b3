-- A faithful log whose reads follow each other accepts as many as the plain reader, call by call.
-- Assumes nothing.
use Prim.Native.Nat.{ℕ, zero, suc, ◌+◌, ◌-◌, ◌≤◌, ◌<◌}
use mathlib.Core.Bool.{Bool, true, false, true≢false, ◌&&◌}
use mathlib.Core.List.{List, [], ◌∷◌, ◌++◌}
use mathlib.Core.Logic.{inl, inr}
use mathlib.Core.Option.{Option, none, some}
use mathlib.Core.Path.{◌≡◌, refl, sym, ap, ◌∙◌, subst}
use native.Mathlib.Omega.{arith}
use borrow.Author.Tests.{ltb-true, ltb-false, lt-ltb, le-ltb}
use lib.Dec.{ltb}
use lib.ListN.{length, take, drop, length-append, length-drop, length-take}
use lib.Seq.{take-take, take_at, take-length}
use Rattle.protocol.specs.Answers.{End}
use Rattle.protocol.specs.Bytes.{pick}
use Rattle.protocol.specs.Calls.{Call, Made}
use Rattle.protocol.specs.Hours.{Hours}
use Rattle.protocol.specs.Reader.{Prog, Result, ended, short, plain, Config, Report, program, config_after, end_of, reply, plain_call}
use Rattle.protocol.specs.Refusal.{turned}
use Rattle.protocol_reads.specs.Reads.{Tally, still, one_more, call_reads, Positive, OffLink}
use Rattle.protocol_reads.proofs.Ceiling.{program-tight, reads-ceiling}
use Rattle.protocol_reads.proofs.Rerun.{is_short, left, reading, rerun, Settles, Walks, walks}
use Rattle.session.specs.Faithful.{AtNeed, Brought, AllAtNeeds, came_by, comes_out, came_of, reply_of, AsReader, AsMade, Faithful}
use Rattle.session.specs.Host.{Ask, Stop, Entry, outcome_of}
use Rattle.session_reads.specs.Counted.{reads_in, lengths_in, lengths_of, Counted, UnderCeiling}
use Rattle.session_reads.proofs.Turns.{Chained, AtEnd, Noted, Stopped, Turn, Linked}

-- ---- the reads asked, in turn

chain-shorter : (l : List ℕ) (xs : List Ask) (l' : List ℕ) → Chained l xs l' → length l' ≤ length l
chain-shorter l [] l' e = rw e (omega arith)
chain-shorter l (a ∷ more) l' (e, (b, c)) = rw e (omega (arith, length-drop a.brought a.rest, chain-shorter l more a.rest c))

record Same (n : ℕ) (s t : Tally) : Type 0 where
  reads : t.reads ≡ n + s.reads
  come : t.come ≡ s.come
  lengths : t.lengths ≡ s.lengths

-- the unread bytes v, those u of them that the plain reader is given, l of them to come when the call began
module _ (g : Config) (r : Report) (q : Call) (v u : List ℕ) (given : u ≡ take (length u) v) (l : List ℕ) (some_left : length l ≤ length v) (ps : List (List ℕ)) where
  abbrev c : ℕ
  c = g.capacity

  abbrev p : Prog
  p = program g r q

  -- what had come when the read was asked
  abbrev at : List ℕ → ℕ
  at rest = length v - length rest

  falls-short : (a : Ask) → AtNeed g r q v ps a → at a.rest ≤ length u → is_short (plain c p (take (at a.rest) u)) ≡ true
  falls-short a n h =
      let k : length v ≡ length n.come + length a.rest = ap length n.split ∙ length-append n.come a.rest in
      let e : take (at a.rest) u ≡ n.come =
      ap (take (at a.rest)) given ∙ take-take (at a.rest) (length u) v h ∙ ap (take (at a.rest)) n.split ∙ take_at n.come a.rest (at a.rest) (omega arith) in
      ap (λ (x : List ℕ). is_short (plain c p x)) e ∙ ap is_short n.falls

  one-read : (a : Ask) → AtNeed g r q v ps a → (l' ks : List ℕ) → l' ≡ drop a.brought a.rest → a.brought ≤ length a.rest → length a.rest ≤ length v → length v ≤ length u + length l'
      → Same (pick (ltb 0 a.brought) 1 0) (rerun c p u (at l') ks) (rerun c p u (at a.rest) (pick (ltb 0 a.brought) (a.brought ∷ ks) ks))
  one-read a n l' ks e b w f = go (ltb 0 a.brought) refl
    where
      size : length l' ≡ length a.rest - a.brought
      size = ap length e ∙ length-drop a.brought a.rest

      none_read : (i : ℕ) → at l' ≡ i → Same 0 (rerun c p u (at l') ks) (rerun c p u i ks)
      none_read i e = rw e (record { reads = omega arith; come = refl; lengths = refl })

      some_read : (i : ℕ) → at l' ≡ i → reading c p u (at a.rest) ≡ true → Same 1 (rerun c p u (at l') ks) (pick (reading c p u (at a.rest)) (one_more (rerun c p u i ks)) (still (at a.rest) (a.brought ∷ ks)))
      some_read i e f = rw (f, e) (record { reads = omega arith; come = refl; lengths = refl })

      go : (t : Bool) → ltb 0 a.brought ≡ t → Same (pick t 1 0) (rerun c p u (at l') ks) (rerun c p u (at a.rest) (pick t (a.brought ∷ ks) ks))
      go true z =
          let y : 0 < a.brought = ltb-true 0 a.brought z in
          some_read (at a.rest + a.brought) (omega (arith, size))
          (rw (falls-short a n (omega (arith, size)), lt-ltb (at a.rest) (length u) (omega (arith, size))) refl)
      go false z = none_read (at a.rest) (omega (arith, size, ltb-false 0 a.brought z))

  all-reads : (xs : List Ask) (l' ks : List ℕ) → Chained l xs l' → AllAtNeeds g r q v ps xs → length v ≤ length u + length l'
      → Same (reads_in xs) (rerun c p u (at l') ks) (rerun c p u (at l) (lengths_in xs ks))
  all-reads [] l' ks e n f = rw e (record { reads = omega arith; come = refl; lengths = refl })
  all-reads (a ∷ more) l' ks (e, (b, h)) (n, (m, ns)) f =
      let d = length-drop a.brought a.rest in
      let s = chain-shorter l more a.rest h in
      let f' : length v ≤ length u + length a.rest = omega (arith, ap length e, d) in
      let x = all-reads more a.rest (pick (ltb 0 a.brought) (a.brought ∷ ks) ks) h ns f' in
      let y = one-read a n l' ks e b (omega arith) f in
      record { reads = omega (arith, x.reads, y.reads); come = x.come ∙ y.come; lengths = x.lengths ∙ y.lengths }

-- every read that was accepted brought some bytes
positive-in : (xs : List Ask) (ks : List ℕ) → Positive ks → Positive (lengths_in xs ks)
positive-in [] ks o = o
positive-in (a ∷ more) ks o = positive-in more (pick (ltb 0 a.brought) (a.brought ∷ ks) ks) (go (ltb 0 a.brought) refl)
  where
    go : (b : Bool) → ltb 0 a.brought ≡ b → Positive (pick b (a.brought ∷ ks) ks)
    go true e = (ltb-true 0 a.brought e, o)
    go false e = o

-- ---- a call

out-long : (r : Result) → comes_out r ≡ true → is_short r ≡ false
out-long (ended a u) e = refl
out-long (short n u) e = absurd (true≢false (sym e))

-- a read that is noted is the last
noted_last : (g : Config) (r : Report) (q : Call) (v : List ℕ) (ps : List (List ℕ)) (rest : List ℕ) (xs : List Ask) → AllAtNeeds g r q v ps xs → Brought xs → Noted rest xs → ⊥
noted_last g r q v ps rest [] n b z = z
noted_last g r q v ps rest (a ∷ more) (n, (m, ns)) b (inl (e, f)) = absurd (omega (arith, e))
noted_last g r q v ps rest (a ∷ more) (n, (m, ns)) b (inr z) = noted_last g r q v ps rest more ns m z

-- u is what the plain reader is given, l' is to come in the end
record Settled (g : Config) (r : Report) (q : Call) (v : List ℕ) (stop : Option Stop) (l' : List ℕ) : Type 0 where
  given : came_of stop v ≡ take (length (came_of stop v)) v
  covers : length v ≤ length (came_of stop v) + length l'
  settles : Settles g.capacity (program g r q) (came_of stop v) (length v - length l')
  -- what is unread then, and what is answered
  leaves : (e : End) → length (reply_of stop g e r q v).unread + length (came_of stop v) ≡ length (left (plain g.capacity (program g r q) (came_of stop v))) + length v
  answers : (e : End) → (e' : End) × ((reply_of stop g e r q v).answer ≡ (plain_call g e' r q (came_of stop v)).answer)

-- what the plain reader leaves
left_is : (e : End) (r : Result) → (reply e r).unread ≡ left r
left_is e (ended a u) = refl
left_is e (short n u) = refl

length-came : (s : Stop) (v : List ℕ) → length s.rest ≤ length v → length (came_of (some s) v) + length s.rest ≡ length v
length-came s v h = omega (arith, length-take (length v - length s.rest) v)

module _ (g : Config) (r : Report) (q : Call) (v : List ℕ) (ps : List (List ℕ)) (n : ℕ) (l : List ℕ) (size : length v ≡ n + length l) where
  abbrev Last : List Ask → Type 0
  Last xs = Brought xs → comes_out (plain g.capacity (program g r q) (came_by n v xs)) ≡ true

  abbrev body : Prog
  body = program g r q

  settled_at : (i j : ℕ) → i ≡ j → comes_out (plain g.capacity body (take i v)) ≡ true → Settles g.capacity body v j
  settled_at i j e z = inl (out-long (plain g.capacity body (take j v)) (subst (λ (k : ℕ). comes_out (plain g.capacity body (take k v)) ≡ true) e z))

  settles-none : (xs : List Ask) (l' : List ℕ) → Chained l xs l' → AtEnd xs → Last xs → Settles g.capacity body v (length v - length l')
  settles-none [] l' e s z = settled_at n (length v - length l') (omega (arith, ap length e)) (z tt)
  settles-none (a ∷ more) l' (e, (b, h)) (s, m) z = go a.brought refl
    where
      go : (k : ℕ) → a.brought ≡ k → Settles g.capacity body v (length v - length l')
      go zero f = inr (omega (arith, ap length e, length-drop a.brought a.rest, ap length (s f)))
      go (suc k) f =
          settled_at (length v - length a.rest + a.brought) (length v - length l')
          (omega (arith, ap length e, length-drop a.brought a.rest, b, chain-shorter l more a.rest h)) (z (omega (arith, f)))

  -- a read that came to a fault too early
  stop-last : (s : Stop) (xs : List Ask) (l' : List ℕ) → Chained l xs l' → AllAtNeeds g r q v ps xs → Noted s.rest xs → length l' ≡ length s.rest
  stop-last s [] l' e ns z = absurd z
  stop-last s (a ∷ more) l' (e, (b, h)) (x, (m, ns)) (inl (f, y)) = omega (arith, ap length e, length-drop a.brought a.rest, f, ap length y)
  stop-last s (a ∷ more) l' (e, (b, h)) (x, (m, ns)) (inr z) = absurd (noted_last g r q v ps s.rest more ns m z)

  settled : (stop : Option Stop) (xs : List Ask) (l' : List ℕ) → Chained l xs l' → Stopped stop xs → AllAtNeeds g r q v ps xs → Last xs → Settled g r q v stop l'
  settled none xs l' h s ns z = record { given = sym (take-length v); covers = omega arith; settles = settles-none xs l' h s z; leaves = λ e. ap (λ (y : List ℕ). length y + length v) (left_is (end_of e r q) (plain g.capacity body v)); answers = λ e. (e, refl) }
  settled (some s) xs l' h y ns z =
      let e = stop-last s xs l' h ns y in
      let k : length s.rest ≤ length v = omega (arith, e, chain-shorter l xs l' h) in
      let m = length-came s v k in
      let so-many : length v - length s.rest ≡ length (take (length v - length s.rest) v) = omega (arith, m) in
      record {
        given = ap (λ (i : ℕ). take i v) so-many;
        covers = omega (arith, e, m);
        settles = inr (omega (arith, e, m));
        leaves = λ d. rw (length-append (plain_call g s.fault r q (came_of (some s) v)).unread s.rest, left_is (end_of s.fault r q) (plain g.capacity body (came_of (some s) v))) (omega (arith, m));
        answers = λ d. (s.fault, refl);
      }

-- a call of a faithful log, with h held and l to come before it, h' and l' afterwards
module _ (g : Config) (e : End) (q : Call) (h l : List ℕ) (x : Entry) (as_reader : AsReader g e q (h ++ l) x) (is : x.held ≡ h) (h' l' : List ℕ)
    (turn : Turn l x.asks x.stopped l') (unread : x.unread ≡ h' ++ l') (ks : List ℕ) where
  abbrev v : List ℕ
  v = h ++ l

  abbrev r : Report
  r = outcome_of x.broken

  abbrev u : List ℕ
  u = came_of x.stopped v

  abbrev tally : Tally
  tally = call_reads g r q u (length h) (lengths_in x.asks ks)

  so_long : length v ≡ length h + length l
  so_long = length-append h l

  here : Settled g r q v x.stopped l'
  here =
      settled g r q v x.pieces (length h) l so_long x.stopped x.asks l' turn.chain turn.stops as_reader.asks
      (λ b. subst (λ (k : List ℕ). comes_out (plain g.capacity (program g r q) (came_by (length k) v x.asks)) ≡ true) is (as_reader.settled b))

  made : Same (reads_in x.asks) (rerun g.capacity (program g r q) u (length v - length l') ks) (rerun g.capacity (program g r q) u (length v - length l) (lengths_in x.asks ks))
  made = all-reads g r q v u here.given l (omega (arith, so_long)) x.pieces x.asks l' ks turn.chain as_reader.asks here.covers

  -- no read is made beyond
  no_more : (i : ℕ) (ls : List ℕ) → Settles g.capacity (program g r q) u i → ((rerun g.capacity (program g r q) u i ls).reads ≡ 0)
      × (((rerun g.capacity (program g r q) u i ls).come ≡ i) × ((rerun g.capacity (program g r q) u i ls).lengths ≡ ls))
  no_more i [] s = (refl, (refl, refl))
  no_more i (k ∷ ls) s = rw (stops s) (refl, (refl, refl))
    where
      and_none : (b : Bool) → (b && false) ≡ false
      and_none true = refl
      and_none false = refl

      stops : Settles g.capacity (program g r q) u i → reading g.capacity (program g r q) u i ≡ false
      stops (inl e) = rw e refl
      stops (inr e) = rw (le-ltb i (length u) e) (and_none (is_short (plain g.capacity (program g r q) (take i u))))

  whole : Same (reads_in x.asks) (still (length v - length l') ks) (rerun g.capacity (program g r q) u (length h) (lengths_in x.asks ks))
  whole =
      let i : length v - length l ≡ length h = omega (arith, so_long) in
      let (a, (b, c)) = no_more (length v - length l') ks here.settles in
      subst (λ (k : ℕ). Same (reads_in x.asks) (still (length v - length l') ks) (rerun g.capacity (program g r q) u k (lengths_in x.asks ks))) i
      (record { reads = omega (arith, made.reads, a); come = made.come ∙ b; lengths = made.lengths ∙ c })

  walked : Walks u (plain g.capacity (program g r q) u) tally (rerun g.capacity (program g r q) u (length h) (lengths_in x.asks ks))
  walked =
      walks g.capacity 0 (program g r q) u (program-tight g r q) (omega arith) (length h) (lengths_in x.asks ks) (omega arith)
      (subst (Settles g.capacity (program g r q) u) (sym whole.come) here.settles)

  pub call-reads : reads_in x.asks ≡ tally.reads
  call-reads = omega (arith, walked.reads, whole.reads)

  pub call-lengths : tally.lengths ≡ ks
  call-lengths = walked.lengths ∙ whole.lengths

  pub call-come : tally.come ≡ length h'
  call-come =
      omega (arith, walked.come, whole.come, here.leaves e, ap length (sym as_reader.unread), ap length unread, length-append h' l', so_long, chain-shorter l x.asks l' turn.chain)

  pub call-ceiling : Positive ks → OffLink x.answer → reads_in x.asks + length x.unread ≤ length v + 8
  call-ceiling o z =
      let (e', a) = here.answers e in
      let b = reads-ceiling g e' r q u (length h) (lengths_in x.asks ks) (positive-in x.asks ks o) (subst OffLink (as_reader.answer ∙ a) z) in
      omega (arith, b, call-reads, here.leaves e, ap length as_reader.unread, ap length (left_is (end_of e' r q) (plain g.capacity (program g r q) u)))

-- ---- every list of calls

positive_of : (es : List Entry) → Positive (lengths_of es [])
positive_of [] = tt
positive_of (x ∷ xs) = positive-in x.asks (lengths_of xs []) (positive_of xs)

-- b: the hours turned the call away
abbrev made_tally : Bool → Config → Call → (h l : List ℕ) → Entry → List ℕ → Tally
made_tally b g q h l x ks = pick b (still (length h) (lengths_in x.asks ks)) (call_reads g (outcome_of x.broken) q (came_of x.stopped (h ++ l)) (length h) (lengths_in x.asks ks))

record OfMade (b : Bool) (g : Config) (q : Call) (h l : List ℕ) (x : Entry) (h' ks : List ℕ) : Type 0 where
  reads : reads_in x.asks ≡ (made_tally b g q h l x ks).reads
  come : (made_tally b g q h l x ks).come ≡ length h'
  lengths : (made_tally b g q h l x ks).lengths ≡ ks
  ceiling : Positive ks → OffLink x.answer → reads_in x.asks + length x.unread ≤ length (h ++ l) + 8

-- a call that was turned away read nothing: what was held and what was to come is so still
made_ok : (b : Bool) (g : Config) (e : End) (q : Call) (h l : List ℕ) (x : Entry) → AsMade b g e q (h ++ l) x → x.held ≡ h → (h' l' : List ℕ)
    → Turn l x.asks x.stopped l' → x.unread ≡ h' ++ l' → (ks : List ℕ) → OfMade b g q h l x h' ks
made_ok false g e q h l x f is h' l' t n ks =
    record {
      reads = call-reads g e q h l x f is h' l' t n ks;
      come = call-come g e q h l x f is h' l' t n ks;
      lengths = call-lengths g e q h l x f is h' l' t n ks;
      ceiling = call-ceiling g e q h l x f is h' l' t n ks;
    }
made_ok true g e q h l x f is h' l' t n ks =
    let same : l' ≡ l = subst (λ (xs : List Ask). Chained l xs l') f.asks t.chain in
    let none_read : reads_in x.asks ≡ 0 = ap reads_in f.asks in
    let size : length (h ++ l) ≡ length (h' ++ l') = ap length (sym f.unread ∙ n) in
    record {
      reads = none_read;
      come = omega (arith, size, length-append h l, length-append h' l', ap length same);
      lengths = ap (λ (xs : List Ask). lengths_in xs ks) f.asks;
      ceiling = λ o z. omega (arith, none_read, ap length f.unread);
    }

pub log-counted : (t : Option Hours) (e : End) (g : Config) (ms : List Made) (h l : List ℕ) (es : List Entry) → Faithful t g e ms (h ++ l) es → Linked h l es
    → (more : List ℕ) → Counted t g ms (h ++ l) (length h) (lengths_of es more) more es
log-counted t e g [] h l [] f k more = refl
log-counted t e g [] h l (x ∷ xs) f k more = absurd f
log-counted t e g (m ∷ ms) h l [] f k more = absurd f
log-counted t e g (m ∷ ms) h l (x ∷ xs) (f, fs) (is, (h', (l', (u, (n, ks))))) more =
    let o = made_ok (turned t g.setting m) g e m.call h l x f is h' l' u n (lengths_of xs more) in (
      o.reads,
      rw (o.come, o.lengths, n)
          (log-counted t e (config_after g m.call) ms h' l' xs (subst (λ (y : List ℕ). Faithful t (config_after g m.call) e ms y xs) n fs) ks more),
    )

pub log-ceiling : (t : Option Hours) (e : End) (g : Config) (ms : List Made) (h l : List ℕ) (es : List Entry) → Faithful t g e ms (h ++ l) es → Linked h l es
    → UnderCeiling (h ++ l) es
log-ceiling t e g [] h l [] f k = tt
log-ceiling t e g [] h l (x ∷ xs) f k = absurd f
log-ceiling t e g (m ∷ ms) h l [] f k = absurd f
log-ceiling t e g (m ∷ ms) h l (x ∷ xs) (f, fs) (is, (h', (l', (u, (n, ks))))) = (
  (made_ok (turned t g.setting m) g e m.call h l x f is h' l' u n (lengths_of xs [])).ceiling (positive_of xs),
  rw n (log-ceiling t e (config_after g m.call) ms h' l' xs (subst (λ (y : List ℕ). Faithful t (config_after g m.call) e ms y xs) n fs) ks),
)
