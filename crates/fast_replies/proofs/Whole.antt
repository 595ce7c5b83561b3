-- What is held whole is answered at once: the turns of a listing step and of a stat's reply, one after another; and what is not, is read
-- for. Assumes nothing.
use mathlib.Core.Bool.{Bool, true, false, not, ◌&&◌, and-eq-true_iff}
use mathlib.Core.List.{List}
use mathlib.Core.Path.{◌≡◌, refl, sym, ap, ◌∙◌}
use Prim.Native.Nat.{ℕ, suc, ◌+◌, ◌≤◌, ◌<◌}
use native.Mathlib.Nat.{add-zero, lt_irrefl}
use native.Mathlib.Omega.{arith}
use borrow.Author.Tests.{lt-ltb, leb-true, not-true}
use lib.Dec.{eqb, leb}
use lib.ListN.{length, take, drop}
use Rattle.protocol.specs.Bytes.{same}
use Rattle.protocol.specs.Ids.{Dialect, FAIL}
use Rattle.protocol.specs.Records.{Stat as PanelStat, Stat2, Dent, Dent2, id_at, stat_at, stat2_at, dent_at, dent2_at}
use Rattle.format_record.specs.Told.{stat_of, stat2_of, dent_of, dent2_of}
use Rattle.session_pump.proofs.Hops.{hopped-asks, hopped-turns}
use Rattle.recv_buf.specs.RecvBuf.{cursor, held_count, held_bytes}
use Rattle.recv_buf.proofs.Laws.{held-length}
use Rattle.session.proofs.Buf.{id-in, stat-in, stat2-in, dent-in, dent2-in, sound-of, view}
use Rattle.session.specs.Phases.{wants, stat_size_of, entry_size_of, stat_id_of, entry_id_of, stopping, going, headed, turn_at}
use Rattle.session.specs.State as S
use Rattle.session.specs.State.{dialect_in, St, st, at, Good}
use Rattle.session.specs.Steps.{reading, asked, kept, turn_of, pumped, read_on}
use Rattle.session.specs.Sends.{told}
use Rattle.session.specs.declared.Answer.{Answer}
use Rattle.session.specs.declared.Answer.TheVariants as A
use Rattle.session.specs.declared.Pending.TheVariants.{Idle}
use Rattle.session.specs.declared.Phase.{Phase}
use Rattle.session.specs.declared.Phase.TheVariants.{Header, Stat, Entry, NameV1, NameV2}
use Rattle.session.specs.declared.Version.{Version}
use Rattle.session.specs.declared.Version.TheVariants.{V1, V2}
use Rattle.session.specs.declared.Want.TheVariants as W
use Rattle.fast_replies.specs.Direct.{heads, name_length_of, entry_length, entry_told, errorless, is_stat, stat_told}

-- ---- a turn whose bytes are held

-- n held bytes are dropped
abbrev pub dropped : St → ℕ → St
dropped s n = st (at s.ses (cursor (s.ses.buf.head + n) s.ses.buf.tail) Idle) s.rx s.msg

module _ (s : St) (p : Phase) (lost : Bool) (fits : wants s.ses.capacity p ≤ s.ses.capacity)
    (there : wants s.ses.capacity p ≤ held_count s.ses.buf) where
  pub turn_goes : (k n : ℕ) (q : Phase) → turn_of s p ≡ going n q → pumped (suc k) s p lost ≡ pumped k (dropped s n) q lost
  unfolding pumped kept
  turn_goes k n q e = rw (hopped-turns s p lost fits there, e)

  pub turn_stops : (k n : ℕ) (a : Answer) → turn_of s p ≡ stopping n a → pumped (suc k) s p lost ≡ told (dropped s n) a
  unfolding pumped kept
  turn_stops k n a e = rw (hopped-turns s p lost fits there, e)

-- ... and one whose bytes are not: with room behind what is held, they are read for
pub turn_asks : (s : St) (p : Phase) (lost : Bool) (k : ℕ) → wants s.ses.capacity p ≤ s.ses.capacity
    → held_count s.ses.buf < wants s.ses.capacity p → s.ses.buf.tail < s.ses.capacity
    → pumped (suc k) s p lost ≡ S.out (reading s.ses s.ses.buf.head s.ses.buf.tail p lost) s.rx s.msg
unfolding pumped asked
turn_asks s p lost k f h t = rw (hopped-asks s p lost f h, lt-ltb s.ses.buf.tail s.ses.capacity t)

-- ---- a header of some bytes

pub record Heads (d : Dialect) (b x : List ℕ) : Type 0 where
  pub sized : 8 ≤ length x
  pub apart : same (id_at x) (d.bytes FAIL) ≡ false
  pub id : same (id_at x) b ≡ true

pub heads-of : (d : Dialect) (b x : List ℕ) → heads d b x ≡ true → Heads d b x
unfolding heads
heads-of d b x e =
    let (a, s) = (and-eq-true_iff (leb 8 (length x) && not (same (id_at x) (d.bytes FAIL))) (same (id_at x) b)).0 e in
    let (l, f) = (and-eq-true_iff (leb 8 (length x)) (not (same (id_at x) (d.bytes FAIL)))).0 a in
    record { sized = leb-true _ _ l; apart = not-true _ f; id = s }

-- ---- an entry

-- the phase of an entry's name
abbrev named : Version → List ℕ → Phase
named V1 y = NameV1 (dent_of (dent_at y))
named V2 y = NameV2 (dent2_of (dent2_at y))

header-turn : (d : Dialect) (v : Version) (c : ℕ) (rx : List ℕ) (i : ℕ) → same (id_at (drop i rx)) (d.bytes FAIL) ≡ false
    → same (id_at (drop i rx)) (d.bytes (entry_id_of v)) ≡ true → turn_at d c (Header (W.Entry v)) rx i ≡ going 0 (Entry v)
unfolding turn_at headed
header-turn d v c rx i f e = rw (f, e)

entry-turn : (d : Dialect) (v : Version) (c : ℕ) (rx : List ℕ) (i : ℕ) → turn_at d c (Entry v) rx i ≡ going (entry_size_of v) (named v (drop i rx))
unfolding turn_at
entry-turn d V1 c rx i = refl
entry-turn d V2 c rx i = refl

name-turn : (d : Dialect) (v : Version) (c : ℕ) (y rx : List ℕ) (i : ℕ) → turn_at d c (named v y) rx i ≡ stopping (name_length_of v y) (entry_told v y i)
unfolding turn_at
name-turn d V1 c y rx i = refl
name-turn d V2 c y rx i = refl

name-wants : (v : Version) (c : ℕ) (y : List ℕ) → wants c (named v y) ≡ name_length_of v y
unfolding wants
name-wants V1 c y = refl
name-wants V2 c y = refl

entry-wants : (v : Version) (c : ℕ) → wants c (Entry v) ≡ entry_size_of v
unfolding wants
entry-wants v c = refl

pub entry-size : (v : Version) → 8 ≤ entry_size_of v
entry-size V1 = omega arith
entry-size V2 = omega arith

-- what a whole entry is
pub record Whole (d : Dialect) (v : Version) (x : List ℕ) : Type 0 where
  pub sized : entry_size_of v ≤ length x
  pub header : Heads d (d.bytes (entry_id_of v)) x
  pub name : entry_size_of v + name_length_of v x ≤ length x
  pub all : entry_length d v x ≡ entry_size_of v + name_length_of v x

pub whole_of : (d : Dialect) (v : Version) (x : List ℕ) → 0 < entry_length d v x → Whole d v x
unfolding entry_length
whole_of d v x h = go (leb (entry_size_of v) (length x)) (heads d (d.bytes (entry_id_of v)) x) (leb (entry_size_of v + name_length_of v x) (length x)) refl refl refl
  where
    go : (a b c : Bool) → leb (entry_size_of v) (length x) ≡ a → heads d (d.bytes (entry_id_of v)) x ≡ b
        → leb (entry_size_of v + name_length_of v x) (length x) ≡ c → Whole d v x
    go true true true p q r =
        record { sized = leb-true _ _ p; header = heads-of d (d.bytes (entry_id_of v)) x q; name = leb-true _ _ r; all = rw (p, q, r) }
    go true true false p q r = absurd (lt_irrefl 0 (rw (p, q, r) at h))
    go true false c p q r = absurd (lt_irrefl 0 (rw (p, q) at h))
    go false b c p q r = absurd (lt_irrefl 0 (rw p at h))

-- ---- a stat's reply

stat-header : (d : Dialect) (v : Version) (c : ℕ) (rx : List ℕ) (i : ℕ) → same (id_at (drop i rx)) (d.bytes FAIL) ≡ false
    → same (id_at (drop i rx)) (d.bytes (stat_id_of v)) ≡ true → turn_at d c (Header (W.Stat v)) rx i ≡ going 0 (Stat v)
unfolding turn_at headed
stat-header d v c rx i f e = rw (f, e)

stat-turn : (d : Dialect) (v : Version) (c : ℕ) (rx : List ℕ) (i : ℕ) → errorless v (drop i rx) ≡ true
    → turn_at d c (Stat v) rx i ≡ stopping (stat_size_of v) (stat_told v (drop i rx))
unfolding turn_at
stat-turn d V1 c rx i e = refl
stat-turn d V2 c rx i e = rw e

pub stat-size : (v : Version) → 8 ≤ stat_size_of v
stat-size V1 = omega arith
stat-size V2 = omega arith

-- what it is
pub record Replied (d : Dialect) (v : Version) (x : List ℕ) : Type 0 where
  pub sized : stat_size_of v ≤ length x
  pub header : Heads d (d.bytes (stat_id_of v)) x
  pub fine : errorless v x ≡ true

pub replied-of : (d : Dialect) (v : Version) (x : List ℕ) → is_stat d v x ≡ true → Replied d v x
unfolding is_stat
replied-of d v x e =
    let (b, f) = (and-eq-true_iff (leb (stat_size_of v) (length x) && heads d (d.bytes (stat_id_of v)) x) (errorless v x)).0 e in
    let (l, i) = (and-eq-true_iff (leb (stat_size_of v) (length x)) (heads d (d.bytes (stat_id_of v)) x)).0 b in
    record { sized = leb-true _ _ l; header = heads-of d (d.bytes (stat_id_of v)) x i; fine = f }

-- ---- both, in a session

module _ (s : St) (g : Good s) where
  abbrev x : List ℕ
  x = held_bytes s.rx s.ses.buf

  abbrev y : List ℕ
  y = drop s.ses.buf.head s.rx

  -- what the first n bytes tell, those that are held tell
  pub sees : {A : Type 0} (f : List ℕ → A) (n : ℕ) → ((l : List ℕ) → f (take n l) ≡ f l) → n ≤ held_count s.ses.buf → f x ≡ f y
  sees f n e h = sym (e x) ∙ ap f (view s g n h) ∙ e y

  -- ... its id too
  pub id-seen : (b : List ℕ) {t : Bool} → 8 ≤ held_count s.ses.buf → same (id_at x) b ≡ t → same (id_at y) b ≡ t
  id-seen b h e = ap (λ (l : List ℕ). same l b) (sym (sees id_at 8 id-in h)) ∙ e

  abbrev d : Dialect
  d = dialect_in s.ses

  name-seen : (v : Version) → entry_size_of v ≤ held_count s.ses.buf → name_length_of v x ≡ name_length_of v y
  name-seen V1 h = ap (λ (d : Dent). d.namelen) (sees dent_at 20 dent-in h)
  name-seen V2 h = ap (λ (d : Dent2). d.namelen) (sees dent2_at 76 dent2-in h)

  told-seen : (v : Version) (i : ℕ) → entry_size_of v ≤ held_count s.ses.buf → entry_told v x i ≡ entry_told v y i
  told-seen V1 i h = ap (λ (d : Dent). A.EntryV1 (stat_of d.stat) i d.namelen) (sees dent_at 20 dent-in h)
  told-seen V2 i h = ap (λ (d : Dent2). A.EntryV2 (stat2_of d.stat) i d.namelen) (sees dent2_at 76 dent2-in h)

  pub whole-entry : (v : Version) (lost : Bool) → 0 < entry_length d v x
      → read_on s (Header (W.Entry v)) lost ≡ told (dropped s (entry_length d v x)) (entry_told v x (s.ses.buf.head + entry_size_of v))
  unfolding wants
  whole-entry v lost h =
      let w = whole_of d v x h in
      let c = s.ses.capacity in
      let i = s.ses.buf.head in
      let l = held-length s.rx s.ses.buf (sound-of s g) in
      let z = entry-size v in
      let m = name-seen v (omega (arith, w.sized)) in
      let k : 8 ≤ held_count s.ses.buf = omega (arith, w.sized) in
      let f = id-seen (d.bytes FAIL) k w.header.apart in
      let e = id-seen (d.bytes (entry_id_of v)) k w.header.id in
      let t : St = dropped s 0 in
      let u : St = dropped t (entry_size_of v) in
      let q : i + 0 + entry_size_of v + name_length_of v y ≡ i + entry_length d v x = omega (arith, w.all) in
      turn_goes s (Header (W.Entry v)) lost g.least (omega (arith, w.sized)) 3 0 (Entry v) (header-turn d v c s.rx i f e)
      ∙ turn_goes t (Entry v) lost (omega (arith, w.sized, g)) (omega (arith, w.sized)) 2 (entry_size_of v) (named v y) (rw (add-zero i) (entry-turn d v c s.rx i))
      ∙ turn_stops u (named v y) lost (rw (name-wants v c y) (omega (arith, w.name, g))) (rw (name-wants v c y) (omega (arith, w.name))) 1 (name_length_of v y) (entry_told v y (i + entry_size_of v))
      (rw (add-zero i) (name-turn d v c y s.rx (i + entry_size_of v)))
      ∙ rw (q, told-seen v (i + entry_size_of v) (omega (arith, w.sized)))

  stat-seen : (v : Version) → stat_size_of v ≤ held_count s.ses.buf → stat_told v x ≡ stat_told v y
  stat-seen V1 h = ap (λ (d : PanelStat). A.StatV1 (stat_of d)) (sees stat_at 16 stat-in h)
  stat-seen V2 h = ap (λ (d : Stat2). A.StatV2 (stat2_of d)) (sees stat2_at 72 stat2-in h)

  fine-seen : (v : Version) → stat_size_of v ≤ held_count s.ses.buf → errorless v x ≡ errorless v y
  fine-seen V1 h = refl
  fine-seen V2 h = ap (λ (d : Stat2). eqb d.error 0) (sees stat2_at 72 stat2-in h)

  pub whole-stat : (v : Version) (lost : Bool) → is_stat d v x ≡ true
      → read_on s (Header (W.Stat v)) lost ≡ told (dropped s (stat_size_of v)) (stat_told v x)
  unfolding wants
  whole-stat v lost h =
      let w = replied-of d v x h in
      let c = s.ses.capacity in
      let i = s.ses.buf.head in
      let l = held-length s.rx s.ses.buf (sound-of s g) in
      let z = stat-size v in
      let there : stat_size_of v ≤ held_count s.ses.buf = omega (arith, w.sized) in
      let k : 8 ≤ held_count s.ses.buf = omega arith in
      let f = id-seen (d.bytes FAIL) k w.header.apart in
      let e = id-seen (d.bytes (stat_id_of v)) k w.header.id in
      let r = sym (fine-seen v there) ∙ w.fine in
      turn_goes s (Header (W.Stat v)) lost g.least (omega arith) 3 0 (Stat v) (stat-header d v c s.rx i f e)
      ∙ turn_stops (dropped s 0) (Stat v) lost (omega (arith, g)) (omega arith) 2 (stat_size_of v) (stat_told v y) (rw (add-zero i) (stat-turn d v c s.rx i r))
      ∙ rw (add-zero i, stat-seen v there)
