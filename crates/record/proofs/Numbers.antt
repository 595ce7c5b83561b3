-- A pending step's numbers, and back: bits, the low 32 bits, signed times, and every state in its place of `pendings`. Assumes nothing.
use mathlib.Core.Bool.{Bool, true, false}
use mathlib.Core.List.{List, [], ◌∷◌, ◌++◌}
use mathlib.Core.Path.{◌≡◌, refl, ap, ◌∙◌}
use Prim.Native.Nat.{ℕ, zero, suc, ◌+◌, ◌*◌, ◌-◌, ◌/◌, ◌%◌, ◌^◌, ◌<◌}
use native.Mathlib.Nat.{pow-succ', mod-eq_of_lt}
use native.Mathlib.Omega.{arith}
use borrow.Author.Rules.{rules}
use borrow.Author.Tests.{lt-ltb, ltb-true, le-leb}
use lib.Dec.{ltb}
use lib.IntN.{ℤ, pos, negsuc}
use lib.ListN.{length, get_or}
use Rattle.protocol.specs.Bytes.{signed}
use Rattle.protocol.proofs.Records.{signed_low, signed_high}
use Rattle.features.specs.Meaning.{listed}
use Rattle.features.specs.declared.Features.{Features}
use Rattle.ids.specs.declared.Ids.{Ids}
use Rattle.request.specs.declared.Request.{Request}
use Rattle.request.specs.declared.Request.TheVariants as Q
use Rattle.session.specs.declared.Pending.{Pending}
use Rattle.session.specs.declared.Pending.TheVariants.{Idle, Reading, Writing, Closing}
use Rattle.session.specs.declared.Phase.{Phase}
use Rattle.session.specs.declared.Phase.TheVariants.{Header, Stat, Entry, Last, NameV1, NameV2, Body, Text, Rest}
use Rattle.session.specs.declared.Session.{Session}
use Rattle.session.specs.declared.Version.TheVariants.{V1, V2}
use Rattle.session.specs.declared.Want.TheVariants as W
use Rattle.session.specs.Core.{features_from}
use Rattle.record.specs.Fields.{bit, is_one, bits, bits_of, low, unsigned, padded, registers, own_numbers, step_numbers, fields, session_of, keeps_in, step_in, known, phase_state, phase_numbers, request_state, request_numbers, id_numbers, ids_from, pending_of}
use Rattle.record.specs.Narrow.{U32, U64, I64, NarrowPhase, NarrowRequest, NarrowPending, NarrowIds, Narrow}

pub length-padded : (k : ℕ) (r : List ℕ) → length (padded k r) ≡ k
length-padded zero r = refl
length-padded (suc k) [] = ap suc (length-padded k [])
length-padded (suc k) (x ∷ r) = ap suc (length-padded k r)

-- ---- bits

pub one_bit : (b : Bool) → is_one (bit b) ≡ b
one_bit true = refl
one_bit false = refl

pub bit-small : (b : Bool) → bit b < 2
bit-small true = omega arith
bit-small false = omega arith

pub bits_small : (bs : List Bool) → bits bs < 2 ^ length bs
bits_small [] = omega arith
bits_small (b ∷ bs) = rw pow-succ' (omega (arith, bit-small b, bits_small bs))

bits_back : (bs : List Bool) → bits_of (length bs) (bits bs) ≡ bs
bits_back [] = refl
bits_back (b ∷ bs) =
    let h = bit-small b in
    let m : (bit b + 2 * bits bs) % 2 ≡ bit b = omega arith in
    let q : (bit b + 2 * bits bs) / 2 ≡ bits bs = omega arith in
    rw (m, q, one_bit b, bits_back bs)

pub features-back : (f : Features) → features_from (bits_of 7 (bits (listed f))) ≡ f
features-back f = ap features_from (bits_back (listed f))

pub one-forth : (n : ℕ) → n < 2 → bit (is_one n) ≡ n
one-forth zero h = refl
one-forth (suc zero) h = refl
one-forth (suc (suc n)) h = absurd (omega arith)

pub bits-forth : (k n : ℕ) → n < 2 ^ k → bits (bits_of k n) ≡ n
bits-forth zero n h = omega arith
bits-forth (suc k) n h =
    let l : n < 2 * 2 ^ k = rw pow-succ' at h in
    rw (one-forth (n % 2) (omega arith), bits-forth k (n / 2) (omega arith)) (omega arith)

-- ---- widths

low-back : (n : ℕ) → U32 n → low n ≡ n
low-back n h = mod-eq_of_lt h

pub signed_back : (z : ℤ) → I64 z → signed (unsigned z) ≡ z
signed_back (pos n) h = signed_low n h
signed_back (negsuc n) h =
    let e : 0xffff_ffff_ffff_ffff - (0xffff_ffff_ffff_ffff - n) ≡ n = omega arith in
    signed_high (0xffff_ffff_ffff_ffff - n) (omega arith) ∙ ap negsuc e

pub unsigned-wide : (z : ℤ) → I64 z → U64 (unsigned z)
unsigned-wide (pos n) h = omega arith
unsigned-wide (negsuc n) h = omega arith

-- ---- a pending step's state is known, and gives the step again

abbrev pub numbers : List ℕ → ℕ → ℕ
numbers ns i = get_or ns i 0

-- the numbers of a session with the pending step p
abbrev with : Session → Pending → ℕ → ℕ
with s p = numbers (own_numbers s ++ step_numbers p ++ id_numbers s.ids)

abbrev Back : ℕ → Pending → Pending → Type 0
Back state p q = (ltb state 31 ≡ true) × (p ≡ q)

module _ (s : Session) where
  reading-back : (p : Phase) (until : ℕ) (lost : Bool) → NarrowPhase s.capacity p
      → Back (phase_state p) (pending_of (with s (Reading p until lost))) (Reading p until (is_one (bit lost)))
  reading-back (Header (W.Stat V1)) until lost h = (refl, refl)
  reading-back (Header (W.Stat V2)) until lost h = (refl, refl)
  reading-back (Header (W.Entry V1)) until lost h = (refl, refl)
  reading-back (Header (W.Entry V2)) until lost h = (refl, refl)
  reading-back (Header W.Chunk) until lost h = (refl, refl)
  reading-back (Header W.Okay) until lost h = (refl, refl)
  reading-back (Header W.Nothing) until lost h = (refl, refl)
  reading-back (Stat V1) until lost h = (refl, refl)
  reading-back (Stat V2) until lost h = (refl, refl)
  reading-back (Entry V1) until lost h = (refl, refl)
  reading-back (Entry V2) until lost h = (refl, refl)
  reading-back (Last V1) until lost h = (refl, refl)
  reading-back (Last V2) until lost h = (refl, refl)
  reading-back (NameV1 d) until lost h = (
    refl,
    rw (low-back d.stat.mode.0 h.mode, low-back d.stat.size h.size, low-back d.stat.mtime h.mtime, low-back d.namelen h.namelen),
  )
  reading-back (NameV2 d) until lost h = (
    refl,
    rw (
      low-back d.stat.error h.error,
      low-back d.stat.mode.0 h.mode,
      low-back d.stat.nlink h.nlink,
      low-back d.stat.uid h.uid,
      low-back d.stat.gid h.gid,
      signed_back d.stat.atime h.atime,
      signed_back d.stat.mtime h.mtime,
      signed_back d.stat.ctime h.ctime,
      low-back d.namelen h.namelen,
    ),
  )
  reading-back (Body n) until lost h = (refl, rw (low-back n h))
  reading-back (Text n) until lost h = (refl, rw (low-back n h))
  reading-back (Rest left text) until lost h = (refl, refl)

  writing-back : (q : Request) (from piece : ℕ) → NarrowRequest q
      → Back (request_state q) (pending_of (with s (Writing q from piece))) (Writing q from piece)
  writing-back Q.Stat from piece h = (refl, refl)
  writing-back Q.Sta2 from piece h = (refl, refl)
  writing-back Q.List from piece h = (refl, refl)
  writing-back Q.Lis2 from piece h = (refl, refl)
  writing-back Q.Recv from piece h = (refl, refl)
  writing-back (Q.Rcv2 f) from piece h = (refl, rw (low-back f.0 h))
  writing-back (Q.Send m) from piece h = (refl, rw (low-back m.0 h))
  writing-back (Q.Snd2 m f) from piece h = (refl, rw (low-back m.0 h.0, low-back f.0 h.1))
  writing-back Q.Data from piece h = (refl, refl)
  writing-back (Q.Done t) from piece h = (refl, rw (low-back t h))
  writing-back Q.Quit from piece h = (refl, refl)

  -- the ids lie behind the 24 numbers
  behind : (ms ns : List ℕ) (i j : ℕ) → j ≡ length ms + i → get_or (ms ++ ns) j 0 ≡ get_or ns i 0
  behind [] ns i j e = ap (λ (k : ℕ). get_or ns k 0) (omega arith)
  behind (m ∷ ms) ns i zero e = absurd (omega arith)
  behind (m ∷ ms) ns i (suc j) e = behind ms ns i j (omega arith)

  pub own-length : (p : Pending) → length (own_numbers s ++ step_numbers p) ≡ 24
  own-length Idle = refl
  own-length (Reading p until lost) = rw (length-padded 12 (phase_numbers p))
  own-length (Writing q from piece) = rw (length-padded 12 (request_numbers q))
  own-length (Closing failed code) = refl

  id-at : (p : Pending) (i : ℕ) → with s p (24 + i) ≡ get_or (id_numbers s.ids) i 0
  id-at p i = behind (own_numbers s ++ step_numbers p) (id_numbers s.ids) i (24 + i) (omega (arith, own-length p))

  pub ids-back : (p : Pending) → ids_from (with s p) ≡ s.ids
  ids-back p = rw (id-at p 0, id-at p 1, id-at p 2, id-at p 3, id-at p 4, id-at p 5, id-at p 6, id-at p 7)

  pub pending-back : (p : Pending) → NarrowPending s.capacity p → Back (with s p 7) (pending_of (with s p)) p
  pending-back Idle h = (refl, refl)
  pending-back (Reading p until lost) h = let r = reading-back p until lost h.0 in (r.0, r.1 ∙ ap (Reading p until) (one_bit lost))
  pending-back (Writing q from piece) h = writing-back q from piece h.0
  pending-back (Closing failed code) h = (refl, rw (one_bit failed, low-back code h))

-- ---- the parts of a pending step lie inside

keeps-in : (c : ℕ) (p : Phase) → NarrowPhase c p → keeps_in c p ≡ true
keeps-in c (Header w) h = refl
keeps-in c (Stat v) h = refl
keeps-in c (Entry v) h = refl
keeps-in c (Last v) h = refl
keeps-in c (NameV1 d) h = refl
keeps-in c (NameV2 d) h = refl
keeps-in c (Body n) h = refl
keeps-in c (Text n) h = refl
keeps-in c (Rest left text) h = le-leb text c h.1

step_in_lem : (c : ℕ) (p : Pending) → NarrowPending c p → step_in c p ≡ true
step_in_lem c Idle h = refl
step_in_lem c (Reading p until lost) h = keeps-in c p h.0
step_in_lem c (Writing q from piece) h = h.2
step_in_lem c (Closing failed code) h = refl

-- ---- every number of a session has 64 bits

abbrev pub AllU64 : List ℕ → Type 0
AllU64 [] = Unit {0}
AllU64 (n ∷ ns) = U64 n × AllU64 ns

pub at_all : (ns : List ℕ) → AllU64 ns → (i : ℕ) → U64 (get_or ns i 0)
at_all [] h i = omega arith
at_all (n ∷ ns) h zero = h.0
at_all (n ∷ ns) h (suc i) = at_all ns h.1 i

all-padded : (k : ℕ) (r : List ℕ) → AllU64 r → AllU64 (padded k r)
all-padded zero r h = tt
all-padded (suc k) [] h = (omega arith, all-padded k [] tt)
all-padded (suc k) (x ∷ r) h = (h.0, all-padded k r h.1)

phase_wide : (c : ℕ) → U64 c → (p : Phase) → NarrowPhase c p → AllU64 (phase_numbers p)
phase_wide c w (Header x) h = tt
phase_wide c w (Stat v) h = tt
phase_wide c w (Entry v) h = tt
phase_wide c w (Last v) h = tt
phase_wide c w (NameV1 d) h = search rules
phase_wide c w (NameV2 d) h =
    let a = unsigned-wide d.stat.atime h.atime in
    let m = unsigned-wide d.stat.mtime h.mtime in
    let c = unsigned-wide d.stat.ctime h.ctime in
    search rules
phase_wide c w (Body n) h = (omega arith, tt)
phase_wide c w (Text n) h = (omega arith, tt)
phase_wide c w (Rest left text) h = (h.0, (omega arith, tt))

request-wide : (q : Request) → NarrowRequest q → AllU64 (request_numbers q)
request-wide Q.Stat h = tt
request-wide Q.Sta2 h = tt
request-wide Q.List h = tt
request-wide Q.Lis2 h = tt
request-wide Q.Recv h = tt
request-wide (Q.Rcv2 f) h = search rules
request-wide (Q.Send m) h = search rules
request-wide (Q.Snd2 m f) h = search rules
request-wide Q.Data h = tt
request-wide (Q.Done t) h = search rules
request-wide Q.Quit h = tt

step-wide : (state flag until from piece : ℕ) (r : List ℕ) → state < 31 → flag < 2 → U64 until → U64 from → U64 piece → AllU64 r
    → AllU64 (state ∷ flag ∷ until ∷ from ∷ piece ∷ registers r)
step-wide state flag until from piece r a b u f p h = (omega arith, (omega arith, (u, (f, (p, all-padded 12 r h)))))

module _ (s : Session) where
  flag-known : (p : Pending) → ltb (with s p 8) 2 ≡ true
  flag-known Idle = refl
  flag-known (Reading p until lost) = lt-ltb _ _ (bit-small lost)
  flag-known (Writing q from piece) = refl
  flag-known (Closing failed code) = lt-ltb _ _ (bit-small failed)

  pending-wide : U64 s.capacity → (p : Pending) → NarrowPending s.capacity p → AllU64 (step_numbers p)
  pending-wide w Idle h = all-padded 17 [] tt
  pending-wide w (Reading p until lost) h =
      let k = ltb-true (phase_state p) 31 (reading-back s p until lost h.0).0 in
      step-wide (phase_state p) (bit lost) until 0 0 (phase_numbers p) k (bit-small lost) h.1 (omega arith) (omega arith) (phase_wide s.capacity w p h.0)
  pending-wide w (Writing q from piece) h =
      let k = ltb-true (request_state q) 31 (writing-back s q from piece h.0).0 in
      step-wide (request_state q) 0 0 from piece (request_numbers q) k (omega arith) (omega arith) h.1.0 h.1.1 (request-wide q h.0)
  pending-wide w (Closing failed code) h = let k = bit-small failed in search rules

all_append : (ms ns : List ℕ) → AllU64 ms → AllU64 ns → AllU64 (ms ++ ns)
all_append [] ns h g = g
all_append (m ∷ ms) ns h g = (h.0, all_append ms ns h.1 g)

ids-wide : (t : Ids) → NarrowIds t → AllU64 (id_numbers t)
ids-wide t h = search rules

module _ (s : Session) (n : Narrow s) where
  pub fields-wide : (i : ℕ) → U64 (numbers (fields s) i)
  unfolding fields
  fields-wide i =
      let f : U64 (bits (listed s.features)) = omega (arith, bits_small (listed s.features)) in
      let e : U64 (bit s.ended) = omega (arith, bit-small s.ended) in
      let p = pending-wide s n.capacity s.pending n.pending in
      let own : AllU64 (own_numbers s ++ step_numbers s.pending) = (n.capacity, (n.message, (n.head, (n.tail, (n.lent, (f, (e, p))))))) in
      at_all (fields s) (all_append (own_numbers s ++ step_numbers s.pending) (id_numbers s.ids) own (ids-wide s.ids n.ids)) i

  pub fields-known : known (numbers (fields s)) ≡ true
  unfolding fields known
  fields-known =
      rw (
        lt-ltb _ _ (bits_small (listed s.features)),
        lt-ltb _ _ (bit-small s.ended),
        (pending-back s s.pending n.pending).0,
        flag-known s s.pending,
        (pending-back s s.pending n.pending).1,
        step_in_lem s.capacity s.pending n.pending,
      )

  pub fields_back : session_of (numbers (fields s)) ≡ s
  unfolding fields session_of
  fields_back = rw (features-back s.features, ids-back s s.pending, one_bit s.ended, (pending-back s s.pending n.pending).1)
