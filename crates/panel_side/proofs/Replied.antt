-- One reply, read: what the plain reader makes of the bytes of each in the call that it belongs to. Assumes nothing.
use Prim.Native.Nat.{ℕ, ◌+◌, ◌-◌, ◌≤◌, ◌<◌, min}
use mathlib.Core.Bool.{Bool, true, false}
use mathlib.Core.List.{List, [], ◌∷◌, ◌++◌, append_assoc}
use mathlib.Core.Path.{◌≡◌, refl, sym, ap, ◌∙◌}
use native.Mathlib.Omega.{arith}
use borrow.Author.Tests.{ltb-true}
use lib.ListN.{length, take, drop, length-append}
use lib.Seq.{take-append-le, take-append_seam, drop_at}
use Rattle.protocol.specs.Answers as A
use Rattle.protocol.specs.Bytes.{same, number_at}
use Rattle.protocol.specs.Calls.{Version, v1, v2, Call}
use Rattle.protocol.specs.Ids.{Id, Dialect, Sound, STAT, STA2, DENT, DNT2, DATA, DONE, OKAY, FAIL}
use Rattle.protocol.specs.Messages.{word}
use Rattle.protocol.specs.Reader.{Prog, answer, skip, ended, plain, Way, way, taking, next, next_on, among_ways, failing, drain, Config, written, stat_ways, stat2_answer, entry_ways, entry_answer, entry_id, entry_length, name_length, chunk_ways, okay_ways}
use Rattle.protocol.specs.Records.{Stat, Stat2, header_size, id_at, arg_at, stat_at, stat2_at, stat2_body, dent_at, dent2_at}
use Rattle.protocol.proofs.Bytes.{same_refl, same-eq, le-bytes_of, length-bytes_of}
use Rattle.protocol_readers.proofs.Needs.{plain-go, drain-none}
use Rattle.id_table.specs.Settings.{place}
use Rattle.record.specs.Fields.{unsigned}
use Rattle.record.proofs.Numbers.{signed_back, unsigned-wide}
use Rattle.panel_reply.specs.Replies.{Reply, stat_fields, stat2_fields, with_length, zeros, behind_id, bytes_of_reply, is_short}
use Rattle.panel_side.specs.Claim.{FitsStat, FitsStat2, Fits}
use Rattle.panel_side.specs.ReadBack.{stat_reads, stat2_reads, step_reads, chunk_reads, done_reads, BelongsTo, of_stat, of_stat2, of_entry, of_entry2, of_listing_end, of_chunk, of_transfer_end, of_okay, of_fail, read_as, capacity_for}

-- ---- four bytes of an id, and what stands behind them

pub data Four : List ℕ → Type 0 where
  four : (a b c e : ℕ) → Four (a ∷ b ∷ c ∷ e ∷ [])

pub is-four : (x : List ℕ) → length x ≡ 4 → Four x
is-four [] h = absurd (omega arith)
is-four (a ∷ []) h = absurd (omega arith)
is-four (a ∷ b ∷ []) h = absurd (omega arith)
is-four (a ∷ b ∷ c ∷ []) h = absurd (omega arith)
is-four (a ∷ b ∷ c ∷ e ∷ []) h = four a b c e
is-four (a ∷ b ∷ c ∷ e ∷ f ∷ x) h = absurd (omega arith)

-- the id and the arg of a header
id-taken : (x y : List ℕ) → Four x → id_at (x ++ y) ≡ x
id-taken x y (four a b c e) = refl

arg-taken : (x y : List ℕ) (n : ℕ) → Four x → n < 0x1_0000_0000 → arg_at (x ++ take 4 (word n ++ y)) ≡ n
unfolding number_at
arg-taken x y n (four a b c e) h = le-bytes_of 4 n h

-- the fields, read
stat-back : (x y : List ℕ) (s : Stat) → Four x → FitsStat s → stat_at (x ++ (stat_fields s ++ y)) ≡ s
unfolding stat_at number_at
stat-back x y s (four a b c e) f = rw (le-bytes_of 4 s.mode f.mode, le-bytes_of 4 s.size f.size, le-bytes_of 4 s.mtime f.mtime)

stat2-back : (x y : List ℕ) (s : Stat2) → Four x → FitsStat2 s → stat2_at (x ++ (stat2_fields s ++ y)) ≡ s
unfolding stat2_body number_at
stat2-back x y s (four a b c e) f =
    rw (
      le-bytes_of 4 s.error f.error,
      le-bytes_of 8 s.dev f.dev,
      le-bytes_of 8 s.ino f.ino,
      le-bytes_of 4 s.mode f.mode,
      le-bytes_of 4 s.nlink f.nlink,
      le-bytes_of 4 s.uid f.uid,
      le-bytes_of 4 s.gid f.gid,
      le-bytes_of 8 s.size f.size,
      le-bytes_of 8 (unsigned s.atime) (unsigned-wide s.atime f.atime),
      le-bytes_of 8 (unsigned s.mtime) (unsigned-wide s.mtime f.mtime),
      le-bytes_of 8 (unsigned s.ctime) (unsigned-wide s.ctime f.ctime),
      signed_back s.atime f.atime,
      signed_back s.mtime f.mtime,
      signed_back s.ctime f.ctime,
    )

-- the length of a name
name_back : (x y : List ℕ) (s : Stat) (n : ℕ) → Four x → n < 0x1_0000_0000 → (dent_at (x ++ (stat_fields s ++ (word n ++ y)))).namelen ≡ n
unfolding dent_at number_at
name_back x y s n (four a b c e) h = le-bytes_of 4 n h

name2_back : (x y : List ℕ) (s : Stat2) (n : ℕ) → Four x → n < 0x1_0000_0000 → (dent2_at (x ++ (stat2_fields s ++ (word n ++ y)))).namelen ≡ n
unfolding dent2_at number_at
name2_back x y s n (four a b c e) h = le-bytes_of 4 n h

-- ---- one need, met by the bytes that stand first

answered : (c : ℕ) (a : A.Answer) (u : List ℕ) → plain c (answer a) u ≡ ended a u
unfolding plain
answered c a u = refl

skipped : (c n : ℕ) (a : A.Answer) (u : List ℕ) → plain c (skip n (answer a)) u ≡ ended a (drop n u)
unfolding plain
skipped c n a u = refl

took : (c n : ℕ) (k : List ℕ → Prog) (m u : List ℕ) → length m ≡ n → n ≤ c → plain c (taking n k) (m ++ u) ≡ plain c (k m) u
unfolding plain
took c n k m u e h =
    let l : n ≤ length (m ++ u) = omega (arith, length-append m u) in
    let t : take n (m ++ u) ≡ m = ap (λ (j : ℕ). take j (m ++ u)) (sym e) ∙ take-append_seam m u in
    plain-go c n (λ x. skip n (k x)) (m ++ u) h l ∙ ap (λ (x : List ℕ). plain c (k x) (drop n (m ++ u))) t ∙ ap (plain c (k m)) (drop_at m u n e)

-- what stands behind a header
pub behind-header : (x t u : List ℕ) (n : ℕ) → Four x → drop 8 ((x ++ (word n ++ t)) ++ u) ≡ t ++ u
behind-header x t u n (four a b c e) = refl

-- ... and nothing behind that
behind-head : (x t : List ℕ) (n : ℕ) → Four x → drop 8 (x ++ (word n ++ t)) ≡ t
behind-head x t n (four a b c e) = refl

-- bytes with bytes between them
seam : (x y z u : List ℕ) → (x ++ (y ++ z)) ++ u ≡ (x ++ y) ++ (z ++ u)
seam x y z u = ap (λ (l : List ℕ). l ++ u) (sym (append_assoc x y z)) ∙ append_assoc (x ++ y) z u

failing-in : (c : ℕ) (x t u : List ℕ) → Four x → length t ≤ c → plain c (failing c (length t)) ((x ++ with_length t) ++ u) ≡ ended (A.fail t) u
unfolding plain
failing-in c x t u f fits =
    let m : min (length t) c ≡ length t = omega arith in
    let z : length t - length t ≡ 0 = omega arith in
    ap (plain c (taking (min (length t) c) (λ y. drain c (length t) (length t - min (length t) c) y))) (behind-header x t u (length t) f)
    ∙ rw m (took c (length t) (λ y. drain c (length t) (length t - length t) y) t u refl fits)
    ∙ drain-none c (length t) (length t - length t) t u z

-- ---- the header, by the ids of a dialect

module _ (d : Dialect) (sound : Sound d) (c : ℕ) (least : 8 ≤ c) where
  fours : (i : Id) → Four (d.bytes i)
  fours i = is-four (d.bytes i) (sound.four i)

  own : (i : Id) (y : List ℕ) → same (id_at (d.bytes i ++ y)) (d.bytes i) ≡ true
  own i y = rw (id-taken (d.bytes i) y (fours i)) (same_refl (d.bytes i))

  other : (i j : Id) (y : List ℕ) → (i ≡ j → ⊥) → same (id_at (d.bytes i ++ y)) (d.bytes j) ≡ false
  other i j y f = rw (id-taken (d.bytes i) y (fours i)) (go (same (d.bytes i) (d.bytes j)) refl)
    where
      go : (q : Bool) → same (d.bytes i) (d.bytes j) ≡ q → same (d.bytes i) (d.bytes j) ≡ false
      go true e = absurd (f (sound.apart i j (same-eq (d.bytes i) (d.bytes j) e)))
      go false e = e

  -- of a message with an id and y behind it, the header is in view
  module _ (ws : List Way) (i : Id) (y u : List ℕ) (long : 4 ≤ length y) where
    abbrev header : List ℕ
    header = d.bytes i ++ take 4 y

    header-taken : take 8 ((d.bytes i ++ y) ++ u) ≡ header
    header-taken = go (d.bytes i) (fours i)
      where
        go : (x : List ℕ) → Four x → take 8 ((x ++ y) ++ u) ≡ x ++ take 4 y
        go x (four a b c e) = ap (λ (l : List ℕ). a ∷ b ∷ c ∷ e ∷ l) (take-append-le 4 y u long)

    next-in : plain c (next d c ws) ((d.bytes i ++ y) ++ u) ≡ plain c (next_on d c ws A.unexpected header) ((d.bytes i ++ y) ++ u)
    next-in =
        let l : 8 ≤ length ((d.bytes i ++ y) ++ u) = omega (arith, length-append (d.bytes i ++ y) u, length-append (d.bytes i) y, sound.four i) in
        plain-go c header_size (next_on d c ws A.unexpected) ((d.bytes i ++ y) ++ u) least l
        ∙ ap (λ (h : List ℕ). plain c (next_on d c ws A.unexpected h) ((d.bytes i ++ y) ++ u)) header-taken

    ways_in : (i ≡ FAIL → ⊥) → plain c (next d c ws) ((d.bytes i ++ y) ++ u) ≡ plain c (among_ways d ws header (A.unexpected (id_at header))) ((d.bytes i ++ y) ++ u)
    ways_in f = next-in ∙ rw (other i FAIL (take 4 y) f)

  -- the first way, and the second
  first_way : (i : Id) (k : List ℕ → Prog) (ws : List Way) (y u : List ℕ) → 4 ≤ length y → (i ≡ FAIL → ⊥)
      → plain c (next d c (way i k ∷ ws)) ((d.bytes i ++ y) ++ u) ≡ plain c (k (d.bytes i ++ take 4 y)) ((d.bytes i ++ y) ++ u)
  first_way i k ws y u long f = ways_in (way i k ∷ ws) i y u long f ∙ rw (own i (take 4 y))

  second_way : (i j : Id) (k l : List ℕ → Prog) (y u : List ℕ) → 4 ≤ length y → (i ≡ FAIL → ⊥) → (i ≡ j → ⊥)
      → plain c (next d c (way j l ∷ way i k ∷ [])) ((d.bytes i ++ y) ++ u) ≡ plain c (k (d.bytes i ++ take 4 y)) ((d.bytes i ++ y) ++ u)
  second_way i j k l y u long f g = ways_in (way j l ∷ way i k ∷ []) i y u long f ∙ rw (other i j (take 4 y) g, own i (take 4 y))

  -- a FAIL whose text the capacity holds, whatever is allowed
  fail-in : (ws : List Way) (t u : List ℕ) → length t < 0x1_0000_0000 → length t ≤ c
      → plain c (next d c ws) ((d.bytes FAIL ++ with_length t) ++ u) ≡ ended (A.fail t) u
  fail-in ws t u h fits =
      let n : arg_at (d.bytes FAIL ++ take 4 (with_length t)) ≡ length t = arg-taken (d.bytes FAIL) t (length t) (fours FAIL) h in
      next-in ws FAIL (with_length t) u (omega (arith, length-append (word (length t)) t, length-bytes_of 4 (length t)))
      ∙ rw (own FAIL (take 4 (with_length t)), n) (failing-in c (d.bytes FAIL) t u (fours FAIL) fits)

-- ids that stand at different places
apart : {i j : Id} → (place i ≡ place j → ⊥) → i ≡ j → ⊥
apart f e = f (ap place e)

-- ---- every reply

module _ (g : Config) (sound : Sound g.setting.dialect) (least : 8 ≤ g.capacity) (u : List ℕ) where
  abbrev d : Dialect
  d = g.setting.dialect

  abbrev c : ℕ
  c = g.capacity

  abbrev id : Id → List ℕ
  id i = d.bytes i

  id_four : (i : Id) → Four (id i)
  id_four i = is-four (id i) (sound.four i)

  -- how long an id and n bytes behind it are
  sized : (i : Id) (y : List ℕ) (n : ℕ) → length y ≡ n → length (id i ++ y) ≡ 4 + n
  sized i y n e = omega (arith, length-append (id i) y, sound.four i)

  counted-long : (x : List ℕ) → length (with_length x) ≡ 4 + length x
  counted-long x = omega (arith, length-append (word (length x)) x, length-bytes_of 4 (length x))

  -- an entry of either version: fields and a name behind its id
  entry_in_lem : (v : Version) (y name : List ℕ) → length (id (entry_id v) ++ (y ++ word (length name))) ≡ entry_length v
      → name_length v (id (entry_id v) ++ (y ++ word (length name))) ≡ length name → entry_length v ≤ c → length name ≤ c → (entry_id v ≡ FAIL → ⊥)
      → plain c (next d c (entry_ways v)) ((id (entry_id v) ++ (y ++ with_length name)) ++ u) ≡ ended (entry_answer v (id (entry_id v) ++ (y ++ word (length name))) name) u
  entry_in_lem v y name l n fits named f =
      let x = id (entry_id v) ++ (y ++ word (length name)) in
      let b = length-append y (with_length name) in
      first_way d sound c least (entry_id v) (λ h. taking (entry_length v) named-on) (way DONE (λ h. taking (entry_length v) (λ z. answer A.end)) ∷ []) (y ++ with_length name) u (omega (arith, b, counted-long name)) f
      ∙ ap (plain c (taking (entry_length v) named-on)) (ap (λ (z : List ℕ). (id (entry_id v) ++ z) ++ u) (sym (append_assoc y (word (length name)) name)) ∙ seam (id (entry_id v)) (y ++ word (length name)) name u)
      ∙ took c (entry_length v) named-on x (name ++ u) l fits
      ∙ rw n (took c (length name) (λ t. answer (entry_answer v x t)) name u refl named)
      ∙ answered c _ u
    where
      named-on : List ℕ → Prog
      named-on z = taking (name_length v z) (λ t. answer (entry_answer v z t))

  -- the end of a listing of either version
  end-in : (v : Version) (y : List ℕ) → 4 ≤ length y → length (id DONE ++ y) ≡ entry_length v → entry_length v ≤ c → (DONE ≡ entry_id v → ⊥)
      → plain c (next d c (entry_ways v)) ((id DONE ++ y) ++ u) ≡ ended A.end u
  end-in v y long l fits f =
      second_way d sound c least DONE (entry_id v) _ _ y u long (apart (λ h. omega arith)) f
      ∙ took c (entry_length v) (λ x. answer A.end) (id DONE ++ y) u l fits
      ∙ answered c A.end u

  pub reply-read : {r : Reply} {q : Call} → BelongsTo r q → Fits r → is_short r ≡ true → capacity_for r ≤ c
      → plain c (written g q) (bytes_of_reply d r ++ u) ≡ ended (read_as r) u
  unfolding written behind_id is_short dent_at dent2_at
  reply-read (of_stat s path) f e h =
      first_way d sound c least STAT _ [] (stat_fields s) u (omega arith) (apart (λ h. omega arith))
      ∙ took c 16 (λ x. answer (A.stat (stat_at x))) (id STAT ++ stat_fields s) u (sized STAT (stat_fields s) 12 refl) h
      ∙ answered c _ u
      ∙ ap (λ (z : Stat). ended (A.stat z) u) (stat-back (id STAT) [] s (id_four STAT) f)
  reply-read (of_stat2 s path) f e h =
      first_way d sound c least STA2 _ [] (stat2_fields s) u (omega arith) (apart (λ h. omega arith))
      ∙ took c 72 (λ x. answer (stat2_answer (stat2_at x))) (id STA2 ++ stat2_fields s) u (sized STA2 (stat2_fields s) 68 refl) h
      ∙ answered c _ u
      ∙ ap (λ (z : Stat2). ended (stat2_answer z) u) (stat2-back (id STA2) [] s (id_four STA2) f)
  reply-read (of_entry s name) f e h =
      let k : length name < 0x1_0000_0000 = ltb-true (length name) 0x1_0000_0000 e in
      entry_in_lem v1 (stat_fields s) name (sized DENT (stat_fields s ++ word (length name)) 16 refl) (name_back (id DENT) [] s (length name) (id_four DENT) k) (omega arith) (omega arith) (apart (λ h. omega arith))
      ∙ ap (λ (z : Stat). ended (A.entry z name) u) (stat-back (id DENT) (word (length name)) s (id_four DENT) f)
  reply-read (of_entry2 s name) f e h =
      let k : length name < 0x1_0000_0000 = ltb-true (length name) 0x1_0000_0000 e in
      entry_in_lem v2 (stat2_fields s) name (sized DNT2 (stat2_fields s ++ word (length name)) 72 refl) (name2_back (id DNT2) [] s (length name) (id_four DNT2) k) (omega arith) (omega arith) (apart (λ h. omega arith))
      ∙ ap (λ (z : Stat2). ended (A.entry2 z name) u) (stat2-back (id DNT2) (word (length name)) s (id_four DNT2) f)
  reply-read (of_listing_end v1) f e h = end-in v1 (zeros 16) (omega arith) (sized DONE (zeros 16) 16 refl) h (apart (λ h. omega arith))
  reply-read (of_listing_end v2) f e h = end-in v2 (zeros 72) (omega arith) (sized DONE (zeros 72) 72 refl) h (apart (λ h. omega arith))
  reply-read (of_chunk b) f e h =
      let n : arg_at (id DATA ++ take 4 (with_length b)) ≡ length b = arg-taken (id DATA) b (length b) (id_four DATA) (omega (arith, ltb-true (length b) 65537 e)) in
      first_way d sound c least DATA (λ x. taking (header_size + arg_at x) (λ y. answer (A.chunk (drop header_size y)))) (way DONE (λ x. skip header_size (answer A.end)) ∷ []) (with_length b) u (omega (arith, counted-long b)) (apart (λ h. omega arith))
      ∙ rw n (took c (8 + length b) (λ x. answer (A.chunk (drop header_size x))) (id DATA ++ with_length b) u (omega (arith, sized DATA (with_length b) (4 + length b) (counted-long b))) h)
      ∙ answered c _ u
      ∙ ap (λ (z : List ℕ). ended (A.chunk z) u) (behind-head (id DATA) b (length b) (id_four DATA))
  reply-read of_transfer_end f e h =
      second_way d sound c least DONE DATA _ _ (zeros 4) u (omega arith) (apart (λ h. omega arith)) (apart (λ h. omega arith))
      ∙ skipped c 8 A.end _
      ∙ ap (ended A.end) (behind-header (id DONE) [] u 0 (id_four DONE))
  reply-read (of_okay t) f e h =
      first_way d sound c least OKAY _ [] (zeros 4) u (omega arith) (apart (λ h. omega arith))
      ∙ skipped c 8 A.done _
      ∙ ap (ended A.done) (behind-header (id OKAY) [] u 0 (id_four OKAY))
  reply-read (of_fail t (stat_reads path)) f e h = fail-in d sound c least (stat_ways v1) t u (ltb-true (length t) 0x1_0000_0000 e) h
  reply-read (of_fail t (stat2_reads path)) f e h = fail-in d sound c least (stat_ways v2) t u (ltb-true (length t) 0x1_0000_0000 e) h
  reply-read (of_fail t (step_reads v)) f e h = fail-in d sound c least (entry_ways v) t u (ltb-true (length t) 0x1_0000_0000 e) h
  reply-read (of_fail t chunk_reads) f e h = fail-in d sound c least chunk_ways t u (ltb-true (length t) 0x1_0000_0000 e) h
  reply-read (of_fail t (done_reads m)) f e h = fail-in d sound c least okay_ways t u (ltb-true (length t) 0x1_0000_0000 e) h
