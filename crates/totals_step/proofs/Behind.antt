-- The five numbers behind a session's bytes: as they are read, and one of them put. Assumes nothing.
use Rattle.std.proofs.Common.{◌≡◌, ℕ, ◌+◌, ◌-◌, ◌*◌, ◌%◌, ◌<◌, ◌≤◌, List, [], ◌∷◌, ◌++◌, length, take, drop, set, sym, ap, ◌∙◌, ap₂, append_assoc, add_assoc, lt_of_not-le, arith, length-append, take-append-drop, length-take-le}
use native.Mathlib.Decide.{dec_le}
use lib.Seq.{take-append-add, drop-append-add}
use Rattle.protocol.specs.Bytes.{Bytes, bytes_of, over, put}
use Rattle.protocol.proofs.Bytes.{put_in, length-bytes_of}
use Rattle.protocol.proofs.Words.{number-below}
use Rattle.record.specs.Record.{words, word_of, size}
use Rattle.record.proofs.Words.{length-words, put_next, put_whole, put_word, numbers_from, words-from}
use Rattle.boundary.specs.Heard.{heard}
use Rattle.totals.specs.Crossing.{record_size, received_of, consumed_of, written_of, asked_of, reads_of, limit, piece_asked, totalling}
use Rattle.totals.proofs.Behind.{held_of, bytes-wrapped, totalling-is, in_front_lem, whole-received, whole-asked, whole-reads}
use Rattle.totals_step.specs.Settled.{asked_by, consumed_in, settled_by, finished_by}
use Rattle.totals_step.proofs.Asked.{asks-alike, asks_none, asks-new}

-- what stands behind a session's bytes are its five numbers
own-words : (rec : List ℕ) → length rec ≡ record_size → Bytes rec
    → drop size rec ≡ words (received_of rec ∷ consumed_of rec ∷ written_of rec ∷ asked_of rec ∷ reads_of rec ∷ [])
unfolding numbers_from
own-words rec e b = words-from rec b 5 32 (omega arith)

-- what is put behind some bytes
pub put-behind : (x w m : List ℕ) (k off : ℕ) → length x + k ≡ off → k + length m ≤ length w → put (x ++ w) off m ≡ x ++ put w k m
unfolding over
put-behind x w m k off e fits =
    let a : length (x ++ w) ≡ length x + length w = length-append x w in
    put_in (x ++ w) off m (omega arith)
    ∙ rw (← e, put_in w k m fits, take-append-add x w k, add_assoc (length x) k (length m), drop-append-add x w (k + length m)) (simp append_assoc)

-- the i-th number behind a session's bytes
put-number : (x ns : List ℕ) (i t off : ℕ) → length x ≡ size → i < length ns → size + 8 * i ≡ off → put (x ++ words ns) off (bytes_of 8 t) ≡ x ++ words (set ns i t)
put-number x ns i t off e h f =
    put-behind x (words ns) (bytes_of 8 t) (8 * i) off (omega arith) (omega (arith, length-words ns, length-bytes_of 8 t))
    ∙ ap (λ (l : List ℕ). x ++ l) (put_word ns i t h)

module _ (x : List ℕ) (e : length x ≡ size) (r d n a k t : ℕ) where
  put-received : put (x ++ words (r ∷ d ∷ n ∷ a ∷ k ∷ [])) 256 (bytes_of 8 t) ≡ x ++ words (t ∷ d ∷ n ∷ a ∷ k ∷ [])
  put-received = put-number x (r ∷ d ∷ n ∷ a ∷ k ∷ []) 0 t 256 e (omega arith) (omega arith)

  put-consumed : put (x ++ words (r ∷ d ∷ n ∷ a ∷ k ∷ [])) 264 (bytes_of 8 t) ≡ x ++ words (r ∷ t ∷ n ∷ a ∷ k ∷ [])
  put-consumed = put-number x (r ∷ d ∷ n ∷ a ∷ k ∷ []) 1 t 264 e (omega arith) (omega arith)

  put_written : put (x ++ words (r ∷ d ∷ n ∷ a ∷ k ∷ [])) 272 (bytes_of 8 t) ≡ x ++ words (r ∷ d ∷ t ∷ a ∷ k ∷ [])
  put_written = put-number x (r ∷ d ∷ n ∷ a ∷ k ∷ []) 2 t 272 e (omega arith) (omega arith)

  put-asked : put (x ++ words (r ∷ d ∷ n ∷ a ∷ k ∷ [])) 280 (bytes_of 8 t) ≡ x ++ words (r ∷ d ∷ n ∷ t ∷ k ∷ [])
  put-asked = put-number x (r ∷ d ∷ n ∷ a ∷ k ∷ []) 3 t 280 e (omega arith) (omega arith)

  put_reads : put (x ++ words (r ∷ d ∷ n ∷ a ∷ k ∷ [])) 288 (bytes_of 8 t) ≡ x ++ words (r ∷ d ∷ n ∷ a ∷ t ∷ [])
  put_reads = put-number x (r ∷ d ∷ n ∷ a ∷ k ∷ []) 4 t 288 e (omega arith) (omega arith)

-- a record is its session's bytes and its five numbers
split : (rec : List ℕ) → length rec ≡ record_size → Bytes rec
    → rec ≡ take size rec ++ words (received_of rec ∷ consumed_of rec ∷ written_of rec ∷ asked_of rec ∷ reads_of rec ∷ [])
split rec e b = sym (take-append-drop size rec) ∙ ap (λ (l : List ℕ). take size rec ++ l) (own-words rec e b)

-- the piece that was last asked, put back as it was
again : (rec : List ℕ) (t : ℕ) → length rec ≡ record_size → Bytes rec
    → put (put rec 264 (bytes_of 8 t)) 280 (bytes_of 8 (asked_of rec)) ≡ put rec 264 (bytes_of 8 t)
again rec t e b =
    let x : List ℕ = take size rec in
    let f : length x ≡ size = length-take-le size rec (omega arith) in
    let r = received_of rec in
    let d = consumed_of rec in
    let n = written_of rec in
    let a = asked_of rec in
    let k = reads_of rec in
    let one : put rec 264 (bytes_of 8 t) ≡ x ++ words (r ∷ t ∷ n ∷ a ∷ k ∷ []) =
    ap (λ (l : List ℕ). put l 264 (bytes_of 8 t)) (split rec e b) ∙ put-consumed x f r d n a k t in
    ap (λ (l : List ℕ). put l 280 (bytes_of 8 a)) one ∙ put-asked x f r t n a k a ∙ sym one

-- a sum less another number, of which 64 bits are kept
pub wraps : (r h t d : ℕ) → r < limit → h < limit → t < limit → d < limit → (d + t) % limit ≡ (r + h) % limit → bytes_of 8 d ≡ bytes_of 8 (limit + r + h - t)
wraps r h t d p q u v e = go (dec_le limit (limit + r + h - t)) (dec_le (limit + limit) (limit + r + h - t))
  where
    go : Dec (limit ≤ limit + r + h - t) → Dec (limit + limit ≤ limit + r + h - t) → bytes_of 8 d ≡ bytes_of 8 (limit + r + h - t)
    go a (yes b) =
        let f : limit + (limit + d) ≡ limit + r + h - t = omega arith in
        sym (bytes-wrapped (limit + d) ∙ bytes-wrapped d) ∙ ap (bytes_of 8) f
    go (yes a) (no b) =
        let k = lt_of_not-le b in
        let f : limit + d ≡ limit + r + h - t = omega arith in
        sym (bytes-wrapped d) ∙ ap (bytes_of 8) f
    go (no a) (no b) =
        let k = lt_of_not-le a in
        let f : d ≡ limit + r + h - t = omega arith in
        ap (bytes_of 8) f

-- what the code settles: consumed alone where nothing is asked to be written, else both
module _ {y : List ℕ} (rec : List ℕ) (m : ℕ) (out : List ℕ) (p : y ≡ consumed_in rec) where
  pub settled-one : length rec ≡ record_size → Bytes rec → m % 256 < 2 → y ≡ settled_by rec m out
  unfolding consumed_in settled_by
  settled-one f b h = p ∙ rw (asks_none m out (asked_of rec) h) (sym (again rec (limit + received_of rec + word_of rec 2 - word_of rec 3) f b))

  pub settled-two : {z : List ℕ} {a : ℕ} → 2 ≤ m % 256 → a ≡ asked_by m out 0 → z ≡ put y 280 (bytes_of 8 a) → z ≡ settled_by rec m out
  unfolding settled_by
  settled-two h f q = q ∙ rw (p, f, asks-new m out 0 (asked_of rec) h)

-- what a step leaves, on a record whose session is x then, with k reads of the call
settles : {y z : List ℕ} {j : ℕ} (x : List ℕ) → length x ≡ size → (r d n a i k m : ℕ) (out rx msg : List ℕ) → r < limit → a < limit
    → y ≡ x ++ words (r ∷ d ∷ n ∷ a ∷ i ∷ []) → j ≡ k → z ≡ finished_by y m j out → z ≡ totalling x r n (piece_asked (heard m out rx msg) a) k
unfolding consumed_in settled_by finished_by
settles x e r d n a i k m out rx msg l h f g p =
    let own : List ℕ = words (r ∷ d ∷ n ∷ a ∷ k ∷ []) in
    let left : ℕ = limit + r + word_of x 2 - word_of x 3 in
    p
    ∙ ap (λ (l : List ℕ). settled_by l m out) (ap₂ (λ (l : List ℕ) (j : ℕ). put l 288 (bytes_of 8 j)) f g ∙ put_reads x e r d n a i k)
    ∙ rw (
      whole-received x e r d n a k l,
      in_front_lem x own e 2 (omega arith),
      in_front_lem x own e 3 (omega arith),
      whole-asked x e r d n a k h,
      put-consumed x e r d n a k left,
      put-asked x e r left n a k (asked_by m out a),
      asks-alike m out rx msg a,
    )

module _ (rec : List ℕ) (here : length rec ≡ record_size) (bytes : Bytes rec) (x : List ℕ) (e : length x ≡ size) where
  behind : x ++ drop size rec ≡ x ++ words (received_of rec ∷ consumed_of rec ∷ written_of rec ∷ asked_of rec ∷ reads_of rec ∷ [])
  behind = ap (λ (l : List ℕ). x ++ l) (own-words rec here bytes)

  received-below : received_of rec < limit
  received-below = number-below 8 rec 256 bytes

  asked-below : asked_of rec < limit
  asked-below = number-below 8 rec 280 bytes

  pub reads-below : reads_of rec < limit
  reads-below = number-below 8 rec 288 bytes

  -- a step of the session, and a number written, leave the reads
  pub reads_kept : reads_of (x ++ drop size rec) ≡ reads_of rec
  reads_kept = ap reads_of behind ∙ whole-reads x e (received_of rec) (consumed_of rec) (written_of rec) (asked_of rec) (reads_of rec) reads-below

  written-put : {w n : ℕ} {y : List ℕ} → w ≡ n → y ≡ put (x ++ drop size rec) 272 (bytes_of 8 w) → y ≡ x ++ words (received_of rec ∷ consumed_of rec ∷ n ∷ asked_of rec ∷ reads_of rec ∷ [])
  written-put {n = n} f q =
      q
      ∙ ap₂ (λ (l : List ℕ) (i : ℕ). put l 272 (bytes_of 8 i)) behind f
      ∙ put_written x e (received_of rec) (consumed_of rec) (written_of rec) (asked_of rec) (reads_of rec) n

  pub reads-beside : {w n : ℕ} {y : List ℕ} → w ≡ n → y ≡ put (x ++ drop size rec) 272 (bytes_of 8 w) → reads_of y ≡ reads_of rec
  reads-beside {n = n} f q =
      ap reads_of (written-put f q) ∙ whole-reads x e (received_of rec) (consumed_of rec) n (asked_of rec) (reads_of rec) reads-below

  module _ (k m : ℕ) (out rx msg : List ℕ) where
    abbrev now_asked : ℕ
    now_asked = piece_asked (heard m out rx msg) (asked_of rec)

    -- nothing is added, or another number received or written
    pub settles-same : {z : List ℕ} {j : ℕ} → j ≡ k → z ≡ finished_by (x ++ drop size rec) m j out → z ≡ totalling x (received_of rec) (written_of rec) now_asked k
    settles-same g p =
        settles x e (received_of rec) (consumed_of rec) (written_of rec) (asked_of rec) (reads_of rec) k m out rx msg received-below asked-below behind g p

    pub settles-read : {c r j : ℕ} {y z : List ℕ} → c ≡ r → r < limit → y ≡ put (x ++ drop size rec) 256 (bytes_of 8 c) → j ≡ k → z ≡ finished_by y m j out
        → z ≡ totalling x r (written_of rec) now_asked k
    settles-read {r = r} f h q g p =
        settles x e r (consumed_of rec) (written_of rec) (asked_of rec) (reads_of rec) k m out rx msg h asked-below
        (q
        ∙ ap₂ (λ (l : List ℕ) (i : ℕ). put l 256 (bytes_of 8 i)) behind f
        ∙ put-received x e (received_of rec) (consumed_of rec) (written_of rec) (asked_of rec) (reads_of rec) r) g p

    pub settles-wrote : {w n j : ℕ} {y z : List ℕ} → w ≡ n → y ≡ put (x ++ drop size rec) 272 (bytes_of 8 w) → j ≡ k → z ≡ finished_by y m j out
        → z ≡ totalling x (received_of rec) n now_asked k
    settles-wrote {n = n} f q g p =
        settles x e (received_of rec) (consumed_of rec) n (asked_of rec) (reads_of rec) k m out rx msg received-below asked-below (written-put f q) g p

-- all numbers 0, where the session holds nothing
pub put-none : {y z : List ℕ} (x w : List ℕ) → length x ≡ size → length w ≡ 40 → word_of x 2 ≡ word_of x 3 → y ≡ put (x ++ w) 256 (words (0 ∷ 0 ∷ 0 ∷ 0 ∷ []))
    → z ≡ put y 288 (words (0 ∷ [])) → z ≡ totalling x 0 0 0 0
put-none x w e f g p q =
    let h : 0 - held_of x ≡ 0 = omega arith in
    put_next (x ++ w) 256 288 (0 ∷ 0 ∷ 0 ∷ 0 ∷ []) (0 ∷ []) p q (omega arith) (omega (arith, length-append x w))
    ∙ put-behind x w (words (0 ∷ 0 ∷ 0 ∷ 0 ∷ 0 ∷ [])) 0 256 (omega arith) (omega arith)
    ∙ ap (λ (l : List ℕ). x ++ l) (put_whole w (words (0 ∷ 0 ∷ 0 ∷ 0 ∷ 0 ∷ [])) f)
    ∙ ap (λ (i : ℕ). x ++ words (0 ∷ i ∷ 0 ∷ 0 ∷ 0 ∷ [])) (sym h)
    ∙ sym (totalling-is x 0 0 0 0 (omega arith) (omega arith))
