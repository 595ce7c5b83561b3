-- Laws of composing: parts put one behind the other are one message. Assumes nothing.
use mathlib.Core.List.{List, [], ◌∷◌, ◌++◌, append_assoc, append-nil}
use mathlib.Core.Path.{◌≡◌, refl, sym, ap, ◌∙◌}
use Prim.Native.Nat.{ℕ, ◌+◌, ◌-◌, ◌%◌, ◌≤◌, ◌<◌}
use native.Mathlib.Decide.{dec_le}
use native.Mathlib.Nat.{zero-add, lt_of_not-le}
use native.Mathlib.Omega.{arith}
use borrow.Author.Tests.{le-leb, lt-leb}
use lib.ListN.{length, take, drop, length-append}
use lib.Seq.{take-append_seam}
use Rattle.std.specs.Prelude.{Option, Some, None}
use Rattle.decimal.proofs.Fitted.{fitted-in, fitted-out, end-fitted, some-none, some-some}
use Rattle.protocol.specs.Bytes.{over, put}
use Rattle.protocol.specs.Decimal.{decimal}
use Rattle.protocol.specs.Messages.{rcv2, send, snd2, word, comma, joined, message_of, bytes_of_request}
use Rattle.protocol.proofs.Bytes.{over-length, over-over, put_in, put-out, end_whole, end_back, end-put, length-bytes_of}
use Rattle.protocol.proofs.Messages.{word_low}
use Rattle.request_message.specs.Composed.{only, placed, begun}

pub header-bytes : (i : ℕ) (arg : ℕ) → length (word i ++ word arg) ≡ 8
header-bytes i arg = refl

-- the two cases of `placed` at the front, and of `begun`
module _ (b m : List ℕ) where
  pub placed-in : length m ≤ length b → (over b 0 m, Some (length m)) ≡ placed b 0 m
  placed-in h = let f : 0 + length m ≤ length b = omega arith in rw (put_in b 0 m f, fitted-in b 0 m f)

  pub placed-put : length m ≤ length b → (put b 0 m, Some (length m)) ≡ placed b 0 m
  placed-put h = let f : 0 + length m ≤ length b = omega arith in rw (fitted-in b 0 m f)

  pub placed-out : length b < length m → (b, None) ≡ placed b 0 m
  placed-out h = let f : length b < 0 + length m = omega arith in rw (put-out b 0 m f, fitted-out b 0 m f)

  pub begun-in : (rest : ℕ) → length m + rest ≤ length b → (over b 0 m, Some (length m)) ≡ begun b rest m
  unfolding begun
  begun-in rest h = simp (le-leb _ _ h)

  pub begun-out : (rest : ℕ) → length b < length m + rest → (b, None) ≡ begun b rest m
  unfolding begun
  begun-out rest h = simp (lt-leb _ _ h)

pub placed-none : (b : List ℕ) → (b, Some 0) ≡ placed b 0 []
unfolding over
placed-none b = placed-in b [] (omega arith)

-- what is put behind m is put with it
pub behind : (b m n : List ℕ) → length m + length n ≤ length b → put (over b 0 m) (length m) n ≡ over b 0 (m ++ n)
behind b m n h =
    let f : 0 + length m ≤ length b = omega arith in
    put_in (over b 0 m) (length m) n (rw (over-length b 0 m f) h) ∙ rw zero-add at (over-over b 0 m f n)

-- parts put one behind the other, from at on
abbrev pub puts : List ℕ → ℕ → List (List ℕ) → List ℕ
puts b at [] = b
puts b at (p ∷ ps) = puts (put b at p) (at + length p) ps

pub puts_over : (ps : List (List ℕ)) (b m : List ℕ) → length m + length (joined ps) ≤ length b
    → puts (over b 0 m) (length m) ps ≡ over b 0 (m ++ joined ps)
puts_over [] b m h = sym (rw append-nil)
puts_over (p ∷ ps) b m h =
    let l : length (p ++ joined ps) ≡ length p + length (joined ps) = length-append p (joined ps) in
    let e : length m + length p ≡ length (m ++ p) = sym (length-append m p) in
    rw (behind b m p (omega arith), e, ← append_assoc m p (joined ps)) (puts_over ps b (m ++ p) (omega arith))

pub puts_front : (ps : List (List ℕ)) (b : List ℕ) → length (joined ps) ≤ length b → puts b 0 ps ≡ over b 0 (joined ps)
unfolding over
puts_front ps b h = puts_over ps b [] (omega arith)

-- m was begun, with room behind it for the parts ps and rest bytes more
module _ (b m : List ℕ) (room : ℕ) (e : List ℕ) (o : Option ℕ) (q : (e, o) ≡ begun b room m) (ps : List (List ℕ)) (rest : ℕ) (l : room ≡ length (joined ps) + rest) where
  with-parts : length (m ++ joined ps) + rest ≡ length m + room
  with-parts = omega (arith, length-append m (joined ps))

  fits : length m + room ≤ length b → ◌≡◌ {A = List ℕ × Option ℕ} (e, o) (over b 0 m, Some (length m))
  fits f = q ∙ sym (begun-in b m room f)

  short : (length m + room ≤ length b → ⊥) → ◌≡◌ {A = List ℕ × Option ℕ} (e, o) (b, None)
  short f = q ∙ sym (begun-out b m room (lt_of_not-le f))

  -- it fits: the parts are put behind it
  pub go_on : (at : ℕ) → o ≡ Some at → (puts e at ps, Some (at + length (joined ps))) ≡ begun b rest (m ++ joined ps)
  go_on at n = go (dec_le (length m + room) (length b))
    where
      go : Dec (length m + room ≤ length b) → (puts e at ps, Some (at + length (joined ps))) ≡ begun b rest (m ++ joined ps)
      go (yes f) =
          let k : at ≡ length m = some-some (sym n ∙ ap (λ (s : List ℕ × Option ℕ). s.1) (fits f)) in
          let w : e ≡ over b 0 m = ap (λ (s : List ℕ × Option ℕ). s.0) (fits f) in
          rw (k, w, puts_over ps b m (omega arith), ← length-append m (joined ps)) (begun-in b (m ++ joined ps) rest (rw with-parts f))
      go (no f) = absurd (some-none (sym n ∙ ap (λ (s : List ℕ × Option ℕ). s.1) (short f)))

  -- it does not: nothing was altered
  pub stop : o ≡ None → (e, None) ≡ begun b rest (m ++ joined ps)
  stop n = go (dec_le (length m + room) (length b))
    where
      go : Dec (length m + room ≤ length b) → (e, None) ≡ begun b rest (m ++ joined ps)
      go (yes f) = absurd (some-none (sym (ap (λ (s : List ℕ × Option ℕ). s.1) (fits f)) ∙ n))
      go (no f) = ap (λ (s : List ℕ × Option ℕ). (s.0, None)) (short f) ∙ begun-out b (m ++ joined ps) rest (rw with-parts (lt_of_not-le f))

pub begun-within : (b m : List ℕ) (rest : ℕ) (e : List ℕ) (at : ℕ) → (e, Some at) ≡ begun b rest m → at ≤ length b
begun-within b m rest e at q = go (dec_le (length m + rest) (length b))
  where
    go : Dec (length m + rest ≤ length b) → at ≤ length b
    go (yes f) = let l = some-some (ap (λ (s : List ℕ × Option ℕ). s.1) (q ∙ sym (begun-in b m rest f))) in omega arith
    go (no f) = absurd (some-none (ap (λ (s : List ℕ × Option ℕ). s.1) (q ∙ sym (begun-out b m rest (lt_of_not-le f)))))

-- nothing more is to come: the message r is whole
pub begun-whole : (b m r : List ℕ) → m ≡ r → begun b 0 m ≡ placed b 0 r
begun-whole b m r e = go (dec_le (length m) (length b)) ∙ ap (placed b 0) e
  where
    go : Dec (length m ≤ length b) → begun b 0 m ≡ placed b 0 m
    go (yes f) = sym (begun-in b m 0 (omega arith)) ∙ placed-in b m f
    go (no f) = sym (begun-out b m 0 (omega (arith, lt_of_not-le f))) ∙ placed-out b m (lt_of_not-le f)

-- a header that fits, as code puts it
pub header-puts : (b : List ℕ) (i : ℕ) (arg : ℕ) → 8 ≤ length b → (put (put b 0 (word i)) 4 (word arg), Some 8) ≡ placed b 0 (word i ++ word arg)
header-puts b i arg h =
    let f = length-bytes_of 4 i in
    let l = header-bytes i arg in
    let e : 0 + length (word i) ≡ 4 = omega arith in
    rw (rw e at (puts_front (word i ∷ word arg ∷ []) b (omega arith))) (rw l at (placed-in b (word i ++ word arg) (omega arith)))

-- what stands at the front when a message is begun: eight bytes of header, and what is lent
pub front_bytes : (i : ℕ) (arg : ℕ) (lent : List ℕ) → length (word i ++ word arg ++ lent) ≡ 8 + length lent
front_bytes i arg lent = length-append (word i ++ word arg) lent ∙ ap (λ (n : ℕ). n + length lent) (header-bytes i arg)

pub begin-puts : (b : List ℕ) (i : ℕ) (count : ℕ) (lent : List ℕ) (rest : ℕ) (e : List ℕ) (r : Option ℕ)
    → (e, r) ≡ placed b 0 (word i ++ word (count % 0x1_0000_0000)) → 8 + rest + length lent ≤ length b
    → (put e 8 lent, Some (8 + length lent)) ≡ begun b rest (word i ++ word count ++ lent)
begin-puts b i count lent rest e r q h =
    let m : List ℕ = word i ++ word count in
    let l : length m ≡ 8 = header-bytes i count in
    let f = front_bytes i count lent in
    let w = q ∙ ap (λ l. placed b 0 (word i ++ l)) (word_low count) ∙ sym (placed-in b m (omega arith)) in
    ap (λ (s : List ℕ × Option ℕ). (put s.0 8 lent, Some (8 + length lent))) w
    ∙ rw (rw l at (behind b m lent (omega arith))) (rw f at (begun-in b (m ++ lent) rest (omega arith)))

-- an id and a word behind what was begun, as code puts them
module _ (b m : List ℕ) (e : List ℕ) (o : Option ℕ) (rest : ℕ) (q : (e, o) ≡ begun b (8 + rest) m) (i : ℕ) (x : ℕ) where
  v2_room : 8 + rest ≡ length (word i ++ word x) + rest
  v2_room = ap (λ (n : ℕ). n + rest) (sym (header-bytes i x))

  pub v2_puts : (at : ℕ) → o ≡ Some at → (put (put e at (word i)) (at + 4) (word x), Some (at + 8)) ≡ begun b rest (m ++ (word i ++ word x))
  v2_puts at n = rw (header-bytes i x, length-bytes_of 4 i) at (go_on b m (8 + rest) e o q (word i ∷ word x ∷ []) rest v2_room at n)

  pub v2_stop : o ≡ None → (e, None) ≡ begun b rest (m ++ (word i ++ word x))
  v2_stop = stop b m (8 + rest) e o q (word i ∷ word x ∷ []) rest v2_room

-- what was placed in a buffer of its own, read back
pub placed-read : (z d e : List ℕ) (o : Option ℕ) → (e, o) ≡ placed z 0 d → length d ≤ length z → (o ≡ Some (length d)) × (take (length d) e ≡ d)
unfolding over
placed-read z d e o q h =
    let w = q ∙ sym (placed-in z d h) in
    (ap (λ (s : List ℕ × Option ℕ). s.1) w, rw (ap (λ (s : List ℕ × Option ℕ). s.0) w) (take-append_seam d (drop (0 + length d) z)))

-- the bytes of a request, as code puts them one behind the other
pub rcv2-bytes : (i : ℕ) (p : List ℕ) (f : ℕ) → word i ++ word (length p) ++ p ++ (word i ++ word f) ≡ bytes_of_request (only i) (rcv2 p f)
unfolding bytes_of_request message_of
rcv2-bytes i p f = append_assoc (word i ++ word (length p)) p (word i ++ word f)

pub snd2-bytes : (i : ℕ) (p : List ℕ) (m f : ℕ)
    → word i ++ word (length p) ++ p ++ (word i ++ word m) ++ word f ≡ bytes_of_request (only i) (snd2 p m f)
unfolding bytes_of_request message_of
snd2-bytes i p m f =
    append_assoc (word i ++ word (length p) ++ p) (word i ++ word m) (word f)
    ∙ append_assoc (word i ++ word (length p)) p (word i ++ word m ++ word f)

pub send-bytes : (i : ℕ) (p : List ℕ) (m : ℕ) (d : List ℕ) → d ≡ decimal m
    → word i ++ word (length p + (1 + length d)) ++ p ++ (comma ++ d) ≡ bytes_of_request (only i) (send p m)
unfolding bytes_of_request message_of
send-bytes i p m d e =
    let n : length p + (1 + length (decimal m)) ≡ length p + 1 + length (decimal m) = omega arith in
    rw (e, n, append-nil) (append_assoc (word i ++ word (length p + 1 + length (decimal m))) p (comma ++ decimal m))

-- nothing is placed from past the end on
pub placed_past : (b : List ℕ) (t : ℕ) (m : List ℕ) → length b < t → (b, None) ≡ placed b t m
placed_past b t m h = let f : length b < t + length m = omega arith in rw (put-out b t m f, fitted-out b t m f)

-- what is placed at the front of the end from t on, lent and come back, is placed from t on
pub placed_end : (b : List ℕ) (t : ℕ) → t ≤ length b → (m e : List ℕ) (n : Option ℕ) → (e, n) ≡ placed (take (length b - t) (drop t b)) 0 m
    → (take t b ++ (e ++ drop (length b - t) (drop t b)), n) ≡ placed b t m
placed_end b t w m e n q =
    let s = q ∙ ap (λ l. placed l 0 m) (end_whole b t w) in
    rw (end_back b t w e, ← end-put b t w m, ← end-fitted b t w m) (ap (λ (p : List ℕ × Option ℕ). (take t b ++ p.0, p.1)) s)
