-- Laws of `specs/Places.antt` for the loops: one group more, and four bytes by the number that they spell. Assumes nothing.
use mathlib.Core.Bool.{Bool, true, false, ◌&&◌, and-true}
use mathlib.Core.List.{List, [], ◌∷◌, map}
use mathlib.Core.Path.{◌≡◌, refl, sym, ap, ap₂, ◌∙◌}
use Prim.Native.Nat.{ℕ, zero, suc, ◌+◌, ◌-◌, ◌*◌, ◌/◌, ◌≤◌, ◌<◌}
use native.Mathlib.Decide.{ℕ_discrete}
use native.Mathlib.Numerals.{add-one}
use native.Mathlib.Omega.{arith}
use borrow.Author.Tests.{eq-eqb, ne_eqb}
use lib.Dec.{eqb}
use lib.ListN.{length, take, drop, get_or, length-drop, drop_of_length-le}
use lib.Seq.{drop-cons, drop-drop, get_or-drop, length-take-le}
use Rattle.protocol.specs.Bytes.{Bytes, same, le, bytes_of, number_at, whole, over, put}
use Rattle.protocol.specs.Ids.{is_letter, is_value}
use Rattle.protocol.specs.Messages.{joined}
use Rattle.protocol.specs.Records.{u32_at}
use Rattle.protocol.proofs.Bytes.{same_refl, same-eq, bytes_of-le, bytes-head, bytes-tail, bytes_drop, whole_in, over-over, put_in, end_whole}
use Rattle.protocol.proofs.Records.{id-in}
use Rattle.text_lines.specs.Lines.{comma, line_end}
use Rattle.std.specs.Simd.{first_chunks}
use Rattle.std.proofs.lemmas.List.{take-take}
use Rattle.id_table.specs.IdsFile.{count}
use Rattle.id_table.specs.Places.{groups, marked, line_size, file_size}

-- the first of the groups that are left, and the others
pub groups-next : (step n : ℕ) (s : List ℕ) (at : ℕ) → 0 < n
    → groups step n (drop at s) ≡ take 4 (drop at s) ∷ groups step (n - 1) (drop (at + step) s)
unfolding groups
groups-next step zero s at h = absurd (omega arith)
groups-next step (suc n) s at h = let e : suc n - 1 ≡ n = omega arith in rw (e, drop-drop step at s)

pub groups_none : (step n : ℕ) (s : List ℕ) → n ≤ 0 → groups step n s ≡ []
unfolding groups
groups_none step zero s h = refl
groups_none step (suc n) s h = absurd (omega arith)

pub marked_next : (n : ℕ) (s : List ℕ) (at : ℕ) → 1 < n
    → marked n (drop at s) ≡ eqb (get_or s (at + 4) 0) comma && marked (n - 1) (drop (at + 5) s)
unfolding marked
marked_next zero s at h = absurd (omega arith)
marked_next (suc zero) s at h = absurd (omega arith)
marked_next (suc (suc n)) s at h = let e : suc (suc n) - 1 ≡ suc n = omega arith in rw (e, drop-drop 5 at s, get_or-drop at s 4 0)

pub marked-last : (n : ℕ) (s : List ℕ) (at : ℕ) → n ≡ 1 → marked n (drop at s) ≡ eqb (get_or s (at + 4) 0) line_end
unfolding marked
marked-last n s at h = rw (h, get_or-drop at s 4 0)

-- as many bytes are the same where their numbers are
le-eq : (a b : List ℕ) → length a ≡ length b → Bytes a → Bytes b → le a ≡ le b → a ≡ b
le-eq a b l p q e = cc (bytes_of-le a p, bytes_of-le b q)

same_number : (a b : List ℕ) → length a ≡ length b → Bytes a → Bytes b → same a b ≡ eqb (le a) (le b)
same_number a b l p q = go (ℕ_discrete (le a) (le b)) (same a b) refl
  where
    go : Dec (le a ≡ le b) → (t : Bool) → same a b ≡ t → same a b ≡ eqb (le a) (le b)
    go (yes h) t e = rw (eq-eqb _ _ h, le-eq a b l p q h) (same_refl b)
    go (no f) true e = absurd (f (ap le (same-eq a b e)))
    go (no f) false e = rw (ne_eqb _ _ f) e

bytes_take : (n : ℕ) (s : List ℕ) → Bytes s → Bytes (take n s)
bytes_take zero s b i = omega arith
bytes_take (suc n) [] b i = omega arith
bytes_take (suc n) (x ∷ s) b zero = bytes-head x s b
bytes_take (suc n) (x ∷ s) b (suc i) = bytes_take n s (bytes-tail x s b) i

pub length-four : (s : List ℕ) (at : ℕ) → at + 4 ≤ length s → length (take 4 (drop at s)) ≡ 4
length-four s at h = length-take-le 4 (drop at s) (omega (arith, length-drop at s))

-- four bytes and their number
pub word_in : (s : List ℕ) (at : ℕ) → at + 4 ≤ length s → whole 4 0 (u32_at 0) s at ≡ le (take 4 (drop at s))
unfolding number_at
word_in s at h = whole_in 4 0 (u32_at 0) s at h

pub same-words : (s t : List ℕ) (i j : ℕ) → Bytes s → Bytes t → i + 4 ≤ length s → j + 4 ≤ length t
    → same (take 4 (drop i s)) (take 4 (drop j t)) ≡ eqb (whole 4 0 (u32_at 0) s i) (whole 4 0 (u32_at 0) t j)
same-words s t i j p q h k =
    rw (word_in s i h, word_in t j k)
    (same_number (take 4 (drop i s)) (take 4 (drop j t)) (length-four s i h ∙ sym (length-four t j k))
    (bytes_take 4 (drop i s) (bytes_drop i s p)) (bytes_take 4 (drop j t) (bytes_drop j t q)))

pub word_back : (s : List ℕ) (at : ℕ) → Bytes s → at + 4 ≤ length s → bytes_of 4 (whole 4 0 (u32_at 0) s at) ≡ take 4 (drop at s)
word_back s at p h =
    let b = bytes_of-le (take 4 (drop at s)) (bytes_take 4 (drop at s) (bytes_drop at s p)) in
    rw (word_in s at h) (rw (length-four s at h) at b)

-- values put one behind the other
pub over-next : (b : List ℕ) (at : ℕ) (v : List ℕ) (vs : List (List ℕ)) → length v ≡ 4 → at + 4 ≤ length b
    → over (over b at v) (at + 4) (joined vs) ≡ over b at (joined (v ∷ vs))
over-next b at v vs e h = rw (← e) (over-over b at v (omega arith) (joined vs))

-- one value more is copied
pub copied_next : (b d s : List ℕ) (to at n x : ℕ) → Bytes s → 0 < n → at + 5 * n ≤ length s → to + 4 * n ≤ length b
    → x ≡ whole 4 0 (u32_at 0) s at → d ≡ put b to (bytes_of 4 x)
    → over d (to + 4) (joined (groups 5 (n - 1) (drop (at + 5) s))) ≡ over b to (joined (groups 5 n (drop at s)))
copied_next b d s to at n x p h f g e i =
    let four = length-four s at (omega arith) in
    let word : bytes_of 4 x ≡ take 4 (drop at s) = ap (bytes_of 4) e ∙ word_back s at p (omega arith) in
    let put-there : d ≡ over b to (take 4 (drop at s)) = i ∙ rw word (put_in b to (take 4 (drop at s)) (omega arith)) in
    rw (put-there, groups-next 5 n s at h) (over-next b to (take 4 (drop at s)) (groups 5 (n - 1) (drop (at + 5) s)) four (omega arith))

-- a value, byte by byte
pub value_in : (s : List ℕ) (at : ℕ) → at + 4 ≤ length s
    → is_value (take 4 (drop at s))
    ≡ is_letter (get_or s at 0) && (is_letter (get_or s (at + 1) 0) && (is_letter (get_or s (at + 2) 0) && is_letter (get_or s (at + 3) 0)))
value_in s at h = rw (id-in s at h, and-true)

-- the first four bytes of each piece, as groups
pub chunk-groups : (step n : ℕ) (s : List ℕ) → 4 ≤ step → map (take 4) (first_chunks step n s) ≡ groups step n s
unfolding groups
chunk-groups step zero s h = refl
chunk-groups step (suc n) s h = ap₂ (λ (x : List ℕ) (xs : List (List ℕ)). x ∷ xs) (take-take 4 step s h) (chunk-groups step n (drop step s) h)

-- ... of the settings, and of a file's second line
pub settings-groups : (s : List ℕ) → length s ≡ 128 → map (take 4) (take count (first_chunks 4 (length s / 4) s)) ≡ groups 4 count s
settings-groups s e = rw e (chunk-groups 4 count s (omega arith))

pub line-count : (f : List ℕ) → length f ≡ file_size → length (take (length f - line_size) (drop line_size f)) / 5 ≡ count
line-count f e = rw (end_whole f line_size (omega arith)) (omega (arith, length-drop line_size f))

pub line-groups : (f : List ℕ) → length f ≡ file_size
    → map (take 4) (first_chunks 5 (length (take (length f - line_size) (drop line_size f)) / 5) (take (length f - line_size) (drop line_size f))) ≡ groups 5 count (drop line_size f)
line-groups f e =
    let n : length (drop line_size f) / 5 ≡ count = omega (arith, length-drop line_size f) in
    rw (end_whole f line_size (omega arith), n) (chunk-groups 5 count (drop line_size f) (omega arith))

-- the i-th and those behind it
pub fours-next : (ids : List (List ℕ)) (i : ℕ) (d : List ℕ) → i < length ids
    → map (take 4) (drop i ids) ≡ take 4 (get_or ids i d) ∷ map (take 4) (drop (i + 1) ids)
fours-next ids i d h = rw (drop-cons ids i d h, add-one)

pub fours_none : (ids : List (List ℕ)) (i : ℕ) → length ids ≤ i → map (take 4) (drop i ids) ≡ []
fours_none ids i h = rw (drop_of_length-le ids {i = i} h)
