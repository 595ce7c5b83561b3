-- Bytes: texts, numbers with the lowest byte first ("all binary integers are Little-Endian", SYNC.TXT), bytes put over others.
-- Assumes nothing.
use Rattle.std.specs.Prelude.{ℕ, zero, suc, ◌+◌, ◌-◌, ◌*◌, ◌/◌, ◌%◌, ◌<◌, Bool, true, false, ◌&&◌, List, [], ◌∷◌, ◌++◌, eqb, leb, ltb, ℤ, pos, negsuc, length, get_or, take, drop}
use Prim.Native.Char.{code}
use Prim.Native.String.{String}
use Prim.Native.String as Text

-- a if the test holds, b if not
abbrev pub pick {ℓ} : {A : Type ℓ} → Bool → A → A → A
pick true a b = a
pick false a b = b

-- every element is a byte
abbrev pub Bytes : List ℕ → Type 0
Bytes s = (i : ℕ) → get_or s i 0 < 256

-- the bytes of an ASCII text
abbrev pub ascii : String → List ℕ
ascii Text.[] = []
ascii (Text.◌∷◌ c t) = code c ∷ ascii t

-- whether two lists are the same
abbrev pub same : List ℕ → List ℕ → Bool
same [] [] = true
same [] (y ∷ ys) = false
same (x ∷ xs) [] = false
same (x ∷ xs) (y ∷ ys) = eqb x y && same xs ys

-- whether x stands in a list
abbrev pub has : ℕ → List ℕ → Bool
has x [] = false
has x (y ∷ ys) = pick (eqb y x) true (has x ys)

-- the number that some bytes spell, the lowest first
abbrev pub le : List ℕ → ℕ
le [] = 0
le (x ∷ xs) = x + 256 * le xs

-- the k low bytes of x, the lowest first
abbrev pub bytes_of : ℕ → ℕ → List ℕ
bytes_of zero x = []
bytes_of (suc k) x = x % 256 ∷ bytes_of k (x / 256)

-- the number that the k bytes from off on spell
unfoldable pub number_at : ℕ → ℕ → List ℕ → ℕ
number_at k off s = le (take k (drop off s))

-- 64 bits as a signed number: two's complement
unfoldable pub signed : ℕ → ℤ
signed x = pick (ltb x 0x8000_0000_0000_0000) (pos x) (negsuc (0xffff_ffff_ffff_ffff - x))

-- the n bytes from off on, as f reads them; z where they are not all there
abbrev pub whole : {A : Type 0} → ℕ → A → (List ℕ → A) → List ℕ → ℕ → A
whole n z f s off = pick (leb (off + n) (length s)) (f (drop off s)) z

-- b with m over what stands from at on
unfoldable pub over : List ℕ → ℕ → List ℕ → List ℕ
over b at m = take at b ++ m ++ drop (at + length m) b

-- ... where it fits, the end of b included; b as it was where not
unfoldable pub put : List ℕ → ℕ → List ℕ → List ℕ
put b at m = pick (leb (at + length m) (length b)) (over b at m) b

-- how many bytes were put: 0 where they do not fit
unfoldable pub put_length : List ℕ → ℕ → List ℕ → ℕ
put_length b at m = pick (leb (at + length m) (length b)) (length m) 0
