-- A FAIL at the plain reader: all of it is dropped, whatever the capacity, and the text is its first bytes, cut at the capacity; or it
-- is not all there, and the reader falls short. Assumes nothing.
use Prim.Native.Nat.{ℕ, zero, suc, ◌+◌, ◌-◌, ◌≤◌, ◌<◌, min}
use mathlib.Core.List.{List}
use mathlib.Core.Path.{◌≡◌, refl, ap, ◌∙◌}
use native.Mathlib.Decide.{dec_le}
use native.Mathlib.Omega.{arith}
use lib.ListN.{length, take, drop, length-drop}
use lib.Seq.{drop_at, take-add, take-take, length-take-le, drop-drop}
use Rattle.protocol.specs.Answers.{Answer, fail}
use Rattle.protocol.specs.Bytes.{number_at, le}
use Rattle.protocol.specs.Reader.{Prog, skip, Result, ended, short, plain, drain, failing, taking}
use Rattle.protocol.specs.Records.{arg_at, header_size}
use Rattle.protocol_readers.proofs.Needs.{plain-go, plain-short, drain-none, drain-some}

-- the length in a header that is there is the one at the front of all the bytes unread
pub arg-taken : (u : List ℕ) → header_size ≤ length u → arg_at (take header_size u) ≡ arg_at u
unfolding number_at
arg-taken u h =
    ap (λ (y : List ℕ). le (take 4 (drop 4 y))) (take-add 4 4 u)
    ∙ ap (λ (y : List ℕ). le (take 4 y)) (drop_at (take 4 u) (take 4 (drop 4 u)) 4 (length-take-le 4 u (omega arith)))
    ∙ ap le (take-take 4 4 (drop 4 u) (omega arith))

-- The first l bytes of u were dropped, with the answer a; or u has not so many.
pub data Dropped (a : Answer) (l : ℕ) (u : List ℕ) (r : Result) : Type 0 where
  all : l ≤ length u → r ≡ ended a (drop l u) → Dropped a l u r
  part : length u < l → (n : ℕ) (v : List ℕ) → r ≡ short n v → Dropped a l u r

-- n of the l bytes are needed and dropped, then the rest
taking-drops : (c n l : ℕ) (k : List ℕ → Prog) (a : Answer) (u : List ℕ) → n ≤ c → n ≤ l
    → Dropped a (l - n) (drop n u) (plain c (k (take n u)) (drop n u)) → Dropped a l u (plain c (taking n k) u)
unfolding plain
taking-drops c n l k a u h i rest = go (dec_le n (length u)) rest
  where
    k' : List ℕ → Prog
    k' y = skip n (k y)

    go : Dec (n ≤ length u) → Dropped a (l - n) (drop n u) (plain c (k (take n u)) (drop n u)) → Dropped a l u (plain c (taking n k) u)
    go (yes m) (all j e) =
        let z : n + (l - n) ≡ l = omega arith in
        all (omega (arith, length-drop n u)) (plain-go c n k' u h m ∙ e ∙ ap (ended a) (drop-drop (l - n) n u ∙ ap (λ (i : ℕ). drop i u) z))
    go (yes m) (part j i v e) = part (omega (arith, length-drop n u)) i v (plain-go c n k' u h m ∙ e)
    go (no f) r = part (omega arith) n u (plain-short c n k' u h (omega arith))

drain-drops : (c f left : ℕ) (t u : List ℕ) → 1 ≤ c → left ≤ f → Dropped (fail t) left u (plain c (drain c f left t) u)
drain-drops c zero left t u p h = let z : left ≡ 0 = omega arith in rw z (all (omega arith) (drain-none c zero 0 t u refl))
drain-drops c (suc f) left t u p h = step left (drain-drops c f (left - min left c) t (drop (min left c) u) p (omega arith))
  where
    step : (l : ℕ) → Dropped (fail t) (l - min l c) (drop (min l c) u) (plain c (drain c f (l - min l c) t) (drop (min l c) u))
        → Dropped (fail t) l u (plain c (drain c (suc f) l t) u)
    step zero rest = all (omega arith) (drain-none c (suc f) 0 t u refl)
    step (suc l) rest =
        let n : ℕ = min (suc l) c in
        rw (drain-some c f (suc l) t (omega arith))
        (taking-drops c n (suc l) (λ y. drain c f (suc l - n) t) (fail t) u (omega arith) (omega arith) rest)

-- a FAIL with length l: what follows the header
pub failing-drops : (c l : ℕ) (u : List ℕ) → 1 ≤ c
    → Dropped (fail (take (min l c) (drop header_size u))) l (drop header_size u) (plain c (failing c l) u)
unfolding plain
failing-drops c l u p =
    let n : ℕ = min l c in
    let v : List ℕ = drop header_size u in
    taking-drops c n l (λ t. drain c l (l - n) t) (fail (take n v)) v (omega arith) (omega arith)
    (drain-drops c l (l - n) (take n v) (drop n v) p (omega arith))
