-- A list that begins with a text, compared element by element. Assumes nothing.
use mathlib.Core.Bool.{true, false, ◌&&◌}
use mathlib.Core.List.{List}
use mathlib.Core.Path.{◌≡◌}
use Prim.Native.Nat.{ℕ, ◌+◌, ◌<◌, ◌≤◌}
use native.Mathlib.Numerals.{add-one}
use lib.Dec.{eqb}
use lib.ListN.{length, get_or, drop, drop_of_length-le}
use lib.Seq.{drop-cons, slice, slice-cons, slice_empty}
use Rattle.features.specs.Meaning.{starts_with}

-- s from f to e, and t from i on: it begins so if the first elements are the same, and the rest does; too short; at the end of t
module _ (s : List ℕ) (f e : ℕ) (t : List ℕ) (i : ℕ) where
  pub starts-step : f < e → e ≤ length s → i < length t
      → starts_with (drop i t) (slice f e s) ≡ eqb (get_or s f 0) (get_or t i 0) && starts_with (drop (i + 1) t) (slice (f + 1) e s)
  starts-step h inside k = rw (slice-cons f e s 0 h inside, drop-cons t i 0 k, add-one, add-one)

  pub starts-short : f ≡ e → i < length t → starts_with (drop i t) (slice f e s) ≡ false
  starts-short h k = rw (h, slice_empty, drop-cons t i 0 k)

  pub starts-end : length t ≤ i → starts_with (drop i t) (slice f e s) ≡ true
  starts-end k = rw (drop_of_length-le t k)
