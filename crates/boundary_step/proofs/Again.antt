-- What was tried and not taken is crossed with again, on what was left. Assumes nothing.
use mathlib.Core.List.{List}
use Prim.Native.Nat.{ℕ}
use Rattle.boundary.specs.Crossing.{Crossed, cross_start, cross_read, cross_wrote}

abbrev pub start_again : (lent : List ℕ) → (call a b : ℕ) → Crossed → Crossed
start_again lent call a b x = cross_start x.rec x.rx x.msg lent call a b x.out

abbrev pub read_again : (lent : List ℕ) → (count : ℕ) → Crossed → Crossed
read_again lent k x = cross_read x.rec x.rx x.msg lent k x.out

abbrev pub wrote_again : (lent : List ℕ) → Crossed → Crossed
wrote_again lent x = cross_wrote x.rec x.rx x.msg lent x.out
