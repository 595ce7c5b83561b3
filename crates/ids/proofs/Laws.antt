-- A table of four bytes each is that of its eight numbers; and any eight numbers have four bytes for each id. Assumes nothing.
use mathlib.Core.Path.{◌≡◌, sym, ap, ◌∙◌, fun_ext}
use Prim.Native.Nat.{ℕ, ◌<◌}
use native.Mathlib.Omega.{arith}
use lib.Seq.{take_all}
use Rattle.protocol.specs.Bytes.{le, bytes_of}
use Rattle.protocol.specs.Ids.{Id, Table, under, Legal, Sound, STAT, STA2, LIST, LIS2, SEND, SND2, RECV, RCV2, DATA, DONE, OKAY, FAIL, DENT, DNT2, QUIT}
use Rattle.protocol.proofs.Bytes.{bytes_of-le}
use Rattle.protocol.proofs.Ids.{legal-sound}
use Rattle.protocol.proofs.Words.{le_below}
use Rattle.ids.specs.Ids.{table_of, dialect_of, lower, upper, paired, ids_of}

module _ (t : Table) (legal : Legal t) where
  sound : Sound (under t)
  sound = legal-sound t legal

  -- four bytes spell a number of 32 bits
  pub small : (i : Id) → le (t i) < 0x1_0000_0000
  small i = omega (arith, ap le (take_all 4 (t i) (omega (arith, sound.four i))), le_below 4 (t i) (sound.bytes i))

  own : (i : Id) → bytes_of 4 (le (t i)) ≡ t i
  own i = ap (λ (n : ℕ). bytes_of n (le (t i))) (sym (sound.four i)) ∙ bytes_of-le (t i) (sound.bytes i)

  first : (i j : Id) → bytes_of 4 (lower (paired t i j)) ≡ t i
  first i j =
      let e : lower (paired t i j) ≡ le (t i) = omega (arith, small i) in
      ap (bytes_of 4) e ∙ own i

  second : (i j : Id) → bytes_of 4 (upper (paired t i j)) ≡ t j
  second i j =
      let e : upper (paired t i j) ≡ le (t j) = omega (arith, small i) in
      ap (bytes_of 4) e ∙ own j

  last : (i : Id) → bytes_of 4 (lower (le (t i))) ≡ t i
  last i =
      let e : lower (le (t i)) ≡ le (t i) = omega (arith, small i) in
      ap (bytes_of 4) e ∙ own i

  pub table-back : (i : Id) → table_of (ids_of t) i ≡ t i
  table-back STAT = first STAT STA2
  table-back STA2 = second STAT STA2
  table-back LIST = first LIST LIS2
  table-back LIS2 = second LIST LIS2
  table-back SEND = first SEND SND2
  table-back SND2 = second SEND SND2
  table-back RECV = first RECV RCV2
  table-back RCV2 = second RECV RCV2
  table-back DATA = first DATA DONE
  table-back DONE = second DATA DONE
  table-back OKAY = first OKAY FAIL
  table-back FAIL = second OKAY FAIL
  table-back DENT = first DENT DNT2
  table-back DNT2 = second DENT DNT2
  table-back QUIT = last QUIT

  pub dialect-back : dialect_of (ids_of t) ≡ under t
  dialect-back = ap under (fun_ext table-back)
