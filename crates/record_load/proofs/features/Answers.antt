-- `record_load::features` meets its contract.
use mathlib.Core.Path.{◌≡◌}
use Prim.Native.Nat.{◌/◌}
use native.Mathlib.Omega.{arith}
use Rattle.record_load.proofs.features.Goals as goal

-- a half of a quarter is an eighth, and so on
pub returns : goal.returns
returns c =
    let n = c.args.n in
    let h2 : n / 2 / 2 ≡ n / 4 = omega arith in
    let h3 : n / 4 / 2 ≡ n / 8 = omega arith in
    let h4 : n / 8 / 2 ≡ n / 16 = omega arith in
    let h5 : n / 16 / 2 ≡ n / 32 = omega arith in
    let h6 : n / 32 / 2 ≡ n / 64 = omega arith in
    rw (
      c.odd.ensures,
      c.odd-2.ensures,
      c.odd-3.ensures,
      c.odd-4.ensures,
      c.odd-5.ensures,
      c.odd-6.ensures,
      c.odd-7.ensures,
      h2,
      h3,
      h4,
      h5,
      h6,
    )
