-- Times as numbers that compare as the times do. Assumes nothing.
use Rattle.std.specs.Prelude.{ℕ, ◌+◌, ◌-◌, Bool, leb, ltb, ℤ}
use Rattle.protocol.specs.Bytes.{pick}
use Rattle.record.specs.Fields.{unsigned}

-- 64 bits of a signed number, with the sign turned
unfoldable pub keyed : ℕ → ℕ
keyed x = pick (ltb x 0x8000_0000_0000_0000) (x + 0x8000_0000_0000_0000) (x - 0x8000_0000_0000_0000)

-- whether a time has at most that key
abbrev pub key_to : (key : ℕ) → ℤ → Bool
key_to k z = leb (keyed (unsigned z)) k
