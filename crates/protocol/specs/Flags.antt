-- The flag word of RCV2 and SND2 (`enum SyncFlag` of file_sync_protocol.h), and the words that answer 9 turns away.
-- Assumes nothing.
use Rattle.std.specs.Prelude.{ℕ, ◌+◌, ◌/◌, ◌%◌, ◌^◌, Bool, ◌&&◌, ◌||◌, eqb, ltb}

-- bit i of a flag word, 0 or 1
abbrev pub bit : ℕ → ℕ → ℕ
bit i f = f / 2 ^ i % 2

-- more than one of the bits 1, 2 and 4
unfoldable pub several : ℕ → Bool
several f = ltb 1 (bit 0 f + bit 1 f + bit 2 f)

-- a bit outside hexadecimal 80000007: one of the bits 3 to 30
unfoldable pub unknown : ℕ → Bool
unknown f = ltb 0 (f / 2 ^ 3 % 2 ^ 28)

-- the bit of a dry run, hexadecimal 80000000
unfoldable pub dry_run : ℕ → Bool
dry_run f = eqb (bit 31 f) 1

-- Answer 9: DRY_RUN on RCV2 (where the word is a pull's), a bit outside 80000007, or more than one of the bits 1, 2 and 4.
unfoldable pub refused_flags : Bool → ℕ → Bool
refused_flags pull f = pull && dry_run f || unknown f || several f
