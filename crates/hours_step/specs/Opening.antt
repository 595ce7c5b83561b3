-- What an opening answers whose settings have bytes of hours that loading never leaves; its record and its settings have the right lengths.
-- Assumes nothing.
use Rattle.std.specs.Prelude.{ℕ, List, ltb}
use Rattle.protocol.specs.Bytes.{pick}
use Rattle.hours.specs.Settings.{bad_hours}
use Rattle.id_table.specs.Settings.{lent_in}
use Rattle.id_table.specs.Lent.{Lent}
use Rattle.id_table.specs.Lent as L
use Rattle.session.specs.Calls.{open_refusal}

-- 22 or 23, and else 24
abbrev pub refused_table : Lent → ℕ
refused_table (L.Refused n) = n
refused_table (L.Ids t) = bad_hours

-- 1 or 2 before it
unfoldable pub refused_anyway : (settings : List ℕ) → (rx msg : ℕ) → ℕ
refused_anyway settings rx msg = pick (ltb 0 (open_refusal rx msg)) (open_refusal rx msg) (refused_table (lent_in settings))
