-- `format_number::u64_at` meets its contract.
use mathlib.Core.Path.{sym, ◌∙◌}
use Rattle.format_number.proofs.Numbers.{from_le_bytes-le_8, first-length, whole-first}
use Rattle.format_number.proofs.u64_at.Goals as goal

pub returns : goal.returns
returns c =
    let a = c.args in
    let rest = c.in-Some.rest.now in
    let bytes = c.in-Some-first_chunk.bytes.now in
    let front = c.in-Some-first_chunk.ensures.cases in
    let behind = c.in-Some.ensures.lookup.0 in
    c.from_le_bytes.ensures
    ∙ from_le_bytes-le_8 bytes (first-length 8 a.s.now a.off rest bytes front.enough front.same)
    ∙ sym (whole-first 8 a.s.now a.off rest bytes front.enough front.same behind.0 behind.2)
