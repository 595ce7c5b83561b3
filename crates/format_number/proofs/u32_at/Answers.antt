-- `format_number::u32_at` meets its contract.
use mathlib.Core.Path.{sym, ◌∙◌}
use Rattle.format_number.proofs.Numbers.{from_le_bytes-le_4, first-length, whole-first}
use Rattle.format_number.proofs.u32_at.Goals as goal

pub returns : goal.returns
returns c =
    let a = c.args in
    let rest = c.in-Some.rest.now in
    let bytes = c.in-Some-first_chunk.bytes.now in
    let front = c.in-Some-first_chunk.ensures.cases in
    let behind = c.in-Some.ensures.lookup.0 in
    c.from_le_bytes.ensures
    ∙ from_le_bytes-le_4 bytes (first-length 4 a.s.now a.off rest bytes front.enough front.same)
    ∙ sym (whole-first 4 a.s.now a.off rest bytes front.enough front.same behind.0 behind.2)
