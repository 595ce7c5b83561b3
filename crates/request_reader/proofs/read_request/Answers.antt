-- `request_reader::read_request` meets its contract.
use mathlib.Core.Path.{◌≡◌, sym, ap, ◌∙◌}
use Prim.Native.Nat.{◌≤◌}
use native.Mathlib.Omega.{arith}
use lib.ListN.{length}
use Rattle.format_id.specs.Ids.{id_of, found_id}
use Rattle.protocol.specs.Ids.{named}
use Rattle.protocol.specs.Records.{id_at}
use Rattle.protocol.proofs.Requests.{more-short}
use Rattle.ids.specs.Ids.{table_of, dialect_of}
use Rattle.request_reader.proofs.Steps.{id-bytes, on_none, on_some}
use Rattle.request_reader.proofs.read_request.Goals.{After-from_bytes}
use Rattle.request_reader.proofs.read_request.Goals as goal

-- with a header there, the id that was found is its id

found : (c : After-from_bytes) → (let a = c.args in (8 ≤ length a.s.now) × (named (dialect_of a.ids) (id_at a.s.now) ≡ found_id c.from_bytes.result))
found c =
    let a = c.args in
    let long : 8 ≤ length a.s.now = c.if-s-lt8.false in
    (long, sym (c.from_bytes.ensures ∙ ap (named (dialect_of a.ids)) (id-bytes a.s.now (omega arith))))

pub returns-then-s-lt8 : goal.returns-then-s-lt8
returns-then-s-lt8 c = sym (more-short (dialect_of c.args.ids) _ c.if-s-lt8.true)

pub read_known-requires : goal.read_known-requires
read_known-requires c = (found (goal.at.read_known-requires c).After-from_bytes).0

pub returns-in-None : goal.returns-in-None
returns-in-None c =
    let a = c.args in
    let (long, id) = found (goal.at.returns-in-None c).After-from_bytes in
    sym (on_none (table_of a.ids) a.s.now long (id ∙ ap found_id c.in-None.is))

pub returns-in-Some : goal.returns-in-Some
returns-in-Some c =
    let a = c.args in
    let (long, id) = found (goal.at.returns-in-Some c).After-from_bytes in
    c.read_known.ensures ∙ sym (on_some (table_of a.ids) a.s.now long (id_of c.in-Some.id) (id ∙ ap found_id c.in-Some.is))
