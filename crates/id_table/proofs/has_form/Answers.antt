-- `id_table::has_form` meets its contract.
use mathlib.Core.Path.{◌≡◌, refl, ap, ◌∙◌}
use native.Mathlib.Omega.{arith}
use Rattle.std.proofs.lemmas.Grind.{common_steps}
use Rattle.protocol.specs.Bytes.{ascii}
use Rattle.id_table.specs.IdsFile.{count, heading, same_all}
use Rattle.id_table.specs.Places.{groups, formed}
use Rattle.id_table.proofs.has_form.Goals as goal

names-heading : groups 4 count (ascii "STATSTA2LISTLIS2SENDSND2RECVRCV2DATADONEOKAYFAILDENTDNT2QUIT") ≡ heading
unfolding groups
names-heading = refl

pub returns-then-has_marks-2 : goal.returns-then-has_marks-2
unfolding formed
returns-then-has_marks-2 c =
    let names = c.has_names.ensures ∙ ap (same_all (groups 5 count c.args.file.now)) names-heading in
    rw names (grind (arith, common_steps))

pub returns-else-has_marks-2 : goal.returns-else-has_marks-2
unfolding formed
returns-else-has_marks-2 c = grind (arith, common_steps)
