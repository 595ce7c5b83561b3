-- `format_flags::SyncFlags::refused` meets its contract: its tests in turn decide the disjunction.
use mathlib.Core.Bool.{◌||◌}
use mathlib.Core.Path.{◌≡◌, ◌∙◌}
use Rattle.protocol.specs.Flags.{unknown, several}
use Rattle.protocol.proofs.Flags.{refused-order}
use Rattle.format_flags.proofs.SyncFlags.refused.Goals.{then-unknown, else-unknown}
use Rattle.format_flags.proofs.SyncFlags.refused.Goals as goal

pub returns-then-several : goal.returns-then-several
returns-then-several c =
    let first : (unknown c.args.self.0 || several c.args.self.0) ≡ c.if-unknown.value =
    elim c.if-unknown.branch [
      | then-unknown w ↦ rw (← c.unknown.ensures, w.if-unknown.true) (cc)
      | else-unknown w ↦ rw (← c.unknown.ensures, w.if-unknown.false, ← w.several.ensures) (cc)
    ] in
    rw (refused-order, first, c.if-several.true)

pub returns-then-pull : goal.returns-then-pull
returns-then-pull c =
    let first : (unknown c.args.self.0 || several c.args.self.0) ≡ c.if-unknown.value =
    elim c.if-unknown.branch [
      | then-unknown w ↦ rw (← c.unknown.ensures, w.if-unknown.true) (cc)
      | else-unknown w ↦ rw (← c.unknown.ensures, w.if-unknown.false, ← w.several.ensures) (cc)
    ] in
    rw (refused-order, first, c.if-several.false, c.if-pull.true) c.dry_run.ensures

pub returns-else-pull : goal.returns-else-pull
returns-else-pull c =
    let first : (unknown c.args.self.0 || several c.args.self.0) ≡ c.if-unknown.value =
    elim c.if-unknown.branch [
      | then-unknown w ↦ rw (← c.unknown.ensures, w.if-unknown.true) (cc)
      | else-unknown w ↦ rw (← c.unknown.ensures, w.if-unknown.false, ← w.several.ensures) (cc)
    ] in
    rw (refused-order, first, c.if-several.false, c.if-pull.false)
