-- `format_record::stat_v2_body_at` meets its contract.
use mathlib.Core.Path.{◌∙◌}
use borrow.Author.Rules.{sfits_of}
use lib.Dec.{lit≤}
use mir.Facts.{to_z-of_z}
use mir.Syntax.{w64}
use Rattle.protocol.specs.Records.{stat2_body}
use Rattle.protocol.proofs.Records.{u32_field, u64_field, i64_field}
use Rattle.format_record.proofs.stat_v2_body_at.Goals as goal

pub returns : goal.returns
unfolding stat2_body
returns c =
    let u32 = u32_field 68 c.args.b.now 0 c.requires in
    let u64 = u64_field 68 c.args.b.now 0 c.requires in
    let i64 = i64_field 68 c.args.b.now 0 c.requires in
    rw (
      c.u32_at.ensures ∙ u32 0 (lit≤ tt),
      c.u64_at.ensures ∙ u64 4 (lit≤ tt),
      c.u64_at-2.ensures ∙ u64 12 (lit≤ tt),
      c.u32_at-2.ensures ∙ u32 20 (lit≤ tt),
      c.u32_at-3.ensures ∙ u32 24 (lit≤ tt),
      c.u32_at-4.ensures ∙ u32 28 (lit≤ tt),
      c.u32_at-5.ensures ∙ u32 32 (lit≤ tt),
      c.u64_at-3.ensures ∙ u64 36 (lit≤ tt),
      to_z-of_z {w = w64} (sfits_of c.i64_at.type_inv) ∙ c.i64_at.ensures ∙ i64 44 (lit≤ tt),
      to_z-of_z {w = w64} (sfits_of c.i64_at-2.type_inv) ∙ c.i64_at-2.ensures ∙ i64 52 (lit≤ tt),
      to_z-of_z {w = w64} (sfits_of c.i64_at-3.type_inv) ∙ c.i64_at-3.ensures ∙ i64 60 (lit≤ tt),
    )
