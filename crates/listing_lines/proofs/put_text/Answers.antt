-- `listing_lines::put_text` meets its contract.
use mathlib.Core.Path.{refl, ◌∙◌}
use Rattle.protocol.proofs.Bytes.{put_in}
use Rattle.listing_lines.proofs.put_text.Goals as goal

pub returns : goal.returns
returns c = record { bytes = c.put_bytes.ensures ∙ put_in _ _ _ c.requires; ends = refl }
