-- `totals_step::consume` meets its contract.
use Rattle.std.proofs.Common.{ap, ◌∙◌, arith}
use Rattle.protocol.specs.Bytes.{Bytes, put}
use Rattle.protocol.proofs.Words.{number-below}
use Rattle.record.specs.Record.{word_of}
use Rattle.record.proofs.Words.{word_in}
use Rattle.totals.specs.Crossing.{received_of}
use Rattle.totals_step.specs.Settled.{consumed_in}
use Rattle.totals_step.proofs.Behind.{wraps}
use Rattle.totals_step.proofs.consume.Goals as goal

-- the bytes received and the head, less the tail
pub returns : goal.returns
unfolding consumed_in
returns c =
    let rec = c.args.rec.now in
    let known : Bytes rec = λ i. (c.slice_known-1.given i).fits in
    c.put_u64.ensures
    ∙ ap (put rec 264)
    (wraps (received_of rec) (word_of rec 2) (word_of rec 3) c.wrapping_sub_u64-consumed.result
    (number-below 8 rec 256 known) (number-below 8 rec 16 known) (number-below 8 rec 24 known) (omega arith)
    (omega (
      arith,
      c.wrapping_sub_u64-consumed.ensures,
      c.wrapping_add_u64-all.ensures,
      c.u64_at.ensures ∙ word_in rec 32 (omega arith),
      c.u64_at-2.ensures ∙ word_in rec 2 (omega arith),
      c.u64_at-3.ensures ∙ word_in rec 3 (omega arith),
    )))
