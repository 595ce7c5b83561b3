-- The facts of `specs/Facts.antt` hold. Assumes nothing.
use mathlib.Core.Bool.{true≢false}
use mathlib.Core.Path.{refl}
use native.Mathlib.Omega.{arith}
use Rattle.protocol.specs.Bytes.{number_at}
use Rattle.protocol.specs.Fact.{Hold}
use Rattle.protocol.specs.Reader.{plain, drain, written, write_broke, plain_answers}
use Rattle.protocol.specs.Records.{stat_at, stat2_body, dent_at}
use Rattle.protocol.specs.Refusal.{refusal, request_refusal, path_refusal, feature_refusal}
use Rattle.protocol_reads.specs.Facts.{turns, ceilings, broken, turned_away, endings, Ceilings}
use Rattle.protocol_reads.specs.Reads.{reach, reads_of, plain_reads}

pub turns-hold : Hold turns
unfolding plain drain written refusal request_refusal path_refusal number_at stat_at dent_at reach reads_of plain_answers plain_reads
turns-hold = refl

pub ceilings-hold : Hold ceilings
unfolding plain drain written refusal request_refusal path_refusal feature_refusal number_at stat_at stat2_body dent_at reach reads_of plain_answers plain_reads
ceilings-hold = refl

pub broken-hold : Hold broken
unfolding plain drain written write_broke refusal request_refusal path_refusal number_at reach reads_of
broken-hold = refl

pub turned_away-hold : Hold turned_away
unfolding drain write_broke refusal request_refusal path_refusal number_at reach reads_of
turned_away-hold = refl

pub endings-hold : Hold endings
endings-hold = refl

pub ceilings-mean : Ceilings
unfolding plain drain written refusal request_refusal path_refusal number_at
ceilings-mean =
    record {
      reached = λ e. omega arith;
      passed = λ f. absurd (omega (arith, f refl));
      dropped = λ e. omega arith;
      over_dropped = λ f. absurd (omega (arith, f refl));
      ones_bring = (omega arith, (omega arith, tt));
      none_bring = λ p. absurd (omega (arith, p.1.0));
      at_the_end = λ e. absurd (true≢false e);
    }
