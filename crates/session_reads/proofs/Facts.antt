-- The facts of `specs/Facts.antt` hold. Assumes nothing.
use mathlib.Core.Bool.{true≢false}
use mathlib.Core.Path.{refl, ap}
use native.Mathlib.Omega.{arith}
use lib.ListN.{length}
use Rattle.protocol.specs.Bytes.{number_at}
use Rattle.protocol.specs.Fact.{Hold}
use Rattle.protocol.specs.Reader.{plain, drain, written, write_broke}
use Rattle.protocol.specs.Records.{stat_at}
use Rattle.protocol.specs.Refusal.{refusal, request_refusal, path_refusal}
use Rattle.protocol_reads.specs.Reads.{reach, reads_of}
use Rattle.session_reads.specs.Facts.{reads, Counting, Ceiling}

pub reads-hold : Hold reads
reads-hold = refl

pub counting : Counting
unfolding plain drain written write_broke refusal request_refusal path_refusal number_at stat_at reach reads_of
counting =
    record {
      in_turn = (refl, (refl, refl));
      too_few = λ c. absurd (omega (arith, c.0));
      too_many = λ c. absurd (omega (arith, c.1.0));
      left_over = λ c. absurd (omega (arith, ap length c.1.1));
      exchanged = λ c. absurd (omega (arith, c.0));
      goes_on = (refl, (refl, refl));
      next = (refl, (refl, refl));
      unwritten = (refl, refl);
      after_quit = (refl, (refl, refl));
      whole = (refl, (refl, refl));
      early = λ c. absurd (omega (arith, c.0));
      missing = λ c. c;
    }

pub ceiling : Ceiling
ceiling =
    record {
      reached = (λ e. omega arith, tt);
      passed = λ c. absurd (omega (arith, c.0 refl));
      closed_passes = (λ e. absurd (true≢false e), tt);
      error_passes = (λ e. absurd (true≢false e), tt);
      consumed = (λ e. omega arith, tt);
      over_consumed = λ c. absurd (omega (arith, c.0 refl));
      next = (λ e. omega arith, (λ e. omega arith, tt));
      next_passed = λ c. absurd (omega (arith, c.1.0 refl));
    }
