-- The facts of `specs/Cases.antt` hold. Assumes nothing.
use mathlib.Core.Path.{refl}
use Rattle.protocol.specs.Refusal.{request_refusal, path_refusal, flag_refusal, feature_refusal, transfer_refusal}
use Rattle.protocol.specs.Fact.{Hold}
use Rattle.protocol.specs.Flags.{refused_flags, several, unknown, dry_run}
use Rattle.id_table.specs.IdsFile.{checked}
use Rattle.id_table.specs.Settings.{lent_in}
use Rattle.boundary_misuse.specs.Cases.{cases, afterwards, Widths}

pub cases-hold : Hold cases
unfolding lent_in checked request_refusal path_refusal flag_refusal feature_refusal transfer_refusal refused_flags several unknown dry_run
cases-hold = refl

pub afterwards-hold : Hold afterwards
afterwards-hold = refl

pub widths : Widths
widths =
    record {
      starts = λ n a b t x y z. (x, (y, z));
      reads = λ k. tt;
      writes = tt;
      faults = λ kind code x. x;
      events = λ e a lent msg out rx. record { act = a; lent = lent; msg = msg; out = out; rx = rx };
    }
