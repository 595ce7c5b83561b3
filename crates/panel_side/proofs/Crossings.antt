-- The facts of `specs/Crossings.antt` hold. Assumes nothing.
use mathlib.Core.Option.{or_else}
use mathlib.Core.Path.{refl}
use Rattle.protocol.specs.Bytes.{number_at, signed, over, put}
use Rattle.protocol.specs.Decimal.{canonical}
use Rattle.protocol.specs.Fact.{Hold}
use Rattle.protocol.specs.Flags.{several, unknown, dry_run, refused_flags}
use Rattle.protocol.specs.Ids.{named}
use Rattle.protocol.specs.Modes.{octal_in, mode_in}
use Rattle.protocol.specs.Requests.{arg_ok, following, bad_path, body_of, read_request}
use Rattle.id_table.specs.IdsFile.{checked}
use Rattle.id_table.specs.Settings.{settings_of, lent_in}
use Rattle.panel_reply.specs.Replies.{behind_id, is_short}
use Rattle.panel_side.specs.Crossing.{with_stat, with_stat2, cross_speak, cross_heard}
use Rattle.panel_side.specs.Crossings as F

pub kinds-hold : Hold F.kinds
unfolding with_stat with_stat2 number_at signed
kinds-hold = refl

pub passed-hold : Hold F.passed
passed-hold = refl

pub widths-hold : Hold F.widths
unfolding with_stat with_stat2 number_at signed
widths-hold = refl

pub speaking-holds : Hold F.speaking
unfolding cross_speak lent_in checked settings_of with_stat with_stat2 number_at signed behind_id is_short over put
speaking-holds = refl

pub turned_away-hold : Hold F.turned_away
unfolding cross_speak lent_in checked settings_of
turned_away-hold = refl

pub heard-hold : Hold F.heard_facts
unfolding cross_heard lent_in checked settings_of read_request named arg_ok following body_of bad_path mode_in octal_in or_else canonical refused_flags several unknown dry_run number_at over put
heard-hold = refl

pub unheard-hold : Hold F.unheard
unfolding cross_heard lent_in checked settings_of read_request named arg_ok following body_of bad_path number_at
unheard-hold = refl
