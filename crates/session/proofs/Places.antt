-- The facts of `specs/Places.antt` hold. Assumes nothing.
use mathlib.Core.Path.{refl}
use Rattle.protocol.specs.Bytes.{number_at, over}
use Rattle.protocol.specs.Calls.{messages, cut}
use Rattle.protocol.specs.Refusal.{refusal, request_refusal, path_refusal, flag_refusal, feature_refusal, transfer_refusal}
use Rattle.protocol.specs.Digits.{digits}
use Rattle.protocol.specs.Fact.{Hold}
use Rattle.protocol.specs.Flags.{refused_flags, several, unknown, dry_run}
use Rattle.protocol.specs.Messages.{bytes_of_request, message_of, apart, pieces}
use Rattle.protocol.specs.Reader.{written, write_broke}
use Rattle.session.specs.Faithful.{fail_text}
use Rattle.session.specs.Places as Facts
use Rattle.session.specs.Shown.{part_of, paper}

pub moments-hold : Hold Facts.moments
moments-hold = refl

pub places-hold : Hold Facts.places
unfolding refusal request_refusal path_refusal flag_refusal feature_refusal transfer_refusal refused_flags several unknown dry_run
places-hold = refl

pub pieces-hold : Hold Facts.pieces × Hold Facts.closes
unfolding refusal request_refusal path_refusal messages cut pieces apart bytes_of_request message_of digits
pieces-hold = (refl, refl)

pub texts-hold : Hold Facts.texts
unfolding fail_text written write_broke refusal request_refusal path_refusal flag_refusal feature_refusal transfer_refusal refused_flags several unknown dry_run number_at over
texts-hold = refl

pub answers-hold : Hold Facts.answers
unfolding paper part_of
answers-hold = refl
