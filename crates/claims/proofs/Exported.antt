-- What each of the seventeen exported functions meets, by the places of its parameters: the crossings that demand 3, the card, the files of ids and hours, the calendar, the index's claim and the panel's
-- are about. Each takes any arguments (there is no `requires`), and says every byte that it was lent mutably and the number that it returns.
-- A function is read by its name, wherever that name means its code (`Wired`), as a caller reads it. Assumes nothing.
use mathlib.Core.Path.{◌≡◌}
use types.Logic.{Logic}
use contract.Lifetimes.{Lfts}
use contract.Notation as Notation
use contract.Running.{Running}
use denote.Triple.Clauses.{Ended, AtExit, Clauses, closing}
use denote.Triple.Entry.{Args, Res}
use denote.Triple.Spec.{Meets}
use seplogic.Ra.Ura.{Ura}
use prog.Model.{Model}
use prog.Wired.{Wired}
use Rattle.boundary.specs.Crossing.{crossed, set, cross_settings, cross_ids}
use Rattle.calendar.specs.Crossing.{cross_date}
use Rattle.hours.specs.Settings.{loaded_hours, cross_may_push}
use Rattle.hours_totals.specs.Crossing.{timed_open, timed_start, timed_read, timed_wrote, timed_fault}
use Rattle.exports.specs.contracts.yuglasno_settings as settings
use Rattle.exports.proofs.yuglasno_settings.Met as settings-thm
use Rattle.exports.proofs.yuglasno_settings.Symbol as settings-code
use Rattle.exports.specs.contracts.yuglasno_ids as ids
use Rattle.exports.proofs.yuglasno_ids.Met as ids-thm
use Rattle.exports.proofs.yuglasno_ids.Symbol as ids-code
use Rattle.exports.specs.contracts.yuglasno_hours as hours
use Rattle.exports.proofs.yuglasno_hours.Met as hours-thm
use Rattle.exports.proofs.yuglasno_hours.Symbol as hours-code
use Rattle.exports.specs.contracts.yuglasno_may_push as may-push
use Rattle.exports.proofs.yuglasno_may_push.Met as may-push-thm
use Rattle.exports.proofs.yuglasno_may_push.Symbol as may-push-code
use Rattle.exports.specs.contracts.yuglasno_date as date
use Rattle.exports.proofs.yuglasno_date.Met as date-thm
use Rattle.exports.proofs.yuglasno_date.Symbol as date-code
use Rattle.exports.specs.contracts.yuglasno_open as opening
use Rattle.exports.proofs.yuglasno_open.Met as opening-thm
use Rattle.exports.proofs.yuglasno_open.Symbol as opening-code
use Rattle.exports.specs.contracts.yuglasno_start as start
use Rattle.exports.proofs.yuglasno_start.Met as start-thm
use Rattle.exports.proofs.yuglasno_start.Symbol as start-code
use Rattle.exports.specs.contracts.yuglasno_read as read
use Rattle.exports.proofs.yuglasno_read.Met as read-thm
use Rattle.exports.proofs.yuglasno_read.Symbol as read-code
use Rattle.exports.specs.contracts.yuglasno_wrote as wrote
use Rattle.exports.proofs.yuglasno_wrote.Met as wrote-thm
use Rattle.exports.proofs.yuglasno_wrote.Symbol as wrote-code
use Rattle.exports.specs.contracts.yuglasno_fault as fault
use Rattle.exports.proofs.yuglasno_fault.Met as fault-thm
use Rattle.exports.proofs.yuglasno_fault.Symbol as fault-code
use Rattle.exports.specs.contracts.yuglasno_index_open as index-open
use Rattle.exports.proofs.yuglasno_index_open.Met as index-open-thm
use Rattle.exports.proofs.yuglasno_index_open.Symbol as index-open-code
use Rattle.exports.specs.contracts.yuglasno_index_add as index-add
use Rattle.exports.proofs.yuglasno_index_add.Met as index-add-thm
use Rattle.exports.proofs.yuglasno_index_add.Symbol as index-add-code
use Rattle.exports.specs.contracts.yuglasno_index_between as index-between
use Rattle.exports.proofs.yuglasno_index_between.Met as index-between-thm
use Rattle.exports.proofs.yuglasno_index_between.Symbol as index-between-code
use Rattle.exports.specs.contracts.yuglasno_index_latest as index-latest
use Rattle.exports.proofs.yuglasno_index_latest.Met as index-latest-thm
use Rattle.exports.proofs.yuglasno_index_latest.Symbol as index-latest-code
use Rattle.exports.specs.contracts.yuglasno_index_entry as index-entry
use Rattle.exports.proofs.yuglasno_index_entry.Met as index-entry-thm
use Rattle.exports.proofs.yuglasno_index_entry.Symbol as index-entry-code
use Rattle.exports.specs.contracts.yuglasno_speak as speak
use Rattle.exports.proofs.yuglasno_speak.Met as speak-thm
use Rattle.exports.proofs.yuglasno_speak.Symbol as speak-code
use Rattle.exports.specs.contracts.yuglasno_heard as heard
use Rattle.exports.proofs.yuglasno_heard.Met as heard-thm
use Rattle.exports.proofs.yuglasno_heard.Symbol as heard-code
use Rattle.panel_side.specs.Crossing.{spoke, sliced, cross_speak, cross_heard}
use Rattle.time_index.specs.Crossing.{laid, indexed, cross_index_open, cross_index_add, cross_index_between, cross_index_latest, cross_index_entry}

module _ {M : Type 1} {𝓤 : Ura M} (𝓛 : Logic 𝓤) (𝓜 : Model 𝓤 𝓛.H) (𝓡 : Running 𝓤 𝓛.H 𝓜) where
  open Notation.connectives 𝓤 use {⌜◌⌝, ⊤ₛ}

  -- a fact of the arguments, the result and the arguments at exit
  abbrev pub Fact : Ended → Type 1
  Fact T = (κs : Lfts T.signature.lifetimes) → Args T.signature κs → Res T.signature κs → AtExit T κs → Type 0

  abbrev pub stating : (T : Ended) → Fact T → Clauses 𝓤 T
  stating T fact κs a = record { ghost = Unit {0}; requires = λ g. ⊤ₛ; ensures = λ g r z. ⌜ fact κs a r z ⌝ }

  pub settings-met : Wired 𝓡.env settings-code.code → Meets 𝓛 settings.signature (𝓡.run (𝓡.env settings-code.name))
      (closing 𝓛 settings.ended (stating settings.ended (λ κs (s, _) r (s', _). set s'.now r ≡ cross_settings s.now)))
  settings-met = settings-thm.met 𝓤 𝓛 𝓜 𝓡

  pub ids-met : Wired 𝓡.env ids-code.code → Meets 𝓛 ids.signature (𝓡.run (𝓡.env ids-code.name))
      (closing 𝓛 ids.ended (stating ids.ended (λ κs (s, (file, _)) r (s', _). set s'.now r ≡ cross_ids s.now file.now)))
  ids-met = ids-thm.met 𝓤 𝓛 𝓜 𝓡

  pub hours-met : Wired 𝓡.env hours-code.code → Meets 𝓛 hours.signature (𝓡.run (𝓡.env hours-code.name))
      (closing 𝓛 hours.ended (stating hours.ended (λ κs (s, (file, _)) r (s', _). set s'.now r ≡ loaded_hours s.now file.now)))
  hours-met = hours-thm.met 𝓤 𝓛 𝓜 𝓡

  pub may_push_met : Wired 𝓡.env may-push-code.code → Meets 𝓛 may-push.signature (𝓡.run (𝓡.env may-push-code.name))
      (closing 𝓛 may-push.ended (stating may-push.ended (λ κs (s, (moment, _)) r _. r ≡ cross_may_push s.now moment)))
  may_push_met = may-push-thm.met 𝓤 𝓛 𝓜 𝓡

  pub date-met : Wired 𝓡.env date-code.code → Meets 𝓛 date.signature (𝓡.run (𝓡.env date-code.name))
      (closing 𝓛 date.ended (stating date.ended (λ κs (moment, (out, _)) r (moment', (out', _)). laid out'.now r ≡ cross_date moment out.now)))
  date-met = date-thm.met 𝓤 𝓛 𝓜 𝓡

  pub open_met : Wired 𝓡.env opening-code.code → Meets 𝓛 opening.signature (𝓡.run (𝓡.env opening-code.name))
      (closing 𝓛 opening.ended (stating opening.ended
      (λ κs (rec, (settings, (banner, (rx, (msg, _))))) r (rec', _).
      record { rec = rec'.now; number = r } ≡ timed_open rec.now settings.now banner.now rx msg)))
  open_met = opening-thm.met 𝓤 𝓛 𝓜 𝓡

  pub start-met : Wired 𝓡.env start-code.code → Meets 𝓛 start.signature (𝓡.run (𝓡.env start-code.name))
      (closing 𝓛 start.ended (stating start.ended
      (λ κs (rec, (rx, (msg, (lent, (call, (a, (b, (moment, (out, _))))))))) r (rec', (rx', (msg', (lent', (call', (a', (b', (moment', (out', _))))))))).
      crossed rec'.now rx'.now msg'.now out'.now r ≡ timed_start rec.now rx.now msg.now lent.now call a b moment out.now)))
  start-met = start-thm.met 𝓤 𝓛 𝓜 𝓡

  pub read-met : Wired 𝓡.env read-code.code → Meets 𝓛 read.signature (𝓡.run (𝓡.env read-code.name))
      (closing 𝓛 read.ended (stating read.ended
      (λ κs (rec, (rx, (msg, (lent, (count, (out, _)))))) r (rec', (rx', (msg', (lent', (count', (out', _)))))).
      crossed rec'.now rx'.now msg'.now out'.now r ≡ timed_read rec.now rx.now msg.now lent.now count out.now)))
  read-met = read-thm.met 𝓤 𝓛 𝓜 𝓡

  pub wrote-met : Wired 𝓡.env wrote-code.code → Meets 𝓛 wrote.signature (𝓡.run (𝓡.env wrote-code.name))
      (closing 𝓛 wrote.ended (stating wrote.ended
      (λ κs (rec, (rx, (msg, (lent, (out, _))))) r (rec', (rx', (msg', (lent', (out', _))))).
      crossed rec'.now rx'.now msg'.now out'.now r ≡ timed_wrote rec.now rx.now msg.now lent.now out.now)))
  wrote-met = wrote-thm.met 𝓤 𝓛 𝓜 𝓡

  pub fault-met : Wired 𝓡.env fault-code.code → Meets 𝓛 fault.signature (𝓡.run (𝓡.env fault-code.name))
      (closing 𝓛 fault.ended (stating fault.ended
      (λ κs (rec, (rx, (msg, (lent, (kind, (code, (out, _))))))) r (rec', (rx', (msg', (lent', (kind', (code', (out', _))))))).
      crossed rec'.now rx'.now msg'.now out'.now r ≡ timed_fault rec.now rx.now msg.now lent.now kind code out.now)))
  fault-met = fault-thm.met 𝓤 𝓛 𝓜 𝓡

  pub index_open_met : Wired 𝓡.env index-open-code.code → Meets 𝓛 index-open.signature (𝓡.run (𝓡.env index-open-code.name))
      (closing 𝓛 index-open.ended (stating index-open.ended
      (λ κs (slots, (area, _)) r (slots', _). laid slots'.now r ≡ cross_index_open slots.now area)))
  index_open_met = index-open-thm.met 𝓤 𝓛 𝓜 𝓡

  pub index_add_met : Wired 𝓡.env index-add-code.code → Meets 𝓛 index-add.signature (𝓡.run (𝓡.env index-add-code.name))
      (closing 𝓛 index-add.ended (stating index-add.ended
      (λ κs (slots, (area, (told, (reply, (rx, _))))) r (slots', (area', _)).
      indexed slots'.now area'.now r ≡ cross_index_add slots.now area.now told reply.now rx.now)))
  index_add_met = index-add-thm.met 𝓤 𝓛 𝓜 𝓡

  pub index_between_met : Wired 𝓡.env index-between-code.code → Meets 𝓛 index-between.signature (𝓡.run (𝓡.env index-between-code.name))
      (closing 𝓛 index-between.ended (stating index-between.ended
      (λ κs (slots, (area, (from, (to, (out, _))))) r (slots', (area', (from', (to', (out', _))))).
      laid out'.now r ≡ cross_index_between slots.now area from to out.now)))
  index_between_met = index-between-thm.met 𝓤 𝓛 𝓜 𝓡

  pub index_latest_met : Wired 𝓡.env index-latest-code.code → Meets 𝓛 index-latest.signature (𝓡.run (𝓡.env index-latest-code.name))
      (closing 𝓛 index-latest.ended (stating index-latest.ended
      (λ κs (slots, (area, (time, (out, _)))) r (slots', (area', (time', (out', _)))).
      laid out'.now r ≡ cross_index_latest slots.now area time out.now)))
  index_latest_met = index-latest-thm.met 𝓤 𝓛 𝓜 𝓡

  pub index_entry_met : Wired 𝓡.env index-entry-code.code → Meets 𝓛 index-entry.signature (𝓡.run (𝓡.env index-entry-code.name))
      (closing 𝓛 index-entry.ended (stating index-entry.ended
      (λ κs (slots, (area, (rank, (out, _)))) r (slots', (area', (rank', (out', _)))).
      laid out'.now r ≡ cross_index_entry slots.now area rank out.now)))
  index_entry_met = index-entry-thm.met 𝓤 𝓛 𝓜 𝓡

  pub speak_met : Wired 𝓡.env speak-code.code → Meets 𝓛 speak.signature (𝓡.run (𝓡.env speak-code.name))
      (closing 𝓛 speak.ended (stating speak.ended
      (λ κs (settings, (kind, (numbers, (lent, (out, (told, _)))))) r (settings', (kind', (numbers', (lent', (out', (told', _)))))).
      spoke out'.now told'.now r ≡ cross_speak settings.now kind numbers.now lent.now out.now told.now)))
  speak_met = speak-thm.met 𝓤 𝓛 𝓜 𝓡

  pub heard-met : Wired 𝓡.env heard-code.code → Meets 𝓛 heard.signature (𝓡.run (𝓡.env heard-code.name))
      (closing 𝓛 heard.ended (stating heard.ended
      (λ κs (settings, (bytes, (out, _))) r (settings', (bytes', (out', _))).
      sliced out'.now r ≡ cross_heard settings.now bytes.now out.now)))
  heard-met = heard-thm.met 𝓤 𝓛 𝓜 𝓡
