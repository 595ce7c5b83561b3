-- `ids::Ids::number` meets its contract: in each arm the half is that of the id that was matched.
use mathlib.Core.Path.{◌≡◌, sym, ap, ◌∙◌}
use Rattle.format_id.specs.Ids.{id_of}
use Rattle.format_id.specs.declared.SyncId.{SyncId}
use Rattle.ids.specs.Ids.{number_of}
use Rattle.ids.specs.declared.Ids.{Ids}
use Rattle.ids.proofs.Ids.number.Goals as goal

number-of : {i j : SyncId} (t : Ids) → i ≡ j → number_of t (id_of j) ≡ number_of t (id_of i)
number-of t e = ap (λ (i : SyncId). number_of t (id_of i)) (sym e)

pub returns-in-Stat : goal.returns-in-Stat
returns-in-Stat c = c.lower.ensures ∙ number-of c.args.self c.in-Stat.is

pub returns-in-Sta2 : goal.returns-in-Sta2
returns-in-Sta2 c = c.upper.ensures ∙ number-of c.args.self c.in-Sta2.is

pub returns-in-List : goal.returns-in-List
returns-in-List c = c.lower-in-List.ensures ∙ number-of c.args.self c.in-List.is

pub returns-in-Lis2 : goal.returns-in-Lis2
returns-in-Lis2 c = c.upper-in-Lis2.ensures ∙ number-of c.args.self c.in-Lis2.is

pub returns-in-Send : goal.returns-in-Send
returns-in-Send c = c.lower-in-Send.ensures ∙ number-of c.args.self c.in-Send.is

pub returns-in-Snd2 : goal.returns-in-Snd2
returns-in-Snd2 c = c.upper-in-Snd2.ensures ∙ number-of c.args.self c.in-Snd2.is

pub returns-in-Recv : goal.returns-in-Recv
returns-in-Recv c = c.lower-in-Recv.ensures ∙ number-of c.args.self c.in-Recv.is

pub returns-in-Rcv2 : goal.returns-in-Rcv2
returns-in-Rcv2 c = c.upper-in-Rcv2.ensures ∙ number-of c.args.self c.in-Rcv2.is

pub returns-in-Data : goal.returns-in-Data
returns-in-Data c = c.lower-in-Data.ensures ∙ number-of c.args.self c.in-Data.is

pub returns-in-Done : goal.returns-in-Done
returns-in-Done c = c.upper-in-Done.ensures ∙ number-of c.args.self c.in-Done.is

pub returns-in-Okay : goal.returns-in-Okay
returns-in-Okay c = c.lower-in-Okay.ensures ∙ number-of c.args.self c.in-Okay.is

pub returns-in-Fail : goal.returns-in-Fail
returns-in-Fail c = c.upper-in-Fail.ensures ∙ number-of c.args.self c.in-Fail.is

pub returns-in-Dent : goal.returns-in-Dent
returns-in-Dent c = c.lower-in-Dent.ensures ∙ number-of c.args.self c.in-Dent.is

pub returns-in-Dnt2 : goal.returns-in-Dnt2
returns-in-Dnt2 c = c.upper-in-Dnt2.ensures ∙ number-of c.args.self c.in-Dnt2.is

pub returns-in-Quit : goal.returns-in-Quit
returns-in-Quit c = c.lower-in-Quit.ensures ∙ number-of c.args.self c.in-Quit.is
