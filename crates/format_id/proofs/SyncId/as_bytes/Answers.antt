-- `format_id::SyncId::as_bytes` meets its contract: in each arm the bytes are the letters of the id that was matched.
use mathlib.Core.Path.{◌≡◌, sym, ap}
use Rattle.protocol.specs.Ids.{letters}
use Rattle.format_id.specs.Ids.{id_of}
use Rattle.format_id.specs.declared.SyncId.{SyncId}
use Rattle.format_id.proofs.SyncId.as_bytes.Goals as goal

letters-of : {i j : SyncId} → i ≡ j → letters (id_of j) ≡ letters (id_of i)
letters-of e = ap (λ (i : SyncId). letters (id_of i)) (sym e)

pub returns-in-Stat : goal.returns-in-Stat
returns-in-Stat c = letters-of c.in-Stat.is

pub returns-in-Sta2 : goal.returns-in-Sta2
returns-in-Sta2 c = letters-of c.in-Sta2.is

pub returns-in-List : goal.returns-in-List
returns-in-List c = letters-of c.in-List.is

pub returns-in-Lis2 : goal.returns-in-Lis2
returns-in-Lis2 c = letters-of c.in-Lis2.is

pub returns-in-Send : goal.returns-in-Send
returns-in-Send c = letters-of c.in-Send.is

pub returns-in-Snd2 : goal.returns-in-Snd2
returns-in-Snd2 c = letters-of c.in-Snd2.is

pub returns-in-Recv : goal.returns-in-Recv
returns-in-Recv c = letters-of c.in-Recv.is

pub returns-in-Rcv2 : goal.returns-in-Rcv2
returns-in-Rcv2 c = letters-of c.in-Rcv2.is

pub returns-in-Data : goal.returns-in-Data
returns-in-Data c = letters-of c.in-Data.is

pub returns-in-Done : goal.returns-in-Done
returns-in-Done c = letters-of c.in-Done.is

pub returns-in-Okay : goal.returns-in-Okay
returns-in-Okay c = letters-of c.in-Okay.is

pub returns-in-Fail : goal.returns-in-Fail
returns-in-Fail c = letters-of c.in-Fail.is

pub returns-in-Dent : goal.returns-in-Dent
returns-in-Dent c = letters-of c.in-Dent.is

pub returns-in-Dnt2 : goal.returns-in-Dnt2
returns-in-Dnt2 c = letters-of c.in-Dnt2.is

pub returns-in-Quit : goal.returns-in-Quit
returns-in-Quit c = letters-of c.in-Quit.is
