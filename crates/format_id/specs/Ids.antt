-- Which of the protocol's ids a `SyncId` is, and what `from_bytes` found. Assumes nothing.
use Rattle.std.specs.Prelude.{Option, Some, None}
use Rattle.std.proofs.Math.Option as M
use Rattle.protocol.specs.Ids.{Id, STAT, STA2, LIST, LIS2, SEND, SND2, RECV, RCV2, DATA, DONE, OKAY, FAIL, DENT, DNT2, QUIT}
use Rattle.format_id.specs.declared.SyncId.{SyncId}
use Rattle.format_id.specs.declared.SyncId.TheVariants as S

abbrev pub id_of : SyncId → Id
id_of S.Stat = STAT
id_of S.Sta2 = STA2
id_of S.List = LIST
id_of S.Lis2 = LIS2
id_of S.Send = SEND
id_of S.Snd2 = SND2
id_of S.Recv = RECV
id_of S.Rcv2 = RCV2
id_of S.Data = DATA
id_of S.Done = DONE
id_of S.Okay = OKAY
id_of S.Fail = FAIL
id_of S.Dent = DENT
id_of S.Dnt2 = DNT2
id_of S.Quit = QUIT

abbrev pub found_id : Option SyncId → M.Option Id
found_id (Some i) = M.some (id_of i)
found_id None = M.none
