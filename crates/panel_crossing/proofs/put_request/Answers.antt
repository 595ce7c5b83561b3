-- `panel_crossing::put_request` meets its contract: each arm has the words of its request.
use Rattle.panel_crossing.proofs.Laws.{request-of}
use Rattle.panel_crossing.proofs.put_request.Goals.{in-Stat, in-Sta2, in-List, in-Lis2, in-Recv, in-Rcv2, in-Send, in-Snd2, in-Data, in-Done, in-Quit}
use Rattle.panel_crossing.proofs.put_request.Goals as goal

pub returns : goal.returns
returns c =
    elim c.match-request.branch [
      | in-Stat w ↦ request-of _ _ _ w.in-Stat.is (rw c.lent_len-n.ensures at w.numbers-is) c.put_u64s.ensures
      | in-Sta2 w ↦ request-of _ _ _ w.in-Sta2.is (rw c.lent_len-n.ensures at w.numbers-is) c.put_u64s.ensures
      | in-List w ↦ request-of _ _ _ w.in-List.is (rw c.lent_len-n.ensures at w.numbers-is) c.put_u64s.ensures
      | in-Lis2 w ↦ request-of _ _ _ w.in-Lis2.is (rw c.lent_len-n.ensures at w.numbers-is) c.put_u64s.ensures
      | in-Recv w ↦ request-of _ _ _ w.in-Recv.is (rw c.lent_len-n.ensures at w.numbers-is) c.put_u64s.ensures
      | in-Rcv2 w ↦ request-of _ _ _ w.in-Rcv2.is (rw c.lent_len-n.ensures at w.numbers-is) c.put_u64s.ensures
      | in-Send w ↦ request-of _ _ _ w.in-Send.is (rw c.lent_len-n.ensures at w.numbers-is) c.put_u64s.ensures
      | in-Snd2 w ↦ request-of _ _ _ w.in-Snd2.is (rw c.lent_len-n.ensures at w.numbers-is) c.put_u64s.ensures
      | in-Data w ↦ request-of _ _ _ w.in-Data.is (rw c.lent_len-n.ensures at w.numbers-is) c.put_u64s.ensures
      | in-Done w ↦ request-of _ _ _ w.in-Done.is w.numbers-is c.put_u64s.ensures
      | in-Quit w ↦ request-of _ _ _ w.in-Quit.is w.numbers-is c.put_u64s.ensures
    ]
