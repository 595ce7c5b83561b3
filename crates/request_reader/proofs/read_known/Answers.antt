-- `request_reader::read_known` meets its contract.
use mathlib.Core.Logic.{inl, inr}
use mathlib.Core.Option.{some}
use mathlib.Core.Path.{◌≡◌, refl, sym, ap, ◌∙◌}
use Rattle.format_id.specs.Ids.{id_of}
use Rattle.protocol.specs.Ids.{Id, STAT, STA2, LIST, LIS2, SEND, SND2, RECV, RCV2, DATA, DONE, OKAY, FAIL, DENT, DNT2, QUIT}
use Rattle.protocol.specs.Messages.{stat, sta2, list, lis2, recv}
use Rattle.protocol.specs.Requests.{Read, refused, time, foreign, kind_of, arg_ok, following, body_of, on_id}
use Rattle.request_reader.specs.Meaning.{own, on_arg}
use Rattle.request_reader.proofs.Parts.{on-path}
use Rattle.request_reader.proofs.Steps.{on-refused, on-whole, on-known}
use Rattle.request_reader.proofs.read_known.Goals.{After-u32_at-arg}
use Rattle.request_reader.proofs.read_known.Goals as goal

-- in the arm of the id i, an answer as its kind has it is the answer
arm : (c : After-u32_at-arg) (i : Id) (a : Read) → id_of c.args.id ≡ i → a ≡ on_arg (kind_of i) c.u32_at-arg.result (c.args.s.now)
    → a ≡ on_id (own (c.args.s.now)) (c.args.s.now) (some (id_of c.args.id))
arm c i a e f = rw e (f ∙ on-known (c.args.s.now) c.u32_at-arg.result i c.requires c.u32_at-arg.ensures)

pub returns-in-Stat : goal.returns-in-Stat
returns-in-Stat c =
    arm (goal.at.returns-in-Stat c).After-u32_at-arg STAT _ (ap id_of c.in-Stat.is) (c.read_path.ensures ∙ sym (on-path stat c.u32_at-arg.result (c.args.s.now)))

pub returns-in-Sta2 : goal.returns-in-Sta2
returns-in-Sta2 c =
    arm (goal.at.returns-in-Sta2 c).After-u32_at-arg STA2 _ (ap id_of c.in-Sta2.is) (c.read_path-in-Sta2.ensures ∙ sym (on-path sta2 c.u32_at-arg.result (c.args.s.now)))

pub returns-in-List : goal.returns-in-List
returns-in-List c =
    arm (goal.at.returns-in-List c).After-u32_at-arg LIST _ (ap id_of c.in-List.is) (c.read_path-in-List.ensures ∙ sym (on-path list c.u32_at-arg.result (c.args.s.now)))

pub returns-in-Lis2 : goal.returns-in-Lis2
returns-in-Lis2 c =
    arm (goal.at.returns-in-Lis2 c).After-u32_at-arg LIS2 _ (ap id_of c.in-Lis2.is) (c.read_path-in-Lis2.ensures ∙ sym (on-path lis2 c.u32_at-arg.result (c.args.s.now)))

pub returns-in-Recv : goal.returns-in-Recv
returns-in-Recv c =
    arm (goal.at.returns-in-Recv c).After-u32_at-arg RECV _ (ap id_of c.in-Recv.is) (c.read_path-in-Recv.ensures ∙ sym (on-path recv c.u32_at-arg.result (c.args.s.now)))

pub returns-in-Rcv2 : goal.returns-in-Rcv2
returns-in-Rcv2 c = arm (goal.at.returns-in-Rcv2 c).After-u32_at-arg RCV2 _ (ap id_of c.in-Rcv2.is) c.read_rcv2.ensures

pub returns-in-Send : goal.returns-in-Send
returns-in-Send c = arm (goal.at.returns-in-Send c).After-u32_at-arg SEND _ (ap id_of c.in-Send.is) c.read_send.ensures

pub returns-in-Snd2 : goal.returns-in-Snd2
returns-in-Snd2 c = arm (goal.at.returns-in-Snd2 c).After-u32_at-arg SND2 _ (ap id_of c.in-Snd2.is) c.read_snd2.ensures

pub returns-in-Data : goal.returns-in-Data
returns-in-Data c = arm (goal.at.returns-in-Data c).After-u32_at-arg DATA _ (ap id_of c.in-Data.is) c.read_data.ensures

pub returns-in-Done : goal.returns-in-Done
unfolding arg_ok following body_of
returns-in-Done c =
    arm (goal.at.returns-in-Done c).After-u32_at-arg DONE _ (ap id_of c.in-Done.is) (sym (on-whole time c.u32_at-arg.result (c.args.s.now) refl c.requires))

pub returns-in-Quit : goal.returns-in-Quit
returns-in-Quit c = arm (goal.at.returns-in-Quit c).After-u32_at-arg QUIT _ (ap id_of c.in-Quit.is) c.read_quit.ensures

-- an id that no request has
foreign-id : (c : After-u32_at-arg) (i : Id) → kind_of i ≡ foreign → id_of c.args.id ≡ i → refused ≡ on_id (own (c.args.s.now)) (c.args.s.now) (some (id_of c.args.id))
unfolding arg_ok
foreign-id c i k e = arm c i refused e (rw k (sym (on-refused foreign c.u32_at-arg.result (c.args.s.now) refl)))

pub returns-in-Okay : goal.returns-in-Okay
returns-in-Okay c =
    let here = (goal.at.returns-in-Okay c).After-u32_at-arg in
    elim c.in-Okay.is [
      | inl e ↦ foreign-id here OKAY refl (ap id_of e)
      | inr (inl e) ↦ foreign-id here FAIL refl (ap id_of e)
      | inr (inr (inl e)) ↦ foreign-id here DENT refl (ap id_of e)
      | inr (inr (inr e)) ↦ foreign-id here DNT2 refl (ap id_of e)
    ]
