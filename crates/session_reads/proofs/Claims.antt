-- Of any system that is faithful against every host, and of demand 3's sides.
-- Assumes nothing.
use Prim.Native.Nat.{ℕ}
use mathlib.Core.Bool.{Bool, true, false}
use mathlib.Core.List.{List, [], ◌∷◌}
use mathlib.Core.Option.{Option, none}
use mathlib.Core.Path.{◌≡◌, refl, sym, ap, ◌∙◌, subst}
use native.Mathlib.Omega.{arith}
use lib.ListN.{length}
use Rattle.protocol.specs.Answers.{End, refused}
use Rattle.protocol.specs.Bytes.{pick}
use Rattle.protocol.specs.Calls.{Call, Made}
use Rattle.protocol.specs.Hours.{Hours}
use Rattle.protocol.specs.Reader.{Config, accepted, config_after, plain_call, plain_made}
use Rattle.protocol.specs.Refusal.{turned, closed_hours}
use Rattle.protocol_reads.specs.Reads.{Tally, made_reads, plain_reads}
use Rattle.session.specs.Core.{core_system}
use Rattle.session.specs.Demand3.{System, CodedFault, CodedReport, reader, Bound, unbounded}
use Rattle.session.specs.EveryHost.{CodedHost, EveryHost}
use Rattle.session.specs.Faithful.{came_of, reply_of, AsMade, Faithful}
use Rattle.session.specs.Gate.{gated}
use Rattle.session.specs.Host.{Broken, Stop, Entry, outcome_of, at_start, log_of}
use Rattle.session.proofs.Accepts.{AllAccepted, log-accepts}
use Rattle.session.proofs.Demand3.{opens, begins-empty, core-hosts}
use Rattle.session_reads.specs.Counted.{counts_of, Counted, EveryRead, OpensEmpty, SideReads}
use Rattle.session_reads.proofs.Counted.{log-counted, log-ceiling}
use Rattle.session_reads.proofs.Turns.{log-linked, Linked}

pub every_read : {X : Type 0} (W : Bound) (S : System X) → EveryHost W S → OpensEmpty S → EveryRead W S
every_read W S every empty o x rx msg p least room wide h z lends ms v incoming b within =
    let f = (every o x rx msg p least room wide h z lends ms v incoming b within).1 in
    let k = subst (λ (y : List ℕ). Linked y incoming (log_of S.engine h ms (at_start incoming) (S.opened x o rx msg).x rx msg)) (empty o x rx msg p least room wide)
    (log-linked S.engine h ms (at_start incoming) (S.opened x o rx msg).x rx msg) in
    (log-counted o.hours h.end (reader o (length rx) h.close) ms [] incoming _ f k, log-ceiling o.hours h.end (reader o (length rx) h.close) ms [] incoming _ f k)

-- ---- where all writes were accepted, and no read came to a fault too early

-- b: the hours turned the call away
unread-plain : (b : Bool) (e : End) (g : Config) (q : Call) (v : List ℕ) (x : Entry) → (x.broken ≡ []) × (x.stopped ≡ none) → AsMade b g e q v x
    → x.unread ≡ (pick b (record { answer = refused closed_hours; unread = v }) (plain_call g e accepted q v)).unread
unread-plain true e g q v x o f = f.unread
unread-plain false e g q v x (b, s) f =
    f.unread ∙ ap (λ (bs : List Broken). (reply_of x.stopped g e (outcome_of bs) q v).unread) b ∙ ap (λ (st : Option Stop). (reply_of st g e accepted q v).unread) s

counts-plain : (h : Option Hours) (e : End) (g : Config) (ms : List Made) (v : List ℕ) (i : ℕ) (ks more : List ℕ) (es : List Entry) → AllAccepted es → Faithful h g e ms v es
    → Counted h g ms v i ks more es → counts_of es ≡ plain_reads h g e ms v i ks
unfolding plain_reads
counts-plain h e g [] v i ks more [] o f c = refl
counts-plain h e g [] v i ks more (x ∷ xs) o f c = absurd f
counts-plain h e g (m ∷ ms) v i ks more [] o f c = absurd f
counts-plain h e g (m ∷ ms) v i ks more (x ∷ xs) ((b, s), o) (f, fs) (c, cs) =
    let g' : Config = config_after g m.call in
    let t : made_reads h g (outcome_of x.broken) m (came_of x.stopped v) i ks ≡ made_reads h g accepted m v i ks =
    ap (λ (bs : List Broken). made_reads h g (outcome_of bs) m (came_of x.stopped v) i ks) b ∙ ap (λ (st : Option Stop). made_reads h g accepted m (came_of st v) i ks) s in
    let n : x.unread ≡ (plain_made h g e m v).unread = unread-plain (turned h g.setting m) e g m.call v x (b, s) f in
    ap (λ (j : ℕ). j ∷ counts_of xs) (c ∙ ap (λ (y : Tally). y.reads) t)
    ∙ ap (λ (js : List ℕ). (made_reads h g accepted m v i ks).reads ∷ js)
    (counts-plain h e g' ms x.unread _ _ more xs o fs cs ∙ ap (λ (y : Tally). plain_reads h g' e ms x.unread y.come y.lengths) t
    ∙ ap (λ (y : List ℕ). plain_reads h g' e ms y (made_reads h g accepted m v i ks).come (made_reads h g accepted m v i ks).lengths) n)

pub side_reads : {X : Type 0} (W : Bound) (S : System X) → EveryHost W S → OpensEmpty S → SideReads W S
side_reads W S every empty o close ms c least coded v a within more =
    let z : CodedHost a.host =
    record { reads = λ i. subst CodedFault (sym (a.reads i)) tt; writes = λ i. subst CodedReport (sym (a.accepts i)) tt; close = subst CodedReport (sym a.closes) coded; end = a.coded } in
    rw (sym a.capacity, sym a.closes)
    (let f = (every o a.x a.rx a.msg a.placed (omega (arith, a)) (omega (arith, a)) a.wide a.host z a.lends ms v a.incoming a.bytes
    (rw (a.capacity, a.closes) within)).1 in
    let k = (every_read W S every empty o a.x a.rx a.msg a.placed (omega (arith, a)) (omega (arith, a)) a.wide a.host z a.lends ms v a.incoming a.bytes
    (rw (a.capacity, a.closes) within)).0 more in
    counts-plain o.hours a.host.end _ ms a.incoming 0 _ more _ (log-accepts S.engine a.host a.accepts a.reads ms (at_start a.incoming) _ a.rx a.msg) f k)

-- ---- behind the gate nothing is held when a session is opened, if nothing is inside

pub gated-empty : {X : Type 0} (S : System X) → OpensEmpty S → OpensEmpty (gated S)
gated-empty S empty o k rx msg p least room wide = empty o k.x rx msg p least room wide

-- ---- the session's own steps

pub core-empty : OpensEmpty core_system
core-empty o x rx msg p least room wide = rw (opens o rx msg least room) (begins-empty o rx msg least room)

pub core-reads : EveryRead unbounded (gated core_system)
core-reads = every_read unbounded (gated core_system) core-hosts (gated-empty core_system core-empty)
