-- Demand 3: of any system whose logs are faithful against every host, by comparing the two plain readers; and of the session's own
-- steps, whose log is faithful from the opening.
-- Assumes nothing.
use Prim.Native.Nat.{ℕ, ◌≤◌, ◌<◌}
use mathlib.Core.List.{List, [], ◌++◌}
use mathlib.Core.Option.{Option}
use mathlib.Core.Path.{◌≡◌, refl, sym, ap, ◌∙◌, subst}
use native.Mathlib.Omega.{arith}
use borrow.Author.Tests.{le-ltb, le-leb}
use lib.ListN.{length, get_or}
use Rattle.ids.specs.Ids.{ids_of}
use Rattle.ids.proofs.Laws.{dialect-back}
use Rattle.protocol.specs.Answers.{Answer, End, done}
use Rattle.protocol.specs.Calls.{Made}
use Rattle.protocol.specs.Features.{features_of}
use Rattle.protocol.specs.Hours.{Hours}
use Rattle.protocol.specs.Reader.{Config, Report, plain_answers}
use Rattle.protocol.specs.Records.{arg_at}
use Rattle.protocol_readers.specs.Wider.{widen, Unstopped, Like, unread_at}
use Rattle.protocol_readers.proofs.Wider as Wider
use Rattle.features.specs.Meaning.{listed}
use Rattle.recv_buf.specs.RecvBuf.{held_bytes}
use Rattle.session.specs.Calls.{fresh, open_refusal}
use Rattle.session.specs.Core.{core, features_from, core_system}
use Rattle.session.specs.Demand3.{Opening, System, CodedFault, CodedReport, AllWide, Side, reader, log_from, answers_of, fail_length, Demand3, Bound, unbounded, Within, Claim}
use Rattle.session.specs.EveryHost.{CodedHost, EveryHost}
use Rattle.session.specs.Faithful.{Faithful}
use Rattle.session.specs.Host.{Host, Entry, at_start}
use Rattle.session.specs.Gate.{gated}
use Rattle.session.specs.State.{St, st, Good}
use Rattle.session.proofs.Accepts.{AllAccepted, log-accepts}
use Rattle.session.proofs.Gate.{faithful}
use Rattle.session.proofs.Gated.{log_at, log-gated}
use Rattle.session.proofs.Logs.{log-ends, log-reads, log-closes, log-answers, log-written, log-unread}
use Rattle.session.proofs.Turns.{held}

-- ---- two logs: xs and ys their answers, l the length of the FAIL that A's k-th call would meet

module _ (t : Option Hours) (g : Config) (d : ℕ) (e e' : End) (ms : List Made) (u x : List ℕ) (least : 8 ≤ g.capacity) (wide : g.capacity ≤ d) (xs ys : List Answer)
    (is : xs ≡ plain_answers t g e ms u) (is' : ys ≡ plain_answers t (widen d g) e' ms (u ++ x)) (k l : ℕ) (inside : k < length ms)
    (meets : l ≡ arg_at (unread_at t g e ms u k))
    (runs : Unstopped xs k) where
  like : Like g.capacity l (get_or xs k done) (get_or ys k done)
  like = rw (is, is', meets) (Wider.before d e e' x t g ms u least wide k inside (subst (λ (y : List Answer). Unstopped y k) is runs))

  alike : l ≤ g.capacity → get_or xs k done ≡ get_or ys k done
  alike h = rw (is, is') (Wider.uncut d e e' x t g ms u least wide k inside (subst (λ (y : List Answer). Unstopped y k) is runs) (omega arith))

-- ---- any system

module _ {X : Type 0} (S : System X) (opening : Opening) (close : Report) (ms : List Made) (c d : ℕ) (least : 8 ≤ c) (wide : c ≤ d) (a : Side S c close)
    (b : Side S d close) where
  abbrev A : List Entry
  A = log_from S opening ms a

  abbrev B : List Entry
  B = log_from S opening ms b

  abbrev t : Option Hours
  t = opening.hours

  abbrev g : Config
  g = reader opening c close

  abbrev g' : Config
  g' = reader opening d close

  demand : (S.opened a.x opening a.rx a.msg).number ≡ 0 → (S.opened b.x opening b.rx b.msg).number ≡ 0
      → Faithful t g a.host.end ms a.incoming A → Faithful t g' b.host.end ms b.incoming B
      → (more : List ℕ) → b.incoming ≡ a.incoming ++ more → Demand3 S opening close ms c d a b
  demand opens_a opens_b f f' more e =
      record {
        opens_a = opens_a;
        opens_b = opens_b;
        ends_a = log-ends t a.host.end g ms a.incoming A f;
        ends_b = log-ends t b.host.end g' ms b.incoming B f';
        reads_a = log-reads t a.host.end g ms a.incoming A o f;
        reads_b = log-reads t b.host.end g' ms b.incoming B o' f';
        answers_a = answers;
        answers_b = answers';
        written_a = log-written t a.host.end g ms a.incoming A o f;
        written_b = log-written t b.host.end g' ms b.incoming B o' f';
        closes_a = log-closes t a.host.end g ms a.incoming A f;
        closes_b = log-closes t b.host.end g' ms b.incoming B f';
        same_writes = log-written t b.host.end g' ms b.incoming B o' f' ∙ Wider.writes-same t g d ms ∙ sym
            (log-written t a.host.end g ms a.incoming A o f);
        before = λ k l runs. like t g d a.host.end b.host.end ms a.incoming more least wide (answers_of A) (answers_of B) answers longer k _ l
            (meets k l) runs;
        uncut = λ k l runs. alike t g d a.host.end b.host.end ms a.incoming more least wide (answers_of A) (answers_of B) answers longer k _ l
            (meets k l) runs;
        same = λ p q r. answers ∙ ap (λ (z : End). plain_answers t g z ms a.incoming) r ∙ ap (plain_answers t g b.host.end ms) q
            ∙ ap (λ (n : ℕ). plain_answers t (reader opening n close) b.host.end ms b.incoming) p ∙ sym answers';
      }
    where
      o : AllAccepted A
      o = log-accepts S.engine a.host a.accepts a.reads ms (at_start a.incoming) _ a.rx a.msg

      o' : AllAccepted B
      o' = log-accepts S.engine b.host b.accepts b.reads ms (at_start b.incoming) _ b.rx b.msg

      answers : answers_of A ≡ plain_answers t g a.host.end ms a.incoming
      answers = log-answers t a.host.end g ms a.incoming A o f

      answers' : answers_of B ≡ plain_answers t g' b.host.end ms b.incoming
      answers' = log-answers t b.host.end g' ms b.incoming B o' f'

      longer : answers_of B ≡ plain_answers t g' b.host.end ms (a.incoming ++ more)
      longer = answers' ∙ ap (plain_answers t g' b.host.end ms) e

      meets : (k : ℕ) → k < length ms → fail_length a.incoming A k ≡ arg_at (unread_at t g a.host.end ms a.incoming k)
      meets k l = ap arg_at (log-unread t a.host.end g ms a.incoming A o f k (omega arith))

-- a host that accepts every write is a host
module _ {X : Type 0} (W : Bound) (S : System X) (every : EveryHost W S) (opening : Opening) (close : Report) (ms : List Made) (c : ℕ) (least : 8 ≤ c)
    (coded : CodedReport close) (v : AllWide ms) (a : Side S c close) (within : Within W opening.hours (reader opening c close) ms a.incoming) where
  side_ok : ((S.opened a.x opening a.rx a.msg).number ≡ 0)
      × Faithful opening.hours (reader opening c close) a.host.end ms a.incoming (log_from S opening ms a)
  side_ok =
      let z : CodedHost a.host =
      record { reads = λ i. subst CodedFault (sym (a.reads i)) tt; writes = λ i. subst CodedReport (sym (a.accepts i)) tt; close = subst CodedReport (sym a.closes) coded; end = a.coded } in
      rw (sym a.capacity, sym a.closes)
      (every opening a.x a.rx a.msg a.placed (omega (arith, a)) (omega (arith, a)) a.wide a.host z a.lends ms v a.incoming a.bytes
      (rw (a.capacity, a.closes) within))

pub claimed : {X : Type 0} (W : Bound) (S : System X) → EveryHost W S → Claim W S
claimed W S every opening close ms c d least wide coded v a b more e within within' =
    let x = side_ok W S every opening close ms c least coded v a within in
    let y = side_ok W S every opening close ms d (omega arith) coded v b within' in
    demand S opening close ms c d least wide a b x.0 y.0 x.1 y.1 more e

-- ---- the session's own steps

-- the features of a banner, kept and listed again
pub features-listed : (banner : List ℕ) → listed (features_from (features_of banner)) ≡ features_of banner
unfolding features_of
features-listed banner = refl

-- buffers that opening takes
module _ (opening : Opening) (rx msg : List ℕ) (least : 8 ≤ length rx) (room : length rx ≤ length msg) where
  -- the session that it leaves
  abbrev pub begins : St
  begins = st (fresh (length rx) (length msg) (features_from (features_of opening.banner)) (ids_of opening.table)) rx msg

  pub opens : open_refusal (length rx) (length msg) ≡ 0
  unfolding open_refusal
  opens = rw (le-ltb (length rx) 8 least, le-ltb (length msg) (length rx) room)

  pub begins-good : Good begins
  begins-good = record { order = omega arith; inside = omega arith; rx = refl; least = least; aside = room; msg = refl }

  -- nothing is held yet
  pub begins-empty : held begins ≡ []
  unfolding held_bytes
  begins-empty = rw (le-leb 0 (length rx) (omega arith))

  -- against any host, also one whose reads, writes and close come to faults
  pub begins-faithful : (h : Host) (ms : List Made) (incoming : List ℕ)
      → Faithful opening.hours (reader opening (length rx) h.close) h.end ms incoming (log_at core opening.hours h ms (at_start incoming) begins.ses rx msg)
  begins-faithful h ms incoming =
      let g : Config = reader opening (length rx) h.close in
      subst (λ (y : List ℕ). Faithful opening.hours g h.end ms (y ++ incoming) (log_at core opening.hours h ms (at_start incoming) begins.ses rx msg)) begins-empty
      (faithful opening.hours h g ms (at_start incoming) begins begins-good refl (rw (features-listed opening.banner, dialect-back opening.table opening.legal)))

-- .. behind the gate
pub core-hosts : EveryHost unbounded (gated core_system)
core-hosts opening x rx msg placed least room wide h z lends ms v incoming b within = (
  opens opening rx msg least room,
  rw (opens opening rx msg least room, log-gated core opening.hours h ms (at_start incoming) (begins opening rx msg least room).ses rx msg)
      (begins-faithful opening rx msg least room h ms incoming),
)

pub core-claim : Claim unbounded (gated core_system)
core-claim = claimed unbounded (gated core_system) core-hosts
