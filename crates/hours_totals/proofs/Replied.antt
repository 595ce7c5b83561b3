-- The reads in the last reply of each call are those that the log has of it, and the plain reader's.
-- Assumes nothing.
use Prim.Native.Nat.{ℕ}
use mathlib.Core.Bool.{Bool, true, false}
use mathlib.Core.List.{List, [], ◌∷◌, map}
use mathlib.Core.Path.{◌≡◌, refl, sym, ap, ◌∙◌, subst}
use native.Mathlib.Omega.{arith}
use lib.ListN.{length}
use Rattle.protocol.specs.Bytes.{pick, number_at}
use Rattle.protocol.specs.Reader.{Config}
use Rattle.session.specs.Demand3.{System, reader}
use Rattle.session.specs.Gate.{Timed, gate, gated}
use Rattle.session.specs.Host.{Show, Entry, at_start, log_of}
use Rattle.session_layer.specs.Layer.{was_refused, Account, Around, at_opening}
use Rattle.session_layer.proofs.Claims.{same_log, carried-at}
use Rattle.session_layer.proofs.Refused.{Unasked, RefusedUnasked, log-unasked}
use Rattle.session_layer.proofs.Runs.{Over, AtEnds}
use Rattle.session_reads.specs.Counted.{reads_in, counts_of}
use Rattle.boundary.specs.Boundary.{recorded, boundary}
use Rattle.boundary.specs.Crossing.{Crossed}
use Rattle.boundary.proofs.Demand3.{every_host}
use Rattle.totals.specs.Card.{count_in}
use Rattle.totals.specs.Crossing.{limit}
use Rattle.totals.specs.Replied.{replying, no_reply, ReadsTold, SideTold}
use Rattle.totals.proofs.Crosses.{Tells, engine-layer}
use Rattle.hours_totals.specs.System.{timed_functions, timed_totals}
use Rattle.hours_totals.proofs.Claim.{side_reads_timed}
use Rattle.hours_totals.proofs.Layer.{TimedKeeps, timed-follow, timed-around}
use Rattle.hours_totals.proofs.Logged.{side_coded}

-- ---- a layer that keeps the reply

-- the record is the account's, and so are the reads in the reply
abbrev Replies : Account → Show → Crossed → Timed (List ℕ) → Type 0
Replies l sh c k = TimedKeeps l sh c.rec k × Tells l sh c

abbrev replied : System Crossed
replied =
    record {
      engine = replying timed_functions;
      opened = λ c o rx msg. record { number = (timed_totals.opened c.rec o rx msg).number; x = no_reply (timed_totals.opened c.rec o rx msg).x };
      place = λ c. timed_totals.place c.rec;
      lends = timed_totals.lends;
    }

replied-around : Around limit replied (gated boundary) Replies
unfolding number_at
replied-around =
    record {
      layer = engine-layer TimedKeeps limit timed_functions (gate recorded) timed_totals.lends timed-follow (λ c. c.rec) (λ c. c) Replies (λ l sh c k r. r.0) (λ l sh c k r t. (r, t));
      inner = λ c. timed-around.inner c.rec;
      place = λ c p. timed-around.place c.rec p;
      lends = λ z h. h;
      number = λ c p o rx msg. timed-around.number c.rec p o rx msg;
      opens = λ c p o rx msg incoming e b. (timed-around.opens c.rec p o rx msg incoming e b, λ _. refl);
    }

-- ---- when calls are over

-- nothing need be known of the session inside
abbrev Any : Timed (List ℕ) → List ℕ → Type 0
Any k rx = Unit {0}

-- a call that was refused has asked nothing, so it made no reads
count_at_lem : (l : Account) (e : Entry) (c : Crossed) (l' : Account) → Over (gate recorded) Replies Any l e c l'
    → (was_refused e.answer ≡ true → Unasked e.asks e.pieces e.broken e.closes) → count_in c ≡ reads_in e.asks
count_at_lem l e c l' o u = o.relates.1 (λ w. w) ∙ ap (pick (was_refused e.answer) 0) o.reads ∙ go (was_refused e.answer) refl
  where
    go : (b : Bool) → was_refused e.answer ≡ b → pick b 0 (pick b l.reads (reads_in e.asks)) ≡ reads_in e.asks
    go true f = ap reads_in (sym (u f).0)
    go false f = refl

counts-at : (l : Account) (es : List Entry) (cs : List Crossed) → AtEnds (gate recorded) Replies Any l es cs → RefusedUnasked es → map count_in cs ≡ counts_of es
counts-at l [] cs z u = ap (map count_in) z
counts-at l (e ∷ es) [] z u = absurd z
counts-at l (e ∷ es) (c ∷ cs) (l', (o, z)) (u, us) = rw (count_at_lem l e c l' o u, counts-at l' es cs z us)

pub reads-told : ReadsTold timed_functions timed_totals
unfolding replied-around
reads-told o rec rx msg p least room wide h z lends ms v incoming b within =
    let g : Config = reader o (length rx) h.close in
    let x = every_host o (timed-around.inner rec) rx msg (timed-around.place rec p) least room wide h z lends ms v incoming b tt in
    let mine = same_log limit replied (gated boundary) Replies replied-around o (no_reply rec) rx msg p h lends ms incoming within x.0 x.1 in
    let its = same_log limit timed_totals (gated boundary) TimedKeeps timed-around o rec rx msg p h lends ms incoming within x.0 x.1 in
    counts-at (at_opening incoming) (log_of (replying timed_functions) h ms (at_start incoming) (no_reply (timed_totals.opened rec o rx msg).x) rx msg) _
    (carried-at limit replied (gated boundary) Replies replied-around every_host Any o (no_reply rec) rx msg p least room wide h z lends (λ _ _ _ _ _ _ _. tt) ms v incoming b within)
    (subst RefusedUnasked (sym mine) (log-unasked o.hours h.end g ms incoming _ x.1))
    ∙ ap counts_of (mine ∙ sym its)

-- ---- on a side of demand 3

pub side_told : SideTold timed_functions timed_totals
side_told o close ms c least coded v a within more =
    reads-told o a.x a.rx a.msg a.placed (omega (arith, a)) (omega (arith, a)) a.wide a.host (side_coded close c coded a) a.lends ms v a.incoming a.bytes
    (rw (a.capacity, a.closes) within)
    ∙ side_reads_timed o close ms c least coded v a within more
