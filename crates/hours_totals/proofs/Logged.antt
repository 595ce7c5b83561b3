-- The card in logs: what the record shows when each call is over is what the host has added up, and what the plain reader has consumed and written.
-- Assumes nothing.
use Prim.Native.Nat.{ℕ, ◌+◌, ◌-◌, ◌≤◌}
use mathlib.Core.List.{List, [], ◌∷◌, ◌++◌}
use mathlib.Core.Option.{Option}
use mathlib.Core.Path.{◌≡◌, refl, sym, ap, ◌∙◌, subst}
use native.Mathlib.Omega.{arith}
use lib.ListN.{length, length-append}
use Rattle.protocol.specs.Answers.{End}
use Rattle.protocol.specs.Bytes.{pick}
use Rattle.protocol.specs.Calls.{Made}
use Rattle.protocol.specs.Hours.{Hours}
use Rattle.protocol.specs.Reader.{Config, Report, config_after, plain_made, writes_made}
use Rattle.record.specs.Record.{word_of}
use Rattle.recv_buf.specs.RecvBuf.{cursor, held_bytes}
use Rattle.recv_buf.proofs.Laws.{held-length}
use Rattle.session.specs.Demand3.{Side, CodedFault, CodedReport, log_from, ReadsAt, reader}
use Rattle.session.specs.EveryHost.{CodedHost}
use Rattle.session.specs.Gate.{Timed, gate, gated}
use Rattle.session.specs.Host.{told, Entry, at_start, log_of}
use Rattle.session.proofs.Accepts.{log-accepts}
use Rattle.session.proofs.Logs.{log-ends, log-reads}
use Rattle.session_layer.specs.Layer.{was_refused, Account, at_opening, sizes, brought, ends_of}
use Rattle.session_layer.proofs.Claims.{sizes-joined, carried-at}
use Rattle.session_layer.proofs.Runs.{Over, AtEnds}
use Rattle.session_layer.proofs.Unread.{UnreadWithin, log-unread_within}
use Rattle.session_reads.specs.Counted.{reads_in}
use Rattle.session_reads.proofs.Turns.{log-linked}
use Rattle.boundary.specs.Boundary.{recorded, boundary}
use Rattle.boundary.proofs.Demand3.{every_host}
use Rattle.totals.specs.Crossing.{limit, consumed_of, written_of, reads_of}
use Rattle.totals.specs.Logged.{CardAt, CardsAt, CardLogged, plain_cards, shown_by, records_from, SideCards}
use Rattle.totals.proofs.Behind.{held_of}
use Rattle.totals.proofs.Cursor.{CursorIn, always_in}
use Rattle.totals.proofs.Layer.{here_received, here_consumed, here_written, here_reads}
use Rattle.hours_totals.specs.System.{timed_functions, timed_totals}
use Rattle.hours_totals.proofs.Claim.{every_host_timed}
use Rattle.hours_totals.proofs.Layer.{TimedKeeps, front-word, timed-around}

-- ---- against any host

-- the cursor of the session inside lies in the buffer
abbrev Placed : Timed (List ℕ) → List ℕ → Type 0
Placed k rx = CursorIn k.x rx

-- .. so the bytes held are those between
held-is : (x rx : List ℕ) → CursorIn x rx → length (held_bytes rx (cursor (word_of x 2) (word_of x 3))) ≡ held_of x
held-is x rx f = held-length rx (cursor (word_of x 2) (word_of x 3)) (record { ordered = f.order; within = f.inside })

module _ (l : Account) (e : Entry) (rec : List ℕ) (l' : Account) (o : Over (gate recorded) TimedKeeps Placed l e rec l') where
  abbrev r : TimedKeeps l' (told e.answer) rec o.x
  r = o.relates

  reads-is : reads_of rec ≡ l'.reads
  reads-is = front-word l' (told e.answer) rec o.x r 36 (omega arith) ∙ here_reads l' (told e.answer) r.front o.x.x r.keeps

  card_at : (m k : ℕ) → l.coming ≡ m → l.reads ≡ k → length e.unread ≤ m → CardAt m (l.received + brought e.asks) (l.written + sizes e.pieces) k e rec
  card_at m k c i u =
      let sh = told e.answer in
      let x : List ℕ = o.x.x in
      let n : length e.unread ≡ held_of x + length l'.left =
      ap length o.unread ∙ length-append (recorded.holds x o.rx) l'.left ∙ ap (λ (j : ℕ). j + length l'.left) (held-is x o.rx o.known) in
      let h : held_of x ≤ l'.received = omega (arith, r.keeps.all, o.coming) in
      let consumed : consumed_of rec ≡ l'.received - held_of x = front-word l' sh rec o.x r 33 (omega arith) ∙ here_consumed l' sh r.front x r.keeps o.known.order h in
      record {
        received = front-word l' sh rec o.x r 32 (omega arith) ∙ here_received l' sh r.front x r.keeps ∙ o.received;
        consumed = omega (arith, consumed, r.keeps.all, o.coming);
        written = front-word l' sh rec o.x r 34 (omega arith) ∙ here_written l' sh r.front x r.keeps ∙ o.written;
        reads = reads-is ∙ o.reads ∙ ap (λ (j : ℕ). pick (was_refused e.answer) j (reads_in e.asks)) i;
      }

cards_at : (m r n k : ℕ) (l : Account) (es : List Entry) (recs : List (List ℕ)) → l.coming ≡ m → l.received ≡ r → l.written ≡ n → l.reads ≡ k
    → AtEnds (gate recorded) TimedKeeps Placed l es recs → UnreadWithin m es → CardsAt m r n k es recs
cards_at m r n k l [] recs c p q i z u = z
cards_at m r n k l (e ∷ es) [] c p q i z u = absurd z
cards_at m r n k l (e ∷ es) (rec ∷ recs) c p q i (l', (o, z)) (u, us) = (
  rw (sym p, sym q) (card_at l e rec l' o m k c i u),
  cards_at m (r + brought e.asks) (n + sizes e.pieces) (reads_of rec) l' es recs (o.coming ∙ c) (o.received ∙ ap (λ (j : ℕ). j + brought e.asks) p)
      (o.written ∙ ap (λ (j : ℕ). j + sizes e.pieces) q) (sym (reads-is l e rec l' o)) z us,
)

pub card_logged : CardLogged timed_functions timed_totals
card_logged o rec rx msg p least room wide h z lends ms v incoming b within =
    let f = every_host_timed o rec rx msg p least room wide h z lends ms v incoming b within in
    let es : List Entry = log_of timed_totals.engine h ms (at_start incoming) (timed_totals.opened rec o rx msg).x rx msg in
    cards_at (length incoming) 0 0 0 (at_opening incoming) es (ends_of timed_totals.engine h ms (at_start incoming) (timed_totals.opened rec o rx msg).x rx msg) refl refl refl refl
    (carried-at limit timed_totals (gated boundary) TimedKeeps timed-around every_host Placed o rec rx msg p least room wide h z lends (always_in h o.hours) ms v incoming b within)
    (log-unread_within (length incoming) o.hours h.end (reader o (length rx) h.close) ms incoming _ _ es f.1
    (log-linked timed_totals.engine h ms (at_start incoming) (timed_totals.opened rec o rx msg).x rx msg) (omega arith))

-- ---- where all writes were accepted, and no read came to a fault too early

cards_plain : (h : Option Hours) (e : End) (g : Config) (ms : List Made) (m : ℕ) (v w : List ℕ) (r n k : ℕ) (es : List Entry) (recs : List (List ℕ)) → length es ≡ length ms
    → ReadsAt h g e ms v es → n ≡ length w → CardsAt m r n k es recs → shown_by recs ≡ plain_cards h g e ms m v w
unfolding plain_cards
cards_plain h e g [] m v w r n k [] recs i a b c = ap shown_by c
cards_plain h e g [] m v w r n k (x ∷ es) recs i a b c = absurd (omega (arith, i))
cards_plain h e g (q ∷ ms) m v w r n k [] recs i a b c = absurd a
cards_plain h e g (q ∷ ms) m v w r n k (x ∷ es) [] i a b c = absurd c
cards_plain h e g (q ∷ ms) m v w r n k (x ∷ es) (rec ∷ recs) i (reads, (wrote, (unread, a))) b (c, cs) =
    let u : List ℕ = (plain_made h g e q v).unread in
    let w' : List ℕ = w ++ writes_made h g q in
    let size : n + sizes x.pieces ≡ length w' = omega (arith, sizes-joined x.pieces, ap length wrote, length-append w (writes_made h g q)) in
    let one : consumed_of rec ≡ m - length u = omega (arith, c.consumed, ap length unread) in
    let two : written_of rec ≡ length w' = c.written ∙ size in
    let rest : shown_by recs ≡ plain_cards h (config_after g q.call) e ms m x.unread w' = cards_plain h e (config_after g q.call) ms m x.unread w' _ _ _ es recs (omega (arith, i)) a size cs in
    rw (one, two, rest, unread)

pub side_coded : (close : Report) (c : ℕ) → CodedReport close → (a : Side timed_totals c close) → CodedHost a.host
side_coded close c coded a =
    record { reads = λ i. subst CodedFault (sym (a.reads i)) tt; writes = λ i. subst CodedReport (sym (a.accepts i)) tt; close = subst CodedReport (sym a.closes) coded; end = a.coded }

pub side_cards : SideCards timed_functions timed_totals
side_cards o close ms c least coded v a within =
    let z : CodedHost a.host = side_coded close c coded a in
    rw (sym a.capacity, sym a.closes)
    (let f = (every_host_timed o a.x a.rx a.msg a.placed (omega (arith, a)) (omega (arith, a)) a.wide a.host z a.lends ms v a.incoming a.bytes
    (rw (a.capacity, a.closes) within)).1 in
    let k = card_logged o a.x a.rx a.msg a.placed (omega (arith, a)) (omega (arith, a)) a.wide a.host z a.lends ms v a.incoming a.bytes
    (rw (a.capacity, a.closes) within) in
    let g : Config = reader o (length a.rx) a.host.close in
    cards_plain o.hours a.host.end g ms (length a.incoming) a.incoming [] 0 0 0 (log_from timed_totals o ms a) (records_from timed_functions timed_totals o ms a) (log-ends o.hours a.host.end g ms a.incoming _ f)
    (log-reads o.hours a.host.end g ms a.incoming _ (log-accepts timed_totals.engine a.host a.accepts a.reads ms (at_start a.incoming) _ a.rx a.msg) f) refl k)
