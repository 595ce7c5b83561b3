-- No more bytes are held than were received: an event that is let in adds to the bytes held at most the count of a read.
-- Assumes nothing.
use Prim.Native.Nat.{ℕ, ◌+◌, ◌*◌, ◌≤◌, ◌<◌, ◌^◌}
use mathlib.Core.List.{List}
use mathlib.Core.Option.{none}
use mathlib.Core.Path.{◌≡◌, refl, sym, ap, ◌∙◌, subst}
use native.Mathlib.Omega.{arith}
use borrow.Author.Tests.{ltb-true}
use lib.Dec.{eqb, ltb}
use lib.ListN.{length}
use Rattle.protocol.specs.Bytes.{number_at}
use Rattle.protocol.specs.Features as P
use Rattle.protocol.proofs.Bodies.{pick-cases}
use Rattle.id_table.specs.Settings.{lent_in}
use Rattle.id_table.specs.Lent.{Lent}
use Rattle.id_table.specs.Lent as L
use Rattle.record.specs.Fields.{fields}
use Rattle.record.specs.Narrow.{Narrow}
use Rattle.record.specs.Record.{stored, word_of, size}
use Rattle.record.proofs.Numbers.{fields-wide}
use Rattle.record.proofs.Words.{word-words}
use Rattle.recv_buf.specs.RecvBuf.{cursor, held_count, held_bytes}
use Rattle.recv_buf.proofs.Laws.{held-length}
use Rattle.session.specs.Calls.{open_refusal}
use Rattle.session.specs.Core.{features_from}
use Rattle.session.specs.State.{st, Out}
use Rattle.session.specs.declared.Session.{Session}
use Rattle.boundary.specs.Crossing.{Crossed, is_refusal, back, OpenCrossed, opened_with, cross_open, fault_numbered, request_numbered, call_numbered, unknown_call}
use Rattle.boundary.proofs.Steps.{narrow-of}
use Rattle.boundary_misuse.specs.Misuse.{Act, start, report, has_read, wrote, fault, Event, Wide, Seen, crossed_by, refusal}
use Rattle.boundary_misuse.proofs.Known.{Knows, knows}
use Rattle.boundary_misuse.proofs.Misuse.{out_of, crosses, let_in, room_of, lent-some}
use Rattle.boundary_misuse.proofs.Table.{reported}
use Rattle.boundary_misuse.proofs.Unchanged.{told-number}
use Rattle.totals.proofs.Behind.{held_of}
use Rattle.totals.proofs.Held.{Leaves, numbered-in, read-in, wrote-in, fault-in}

-- the count of a read
abbrev pub gain : Act → ℕ
gain (start n a b i) = 0
gain (report (has_read k)) = k
gain (report wrote) = 0
gain (report (fault kind code)) = 0

held_word : (s : Session) → Narrow s → held_of (stored s) ≡ held_count s.buf
unfolding stored fields
held_word s n = let w = word-words (fields s) (fields-wide s n) in rw (w 3, w 2)

-- .. and are as many bytes in a receive buffer of its capacity
pub held-counted : (v : Seen) (x rx : List ℕ) → Knows v x → length rx ≡ v.capacity → length (held_bytes rx (cursor (word_of x 2) (word_of x 3))) ≡ held_of x
unfolding stored fields
held-counted v x rx (knows s sh own asked) l =
    let w = word-words (fields s) (fields-wide s own.narrow) in
    let f = own.fits in
    rw (w 2, w 3) (held-length rx s.buf (record { ordered = f.order; within = omega (arith, f.inside) }))

pub known-order : {v : Seen} {x : List ℕ} → Knows v x → word_of x 2 ≤ word_of x 3
unfolding stored fields
known-order (knows s sh own asked) = let w = word-words (fields s) (fields-wide s own.narrow) in rw (w 2, w 3) own.fits.order

held_back : (s : Session) (out : List ℕ) (o : Out) (n : ℕ) → Narrow s → Narrow o.st.ses → held_count s.buf ≤ n → Leaves n o → held_of (back (stored s) out o).rec ≤ n
held_back s out o n w w' h l =
    pick-cases (λ (r : List ℕ). held_of r ≤ n) (is_refusal o.reply) (λ _. omega (arith, held_word s w)) (λ _. omega (arith, held_word o.st.ses w'))

module _ (s : Session) (lent rx msg : List ℕ) where
  abbrev came : Act → Out
  came (start n a b i) = call_numbered n a b (st s rx msg) lent (request_numbered n a b) (unknown_call (st s rx msg))
  came (report r) = reported s lent rx msg r

  came-in : (x : Act) → Leaves (held_count s.buf + gain x) (came x)
  came-in (start n a b i) = numbered-in (held_count s.buf + 0) n a b (st s rx msg) lent (omega arith)
  came-in (report (has_read k)) = read-in (held_count s.buf + k) k (st s rx msg) (omega arith) (length lent)
  came-in (report wrote) = wrote-in (held_count s.buf + 0) (st s rx msg) lent (omega arith)
  came-in (report (fault kind code)) = fault-in (held_count s.buf + 0) (st s rx msg) (length lent) (fault_numbered kind code) (omega arith)

pub held-event : (v : Seen) (rec : List ℕ) (e : Event) → Knows v rec → Wide e → refusal v e ≡ none → held_of (crossed_by rec e).rec ≤ held_of rec + gain e.act
held-event v rec e (knows s sh own asked) w z =
    let room = room_of s sh own asked e.lent e.rx e.msg e.out e.act z in
    let few : length e.lent < 2 ^ 64 = omega (arith, w.lent) in
    let o : Out = out_of s sh own asked e.lent e.rx e.msg e.out room few w.msg w.rx e.act in
    let n : ℕ = held_count s.buf + gain e.act in
    let i = let_in s sh own asked e.lent e.rx e.msg e.out room few w.msg w.rx e.act w.act z in
    let b : held_of (back (stored s) e.out o).rec ≤ n = held_back s e.out o n own.narrow (narrow-of o.st i.0) (omega arith) (came-in s e.lent e.rx e.msg e.act) in
    subst (λ (c : Crossed). held_of c.rec ≤ held_of (stored s) + gain e.act) (sym (crosses s sh own asked e.lent e.rx e.msg e.out room few w.msg w.rx e.act))
    (omega (arith, b, held_word s own.narrow))

-- what is let in is told by 0 or one of 12 to 17, if it is told
pub event-number : (v : Seen) (rec : List ℕ) (e : Event) → Knows v rec → Wide e → refusal v e ≡ none
    → (n : ℕ) → (crossed_by rec e).number ≡ 256 * n → 0 < n → (12 ≤ n) × (n < 18)
event-number v rec e (knows s sh own asked) w z n q p =
    let room = room_of s sh own asked e.lent e.rx e.msg e.out e.act z in
    let few : length e.lent < 2 ^ 64 = omega (arith, w.lent) in
    let o : Out = out_of s sh own asked e.lent e.rx e.msg e.out room few w.msg w.rx e.act in
    let i = let_in s sh own asked e.lent e.rx e.msg e.out room few w.msg w.rx e.act w.act z in
    let c = crosses s sh own asked e.lent e.rx e.msg e.out room few w.msg w.rx e.act in
    told-number o.reply i.1 n (ap (λ (c : Crossed). c.number) (sym c) ∙ q) p

-- nothing is held where a session is opened
pub open_held : (rec settings banner : List ℕ) (c m : ℕ) → (cross_open rec settings banner c m).number ≡ 0 → held_of (cross_open rec settings banner c m).rec ≡ 0
unfolding cross_open stored fields number_at
open_held rec settings banner c m =
    pick-cases H (ltb 0 (open_refusal c m)) (λ e z. absurd (omega (arith, ltb-true 0 (open_refusal c m) e)))
    (λ _. pick-cases H (eqb (length rec) size) (λ _. go (lent_in settings) refl) (λ _ z. absurd (omega arith)))
  where
    H : OpenCrossed → Type 0
    H o = o.number ≡ 0 → held_of o.rec ≡ 0

    go : (t : Lent) → lent_in settings ≡ t → H (opened_with rec (features_from (P.features_of banner)) c m t)
    go (L.Ids t) e z = refl
    go (L.Refused n) e z = absurd (lent-some settings n e z)
