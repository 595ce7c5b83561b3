-- Between two reads the session goes through needs of the plain reader, and stops at an answer or at a need that is not met.
-- First the tables: what the reader goes on with at each phase, how many turns may follow, the turn of each phase. Then no phase is named.
-- Assumes nothing.
use Prim.Native.Nat.{ℕ, zero, suc, ◌+◌, ◌-◌, ◌≤◌, ◌<◌, min}
use mathlib.Core.Bool.{Bool, true, false}
use mathlib.Core.List.{List, [], ◌++◌, append_assoc}
use mathlib.Core.Path.{◌≡◌, refl, sym, ap, ◌∙◌, subst, subst⁻¹, fun_ext}
use native.Mathlib.Omega.{arith}
use borrow.Author.Tests.{le-ltb, le-leb, ltb-true, ltb-false, ne_eqb}
use lib.Dec.{ltb, eqb}
use lib.ListN.{length, take, drop, length-append, length-drop}
use lib.Seq.{drop-append-le, length-take-le, drop-drop}
use Rattle.protocol.specs.Answers as P
use Rattle.protocol.specs.Bytes.{pick, same, over as laid}
use Rattle.protocol.specs.Calls as C
use Rattle.protocol.specs.Ids.{Id, Dialect, STAT, STA2, DATA, DONE, OKAY, FAIL, DENT, DNT2}
use Rattle.protocol.specs.Reader.{Prog, answer, need, skip, Result, ended, short, plain, drain, Way, among_ways, next_on, taking, stat_length, stat2_answer, stat_answer, stat_ways, entry_length, name_length, entry_answer, entry_ways, chunk_ways, okay_ways}
use Rattle.protocol.specs.Records.{id_at, arg_at, header_size, Dent, Stat2, Dent2}
use Rattle.protocol_readers.proofs.Needs.{plain-full, plain-short, plain-go_held, need-cong, drain-none, drain-some, drain-fuel}
use Rattle.features.specs.declared.Features.{Features}
use Rattle.format_record.specs.Told.{dent_of, stat2_of, dent2_of, told_stat, told_stat2}
use Rattle.ids.specs.declared.Ids.{Ids}
use Rattle.recv_buf.specs.RecvBuf.{cursor, held_count, held_bytes}
use Rattle.recv_buf.proofs.Laws.{held-length, compacted-head}
use Rattle.session.specs.declared.Answer.{Answer}
use Rattle.session.specs.declared.Answer.TheVariants as A
use Rattle.session.specs.declared.Pending.{Pending}
use Rattle.session.specs.declared.Pending.TheVariants.{Idle, Reading}
use Rattle.session.specs.declared.Phase.{Phase}
use Rattle.session.specs.declared.Phase.TheVariants.{Header, Stat, Entry, Last, NameV1, NameV2, Body, Text, Rest}
use Rattle.session.specs.declared.Reply.{Reply}
use Rattle.session.specs.declared.Reply.TheVariants as R
use Rattle.session.specs.declared.Session.{Session}
use Rattle.session.specs.declared.Then.{Then}
use Rattle.session.specs.declared.Then.TheVariants.{Stop, Go}
use Rattle.session.specs.declared.Turn.{Turn}
use Rattle.session.specs.declared.Version.{Version}
use Rattle.session.specs.declared.Version.TheVariants.{V1, V2}
use Rattle.session.specs.declared.Want.{Want}
use Rattle.session.specs.declared.Want.TheVariants as W
use Rattle.session.specs.Phases.{wants, stopping, strange, proceed, headed, stat_v2_answer, drained, turn_at}
use Rattle.session.specs.Reports.{read_in, read_at}
use Rattle.session.specs.Shown.{part_of, paper}
use Rattle.session.specs.State as S
use Rattle.session.specs.State.{dialect_in, St, st, Out, out, half, beside, answering, Good}
use Rattle.session.specs.Steps.{reading, asked, kept, over, on_hop, turned, followed, turn_of, hopped, pumped, read_on}
use Rattle.session.specs.Sends.{tidied}
use Rattle.session.proofs.Buf.{id-in, arg-in, stat-in, dent-in, stat2-in, dent2-in, four_bytes, drop-take, kept-first, kept-length, good-at, good-pending, good-tidied, held-tidied, sound-of, view, held-dropped, came-length, held-came}

abbrev pub held : St → List ℕ
held s = held_bytes s.rx s.ses.buf

-- ---- what the reader goes on with where the session stands at a phase: each phase is one need

abbrev pub version_of : Version → C.Version
version_of V1 = C.v1
version_of V2 = C.v2

abbrev pub ways_of : Want → List Way
ways_of (W.Stat v) = stat_ways (version_of v)
ways_of (W.Entry v) = entry_ways (version_of v)
ways_of W.Chunk = chunk_ways
ways_of W.Okay = okay_ways
ways_of W.Nothing = []

abbrev pub other_of : Want → List ℕ → P.Answer
other_of (W.Stat v) id = P.unexpected id
other_of (W.Entry v) id = P.unexpected id
other_of W.Chunk id = P.unexpected id
other_of W.Okay id = P.unexpected id
other_of W.Nothing id = P.broken P.closed

unfoldable pub cont : Dialect → ℕ → List ℕ → Phase → List ℕ → Prog
cont δ c msg (Header w) x = next_on δ c (ways_of w) (other_of w) x
cont δ c msg (Stat v) x = skip (stat_length (version_of v)) (answer (stat_answer (version_of v) x))
cont δ c msg (Entry v) x =
    skip (entry_length (version_of v)) (taking (name_length (version_of v) x) (λ name. answer (entry_answer (version_of v) x name)))
cont δ c msg (Last v) x = skip (entry_length (version_of v)) (answer P.end)
cont δ c msg (NameV1 d) x = skip d.namelen (answer (P.entry (told_stat d.stat) x))
cont δ c msg (NameV2 d) x = skip d.namelen (answer (P.entry2 (told_stat2 d.stat) x))
cont δ c msg (Body n) x = skip (header_size + n) (answer (P.chunk (drop header_size x)))
cont δ c msg (Text n) x = skip (min n c) (drain c n (n - min n c) x)
cont δ c msg (Rest left text) x = skip (min left c) (drain c left (left - min left c) (take text msg))

abbrev pub rest_of : Dialect → ℕ → List ℕ → Phase → Prog
rest_of δ c msg p = need (wants c p) (cont δ c msg p)

-- a header is document 01's next(..)
pub rest-header : (δ : Dialect) (c : ℕ) (msg : List ℕ) (w : Want) → rest_of δ c msg (Header w) ≡ need header_size (next_on δ c (ways_of w) (other_of w))
unfolding cont wants
rest-header δ c msg w = refl

-- what it goes on with after a turn
abbrev pub then_of : Dialect → ℕ → List ℕ → List ℕ → Then → Prog
then_of δ c rx msg (Stop a) = answer (paper rx msg a)
then_of δ c rx msg (Go p) = rest_of δ c msg p

-- A phase that a session reaches: what it keeps of a FAIL text is no longer than the capacity.
abbrev pub Reached : ℕ → Phase → Type 0
Reached c (Header w) = Unit {0}
Reached c (Stat v) = Unit {0}
Reached c (Entry v) = Unit {0}
Reached c (Last v) = Unit {0}
Reached c (NameV1 d) = Unit {0}
Reached c (NameV2 d) = Unit {0}
Reached c (Body n) = Unit {0}
Reached c (Text n) = Unit {0}
Reached c (Rest left text) = text ≤ c

-- how many turns may follow, beside those that leave nothing held
pub rank : Phase → ℕ
rank (Header w) = 2
rank (Stat v) = 0
rank (Entry v) = 1
rank (Last v) = 0
rank (NameV1 d) = 0
rank (NameV2 d) = 0
rank (Body n) = 0
rank (Text n) = 1
rank (Rest left text) = 0

rank_le : (p : Phase) → rank p ≤ 2
unfolding rank
rank_le (Header w) = omega arith
rank_le (Stat v) = omega arith
rank_le (Entry v) = omega arith
rank_le (Last v) = omega arith
rank_le (NameV1 d) = omega arith
rank_le (NameV2 d) = omega arith
rank_le (Body n) = omega arith
rank_le (Text n) = omega arith
rank_le (Rest left text) = omega arith

-- ---- one turn

-- a part that lies in its buffer
part_in_lem : (b : List ℕ) (at len : ℕ) (f : List ℕ → P.Answer) → at + len ≤ length b → part_of b at len f ≡ f (take len (drop at b))
unfolding part_of
part_in_lem b at len f h = rw (le-leb _ _ h)

-- a v2 stat, with an error or not
stat2-told : (rx msg : List ℕ) (s : Stat2) → paper rx msg (stat_v2_answer s) ≡ stat2_answer s
unfolding paper
stat2-told rx msg s = go (eqb s.error 0)
  where
    go : (b : Bool) → paper rx msg (pick b (A.StatV2 (stat2_of s)) (A.Errno s.error)) ≡ pick b (P.stat2 s) (P.errno s.error)
    go true = refl
    go false = refl

-- h bytes are left held: what follows is nearer to the end than b
abbrev pub Nearer : ℕ → ℕ → ℕ → Then → Type 0
Nearer c h b (Stop a) = Unit {0}
Nearer c h b (Go p) = (rank p + min h 1 < b) × Reached c p

-- h bytes are held from i on
module _ (δ : Dialect) (c : ℕ) (rx msg : List ℕ) (i h : ℕ) where
  -- The turn t at the phase q does at any unread bytes what the program p does, drops and keeps no more than is wanted, and brings the end nearer.
  pub record Fine (q : Phase) (p : Prog) (t : Turn) : Type 0 where
    pub does : (u : List ℕ) → plain c p u ≡ plain c (then_of δ c rx (kept rx i t.keeps msg) t.then) (drop t.drops u)
    pub drops : t.drops ≤ wants c q
    pub keeps : t.keeps ≤ wants c q
    pub nearer : Nearer c (h - t.drops) (rank q + min h 1) t.then

  stops : {q : Phase} {p : Prog} {n : ℕ} {a : Answer} → n ≤ wants c q → ((u : List ℕ) → plain c p u ≡ ended (paper rx msg a) (drop n u)) → Fine q p (stopping n a)
  unfolding plain kept
  stops l e = record { does = e; drops = l; keeps = omega arith; nearer = tt }

  goes : {q r : Phase} {p : Prog} {n k : ℕ} → (n ≤ wants c q) × (k ≤ wants c q) × (rank r < rank q) × Reached c r
      → ((u : List ℕ) → plain c p u ≡ plain c (rest_of δ c (kept rx i k msg) r) (drop n u)) → Fine q p (record { drops = n; keeps = k; then = Go r })
  goes l e = record { does = e; drops = l.0; keeps = l.1; nearer = (omega arith, l.3) }

  -- a header x
  module _ (x : List ℕ) (four : length (id_at x) ≡ 4) where
    fine-id : {q : Phase} (d : Id) {p₁ p₂ : Prog} {t₁ t₂ : Turn} → Fine q p₁ t₁ → Fine q p₂ t₂
        → Fine q (pick (same (id_at x) (δ.bytes d)) p₁ p₂) (pick (same (id_at x) (δ.bytes d)) t₁ t₂)
    fine-id {q} d {p₁} {p₂} {t₁} {t₂} y z = go (same (id_at x) (δ.bytes d))
      where
        go : (b : Bool) → Fine q (pick b p₁ p₂) (pick b t₁ t₂)
        go true = y
        go false = z

    strange-fine : {w : Want} → Fine (Header w) (answer (P.unexpected (id_at x))) (strange (id_at x))
    unfolding plain paper wants
    strange-fine = stops (omega arith) (λ u. ap (λ (y : List ℕ). ended (P.unexpected y) u) (four_bytes (id_at x) four))

    proceed-fine : (w : Want) → Fine (Header w) (among_ways δ (ways_of w) x (other_of w (id_at x))) (proceed δ w (id_at x) (arg_at x))
    unfolding plain paper cont wants rank kept
    proceed-fine (W.Stat V1) = fine-id STAT (goes (omega arith) (λ u. refl)) strange-fine
    proceed-fine (W.Stat V2) = fine-id STA2 (goes (omega arith) (λ u. refl)) strange-fine
    proceed-fine (W.Entry V1) = fine-id DENT (goes (omega arith) (λ u. refl)) (fine-id DONE (goes (omega arith) (λ u. refl)) strange-fine)
    proceed-fine (W.Entry V2) = fine-id DNT2 (goes (omega arith) (λ u. refl)) (fine-id DONE (goes (omega arith) (λ u. refl)) strange-fine)
    proceed-fine W.Chunk = fine-id DATA (goes (omega arith) (λ u. refl)) (fine-id DONE (stops (omega arith) (λ u. refl)) strange-fine)
    proceed-fine W.Okay = fine-id OKAY (stops (omega arith) (λ u. refl)) strange-fine
    proceed-fine W.Nothing = stops (omega arith) (λ u. refl)

    headed-fine : (w : Want) → Fine (Header w) (cont δ c msg (Header w) x) (headed δ w (id_at x) (arg_at x))
    unfolding plain cont wants rank headed kept
    headed-fine w = fine-id FAIL (goes (omega arith) (λ u. refl)) (proceed-fine w)

  -- a FAIL text: d bytes are dropped, k of them kept, so that m bytes are kept, which are t; n are still to be dropped
  drained-fine : {q : Phase} {d k f n m : ℕ} {t : List ℕ}
      → (1 ≤ c) × (d ≤ wants c q) × (k ≤ wants c q) × (n ≤ f) × (m ≤ c) × (m ≤ length (kept rx i k msg)) × ((n ≡ 0 → ⊥) → min (h - d) 1 < rank q + min h 1)
      → t ≡ take m (kept rx i k msg) → Fine q (skip d (drain c f n t)) (drained d k n m)
  unfolding plain paper cont wants rank drained
  drained-fine {d = d} {k = k} {f = f} {n = zero} {m = m} {t = t} b e =
      record {
        does = λ u. drain-none c f 0 t (drop d u) refl ∙ ap (λ (y : P.Answer). ended y (drop d u)) (ap P.fail e ∙ sym (part_in_lem (kept rx i k msg) 0 m P.fail (omega arith)));
        drops = b.1;
        keeps = b.2;
        nearer = tt;
      }
  drained-fine {f = zero} {n = suc n} b e = absurd (omega arith)
  drained-fine {d = d} {k = k} {f = suc f} {n = suc n} {m = m} {t = t} b e =
      let x : List ℕ = kept rx i k msg in
      let g : ℕ = min (suc n) c in
      rw (ne_eqb (suc n) 0 (omega arith))
      (record {
        does = λ u. rw (drain-some c f (suc n) t (omega arith), e)
            (need-cong c g (λ y. skip g (drain c f (suc n - g) (take m x))) (cont δ c x (Rest (suc n) m)) (drop d u)
            (drain-fuel c f (suc n) (suc n - g) (take m x) (drop g (drop d u)) b.0 (omega arith) (omega arith)));
        drops = b.1;
        keeps = b.2;
        nearer = (omega (arith, b.6 (omega arith)), b.4);
      })

  -- the turn of each phase
  module _ (least : 8 ≤ c) (aside : c ≤ length msg) (few : h ≤ c) (there : i + h ≤ length rx) where
    turn_fine : (p : Phase) → wants c p ≤ h → Reached c p → Fine p (cont δ c msg p (take (wants c p) (drop i rx))) (turn_at δ c p rx i)
    unfolding plain paper cont wants rank turn_at kept
    turn_fine (Header w) l r =
        let y : List ℕ = drop i rx in
        rw (← id-in y, ← arg-in y) (headed-fine (take 8 y) (ap length (id-in y) ∙ length-take-le 4 y (omega (arith, length-drop i rx))) w)
    turn_fine (Stat V1) l r = stops (omega arith) (λ u. rw (stat-in (drop i rx)))
    turn_fine (Stat V2) l r = stops (omega arith) (λ u. rw (stat2-in (drop i rx), stat2-told rx msg))
    turn_fine (Entry V1) l r = goes (omega arith) (λ u. ap (λ (d : Dent). plain c (rest_of δ c msg (NameV1 (dent_of d))) (drop 20 u)) (dent-in (drop i rx)))
    turn_fine (Entry V2) l r = goes (omega arith) (λ u. ap (λ (d : Dent2). plain c (rest_of δ c msg (NameV2 (dent2_of d))) (drop 76 u)) (dent2-in (drop i rx)))
    turn_fine (Last V1) l r = stops (omega arith) (λ u. refl)
    turn_fine (Last V2) l r = stops (omega arith) (λ u. refl)
    turn_fine (NameV1 d) l r = stops (omega arith) (λ u. rw (part_in_lem rx i d.namelen (P.entry (told_stat d.stat)) (omega arith)))
    turn_fine (NameV2 d) l r = stops (omega arith) (λ u. rw (part_in_lem rx i d.namelen (P.entry2 (told_stat2 d.stat)) (omega arith)))
    turn_fine (Body n) l r = stops (omega arith) (λ u. rw (part_in_lem rx (i + 8) n P.chunk (omega arith), drop-take 8 n (drop i rx), drop-drop 8 i rx))
    turn_fine (Text n) l r =
        let m : ℕ = min n c in
        let k : length (kept rx i m msg) ≡ length msg = kept-length rx msg i m (omega arith) (omega arith) in
        drained-fine (omega arith) (sym (kept-first rx msg i m (omega arith)))
    turn_fine (Rest n m) l r = drained-fine (omega arith) refl

-- ---- from here on no phase is named

-- what no step between two reads changes
pub record Frame : Type 0 where
  pub capacity : ℕ
  pub message : ℕ
  pub lent : ℕ
  pub features : Features
  pub ids : Ids
  pub ended : Bool

abbrev pub frame_of : Session → Frame
frame_of s = record { capacity = s.capacity; message = s.message; lent = s.lent; features = s.features; ids = s.ids; ended = s.ended }

-- What a step has kept of what the plain reader comes to, F, whatever bytes are still to come: the session waits at a need that is not met ..
pub record Waits (φ : Frame) (F : List ℕ → Result) (lost : Bool) (s : St) (i n : ℕ) (p : Phase) : Type 0 where
  pub frame : frame_of s.ses ≡ φ
  pub good : Good s
  pub reached : Reached s.ses.capacity p
  pub pend : s.ses.pending ≡ Reading p (s.ses.buf.head + wants s.ses.capacity p) lost
  pub from : i ≡ s.ses.buf.tail
  pub size : n ≡ s.ses.capacity - s.ses.buf.tail
  pub fits : wants s.ses.capacity p ≤ s.ses.capacity
  pub lacks : held_count s.ses.buf < wants s.ses.capacity p
  pub window : s.ses.buf.tail < s.ses.capacity
  pub same : (x : List ℕ) → F x ≡ plain s.ses.capacity (rest_of (dialect_in s.ses) s.ses.capacity s.msg p) (held s ++ x)

-- .. or has ended with an answer
pub record Ends (φ : Frame) (F : List ℕ → Result) (s : St) (a : Answer) : Type 0 where
  pub frame : frame_of s.ses ≡ φ
  pub good : Good s
  pub still : s.ses.pending ≡ Idle
  pub same : (x : List ℕ) → F x ≡ ended (paper s.rx s.msg a) (held s ++ x)

abbrev pub KeptOut : Frame → Bool → (List ℕ → Result) → St → Reply → Type 0
KeptOut φ lost F s (R.Told a) = Ends φ F s a
KeptOut φ lost F s (R.Read i n) = (p : Phase) × Waits φ F lost s i n p
KeptOut φ lost F s (R.WriteRx i n) = ⊥
KeptOut φ lost F s (R.WriteLent i n) = ⊥
KeptOut φ lost F s (R.WriteBytes b) = ⊥
KeptOut φ lost F s R.Close = ⊥

abbrev pub Kept : Frame → Bool → (List ℕ → Result) → Out → Type 0
Kept φ lost F o = KeptOut φ lost F o.st o.reply

pub kept-eq : (φ : Frame) (lost : Bool) (F G : List ℕ → Result) (o : Out) → ((x : List ℕ) → F x ≡ G x) → Kept φ lost G o → Kept φ lost F o
kept-eq φ lost F G o e = subst⁻¹ (λ (H : List ℕ → Result). Kept φ lost H o) (fun_ext e)

-- such a step keeps the frame and the invariant, and so the lengths of both buffers
module _ (φ : Frame) (lost : Bool) (F : List ℕ → Result) where
  pub kept-good : (o : Out) → Kept φ lost F o → (frame_of o.st.ses ≡ φ) × Good o.st
  kept-good o = go o.st o.reply
    where
      go : (s : St) (r : Reply) → KeptOut φ lost F s r → (frame_of s.ses ≡ φ) × Good s
      go s (R.Told a) k = (k.frame, k.good)
      go s (R.Read i n) k = (k.1.frame, k.1.good)
      go s (R.WriteRx i n) k = absurd k
      go s (R.WriteLent i n) k = absurd k
      go s (R.WriteBytes b) k = absurd k
      go s R.Close k = absurd k

  pub kept-lengths : (o : Out) → Kept φ lost F o → (length o.st.rx ≡ φ.capacity) × (length o.st.msg ≡ φ.message)
  kept-lengths o k =
      let g = kept-good o k in
      (g.1.rx ∙ ap (λ (ψ : Frame). ψ.capacity) g.0, g.1.msg ∙ ap (λ (ψ : Frame). ψ.message) g.0)

-- what the plain reader comes to at a phase, with the held bytes unread
abbrev pub at : St → Phase → List ℕ → Result
at s p x = plain s.ses.capacity (rest_of (dialect_in s.ses) s.ses.capacity s.msg p) (held s ++ x)

-- where it waits, the plain reader falls short as long as fewer bytes than the need have come
pub waits_short : {φ : Frame} {F : List ℕ → Result} {lost : Bool} {s : St} {i n : ℕ} {p : Phase} → Waits φ F lost s i n p
    → (x : List ℕ) → held_count s.ses.buf + length x < wants s.ses.capacity p → F x ≡ short (wants s.ses.capacity p) (held s ++ x)
waits_short {s = s} {p = p} w x l =
    w.same x
    ∙ plain-short s.ses.capacity (wants s.ses.capacity p) (cont (dialect_in s.ses) s.ses.capacity s.msg p) (held s ++ x) w.fits
    (omega (arith, length-append (held s) x, held-length s.rx s.ses.buf (sound-of s w.good)))

-- ---- the steps

abbrev pub wanted : St → Phase → ℕ
wanted s p = wants s.ses.capacity p

abbrev pub count : St → ℕ
count s = held_count s.ses.buf

-- how many turns may follow
abbrev turns : St → Phase → ℕ
turns s p = rank p + min (count s) 1

-- a read is asked, where bytes are held from h to t
reading-ok : {φ : Frame} {F : List ℕ → Result} (s : St) (h t : ℕ) (p : Phase) (lost : Bool) → frame_of s.ses ≡ φ → Good s → Reached s.ses.capacity p
    → h ≤ t → t < s.ses.capacity → wanted s p ≤ s.ses.capacity → t - h < wanted s p
    → ((x : List ℕ) → F x ≡ plain s.ses.capacity (rest_of (dialect_in s.ses) s.ses.capacity s.msg p) (held_bytes s.rx (cursor h t) ++ x))
    → Kept φ lost F (beside (half (reading s.ses h t p lost) s.rx) s.msg)
reading-ok s h t p lost φ g r o w f l e = (
  p,
  record {
    frame = φ;
    good = good-at s (cursor h t) s.rx s.msg _ g o (omega arith) refl refl;
    reached = r;
    pend = refl;
    from = refl;
    size = refl;
    fits = f;
    lacks = l;
    window = w;
    same = e;
  },
)

module _ (s : St) (p : Phase) (g : Good s) (r : Reached s.ses.capacity p) (f : wanted s p ≤ s.ses.capacity) where
  asked-ok : (lost : Bool) → count s < wanted s p → Kept (frame_of s.ses) lost (at s p) (beside (asked s.ses s.rx p lost) s.msg)
  unfolding asked
  asked-ok lost l = go (ltb s.ses.buf.tail s.ses.capacity) refl
    where
      go : (b : Bool) → ltb s.ses.buf.tail s.ses.capacity ≡ b
          → Kept (frame_of s.ses) lost (at s p)
          (beside
          (pick b (half (reading s.ses s.ses.buf.head s.ses.buf.tail p lost) s.rx)
          (half (reading s.ses (tidied s).ses.buf.head (tidied s).ses.buf.tail p lost) (tidied s).rx))
          s.msg)
      go true e = reading-ok s s.ses.buf.head s.ses.buf.tail p lost refl g r g.order (ltb-true _ _ e) f l (λ x. refl)
      go false e =
          let z = compacted-head s.rx s.ses.buf (sound-of s g) in
          reading-ok (tidied s) _ _ p lost refl (good-tidied s g) r (rw z (omega arith)) (rw z (omega arith)) f (rw z (omega arith))
          (λ x. ap (λ (y : List ℕ). plain s.ses.capacity (rest_of (dialect_in s.ses) s.ses.capacity s.msg p) (y ++ x)) (sym (held-tidied s g)))

  -- the need is met
  module _ (l : wanted s p ≤ count s) where
    pub fine : Fine (dialect_in s.ses) s.ses.capacity s.rx s.msg s.ses.buf.head (count s) p
        (cont (dialect_in s.ses) s.ses.capacity s.msg p (take (wanted s p) (drop s.ses.buf.head s.rx))) (turn_of s p)
    fine = turn_fine (dialect_in s.ses) s.ses.capacity s.rx s.msg s.ses.buf.head (count s) g.least (omega arith) (omega arith) (omega arith) p l r

    pub good-turned : Good (turned s (turn_of s p))
    good-turned =
        let d = fine.drops in
        let k = fine.keeps in
        good-at s _ s.rx (turned s (turn_of s p)).msg Idle g (omega arith) g.inside refl
        (kept-length s.rx s.msg s.ses.buf.head (turn_of s p).keeps (omega arith) (omega arith))

    turn_same : (x : List ℕ) → at s p x
        ≡ plain s.ses.capacity (then_of (dialect_in s.ses) s.ses.capacity s.rx (turned s (turn_of s p)).msg (turn_of s p).then) (held (turned s (turn_of s p)) ++ x)
    turn_same x =
        let δ : Dialect = dialect_in s.ses in
        let c : ℕ = s.ses.capacity in
        let t : Turn = turn_of s p in
        let d : t.drops ≤ wanted s p = fine.drops in
        let n = held-length s.rx s.ses.buf (sound-of s g) in
        plain-go_held c (wanted s p) (cont δ c s.msg p) (held s) x f (omega arith)
        ∙ ap (λ (y : List ℕ). plain c (cont δ c s.msg p y) (held s ++ x)) (view s g (wanted s p) l)
        ∙ fine.does (held s ++ x)
        ∙ ap (plain c (then_of δ c s.rx (turned s t).msg t.then))
        (drop-append-le t.drops (held s) x (omega arith) ∙ ap (λ (y : List ℕ). y ++ x) (sym (held-dropped s g t.drops (omega arith))))

-- what follows a turn: an answer, or k at the next phase
follow-ok : (F : List ℕ → Result) (lost : Bool) (k : St → Phase → Out) (s : St) (h b : ℕ) (t : Then) → Good s → Nearer s.ses.capacity h b t
    → ((x : List ℕ) → F x ≡ plain s.ses.capacity (then_of (dialect_in s.ses) s.ses.capacity s.rx s.msg t) (held s ++ x))
    → ((p : Phase) → rank p + min h 1 < b → Reached s.ses.capacity p → Kept (frame_of s.ses) lost (at s p) (k s p))
    → Kept (frame_of s.ses) lost F (on_hop k (followed s t))
unfolding plain
follow-ok F lost k s h b (Stop a) g l e ih = record { frame = refl; good = good-pending s g Idle; still = refl; same = e }
follow-ok F lost k s h b (Go p) g l e ih = kept-eq (frame_of s.ses) lost F (at s p) (k s p) e (ih p l.0 l.1)

module _ (s : St) (p : Phase) (lost : Bool) (g : Good s) (r : Reached s.ses.capacity p) (k : St → Phase → Out)
    (ih : (s' : St) (q : Phase) → Good s' → Reached s'.ses.capacity q → turns s' q < turns s p → Kept (frame_of s'.ses) lost (at s' q) (k s' q)) where
  hop-ok : Kept (frame_of s.ses) lost (at s p) (on_hop k (hopped s p lost))
  unfolding hopped paper
  hop-ok = go (ltb s.ses.capacity (wanted s p)) (ltb (count s) (wanted s p)) refl refl
    where
      go : (b₁ b₂ : Bool) → ltb s.ses.capacity (wanted s p) ≡ b₁ → ltb (count s) (wanted s p) ≡ b₂
          → Kept (frame_of s.ses) lost (at s p)
          (on_hop k
          (pick b₁ (over (out (answering s.ses A.TooLarge) s.rx s.msg))
          (pick b₂ (over (beside (asked s.ses s.rx p lost) s.msg))
          (followed (turned s (turn_of s p)) (turn_of s p).then))))
      go true b₂ e₁ e₂ =
          record {
            frame = refl;
            good = good-pending s g Idle;
            still = refl;
            same = λ x. plain-full s.ses.capacity (wanted s p) (cont (dialect_in s.ses) s.ses.capacity s.msg p) (held s ++ x) (ltb-true _ _ e₁);
          }
      go false true e₁ e₂ = asked-ok s p g r (ltb-false _ _ e₁) lost (ltb-true _ _ e₂)
      go false false e₁ e₂ =
          let f = ltb-false _ _ e₁ in
          let l = ltb-false _ _ e₂ in
          let t : Turn = turn_of s p in
          follow-ok (at s p) lost k (turned s t) (count s - t.drops) (turns s p) t.then (good-turned s p g r f l) (fine s p g r f l).nearer
          (turn_same s p g r f l) (λ q m j. ih (turned s t) q (good-turned s p g r f l) j (omega arith))

pump_ok : (n : ℕ) (s : St) (p : Phase) (lost : Bool) → Good s → Reached s.ses.capacity p → turns s p < n
    → Kept (frame_of s.ses) lost (at s p) (pumped n s p lost)
unfolding pumped
pump_ok zero s p lost g r m = absurd (omega arith)
pump_ok (suc n) s p lost g r m =
    hop-ok s p lost g r (λ s' q. pumped n s' q lost) (λ s' q g' r' l. pump_ok n s' q lost g' r' (omega arith))

-- The key lemma: reading on from a phase, the session does what the plain reader does there.
pub pumped-ok : (s : St) (p : Phase) (lost : Bool) → Good s → Reached s.ses.capacity p → Kept (frame_of s.ses) lost (at s p) (read_on s p lost)
pumped-ok s p lost g r = pump_ok 4 s p lost g r (omega (arith, rank_le p))

-- ---- a read

-- bytes v came into the window, and any others lie behind them
abbrev pub came : St → List ℕ → List ℕ → St
came s v junk =
    st (S.at s.ses (cursor s.ses.buf.head (s.ses.buf.tail + length v)) Idle) (laid s.rx s.ses.buf.tail (v ++ junk)) s.msg

module _ {φ : Frame} {F : List ℕ → Result} {lost : Bool} {s : St} {i n : ℕ} {p : Phase} (w : Waits φ F lost s i n p) (v junk : List ℕ)
    (some : 1 ≤ length v) (inside : i + length v + length junk ≤ s.ses.capacity) where
  within : s.ses.buf.tail + length v + length junk ≤ length s.rx
  within = omega (arith, w)

  pub good-came : Good (came s v junk)
  good-came =
      good-at s _ (came s v junk).rx s.msg Idle w.good (omega (arith, w.good)) (omega (arith, w))
      (came-length s.rx s.ses.buf (sound-of s w.good) v junk within) refl

  came_same : (x : List ℕ) → F (v ++ x) ≡ at (came s v junk) p x
  came_same x =
      w.same (v ++ x)
      ∙ ap (plain s.ses.capacity (rest_of (dialect_in s.ses) s.ses.capacity s.msg p))
      (sym (append_assoc (held s) v x) ∙ ap (λ (y : List ℕ). y ++ x) (sym (held-came s.rx s.ses.buf (sound-of s w.good) v junk within)))

  read_on-ok : Kept φ lost (λ x. F (v ++ x)) (read_on (came s v junk) p lost)
  read_on-ok =
      kept-eq φ lost (λ x. F (v ++ x)) (at (came s v junk) p) (read_on (came s v junk) p lost) came_same
      (subst (λ (ψ : Frame). Kept ψ lost (at (came s v junk) p) (read_on (came s v junk) p lost)) w.frame
      (pumped-ok (came s v junk) p lost good-came w.reached))

  -- only tail moves, or the session reads on
  pub stay-ok : Kept φ lost (λ x. F (v ++ x))
      (read_in (st s.ses (laid s.rx i (v ++ junk)) s.msg) p (s.ses.buf.head + wants s.ses.capacity p) lost (length v))
  unfolding read_in
  stay-ok =
      rw (w.from, ne_eqb (length v) 0 (omega arith), le-ltb (s.ses.capacity - s.ses.buf.tail) (length v) (omega (arith, w)))
      (go (ltb t (s.ses.buf.head + wanted s p)) (ltb t s.ses.capacity) refl refl)
    where
      t : ℕ
      t = s.ses.buf.tail + length v

      go : (b₁ b₂ : Bool) → ltb t (s.ses.buf.head + wanted s p) ≡ b₁ → ltb t s.ses.capacity ≡ b₂
          → Kept φ lost (λ x. F (v ++ x))
          (pick b₁
          (pick b₂ (beside (half (reading s.ses s.ses.buf.head t p lost) (came s v junk).rx) s.msg) (read_on (came s v junk) p lost))
          (read_on (came s v junk) p lost))
      go true true e₁ e₂ =
          reading-ok (came s v junk) s.ses.buf.head t p lost w.frame good-came w.reached
          (omega (arith, w.good)) (ltb-true _ _ e₂) w.fits (omega (arith, ltb-true)) came_same
      go true false e₁ e₂ = read_on-ok
      go false b₂ e₁ e₂ = read_on-ok

  -- the same, as the report is taken
  pub read_ok : Kept φ lost (λ x. F (v ++ x)) (read_at s.ses.pending (st s.ses (laid s.rx i (v ++ junk)) s.msg) (length v))
  unfolding read_at
  read_ok =
      subst⁻¹ (λ (q : Pending). Kept φ lost (λ x. F (v ++ x)) (read_at q (st s.ses (laid s.rx i (v ++ junk)) s.msg) (length v))) w.pend stay-ok
