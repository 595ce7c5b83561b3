-- No call and no report writes over what opening wrote. A step keeps its frame, and a stored session has the frame's numbers; a read that
-- leaves its need short writes one other number.
-- Assumes nothing.
use Prim.Native.Nat.{ℕ, zero, suc, ◌+◌, ◌*◌, ◌-◌, ◌<◌, ◌^◌}
use mathlib.Core.Bool.{true, ◌&&◌, and-eq-true_iff}
use mathlib.Core.List.{List, [], ◌∷◌, map}
use mathlib.Core.Option.{Option, none, some}
use mathlib.Core.Path.{◌≡◌, refl, sym, ap, subst, ◌∙◌, fun_ext}
use native.Mathlib.Omega.{arith}
use borrow.Author.Tests.{eqb-true, ltb-true}
use lib.Dec.{eqb, ltb}
use lib.ListN.{length, take, set}
use lib.Seq.{take-append_seam, drop-append-add}
use Rattle.protocol.specs.Answers as P
use Rattle.protocol.specs.Answers.{Answer}
use Rattle.protocol.specs.Bytes.{Bytes, le, bytes_of, number_at, put}
use Rattle.protocol.proofs.Bodies.{pick-cases}
use Rattle.features.specs.Meaning.{listed}
use Rattle.record.proofs.Numbers.{numbers, bits-forth, ids-back, fields-wide}
use Rattle.record.proofs.Words.{word-words, put_word, numbers_from, words-from}
use Rattle.record.specs.Fields.{bits, id_numbers, fields, session_of, pending_of, step_in, known}
use Rattle.record.specs.Narrow.{U64, Narrow}
use Rattle.record.specs.Record.{size, words, word_of, stored, loaded}
use Rattle.session.specs.declared.Session.{Session}
use Rattle.session.specs.Host.{Show, told}
use Rattle.session.specs.State.{St, st, Out}
use Rattle.session.proofs.Turns.{Frame, frame_of}
use Rattle.boundary.specs.Crossing.{Crossed, is_refusal, back, on_loaded, crossing, stays, cross_start, cross_read, cross_wrote, cross_fault}
use Rattle.boundary.specs.Told.{out_size}
use Rattle.boundary.proofs.Reports.{NarrowRefusal, lets, by_number, by_feature}
use Rattle.boundary.proofs.Steps.{narrow-of}
use Rattle.boundary_misuse.specs.Misuse.{HostReport, has_read, wrote, fault, Act, start, report, Event, WideAct, Wide, acted, crossed_by, call_of}
use Rattle.boundary_misuse.specs.Settled.{places, settled, SettledClaim}
use Rattle.boundary_misuse.proofs.Known.{seen_of}
use Rattle.boundary_misuse.proofs.Loaded.{Widths, loaded-narrow}
use Rattle.boundary_misuse.proofs.Table.{Comes, numbered-narrow, behind-narrow, calls, later-narrow, reported, reports}
use Rattle.boundary_misuse.proofs.Unchanged.{put_back_of, asks, asked_of}

-- ---- another number

beyond : (n i : ℕ) (ns : List ℕ) → word_of (words (n ∷ ns)) (suc i) ≡ word_of (words ns) i
unfolding number_at
beyond n i ns =
    let e : 8 * suc i ≡ 8 + 8 * i = omega arith in
    rw e (ap (λ (l : List ℕ). le (take 8 l)) (drop-append-add (bytes_of 8 n) (words ns) (8 * i)))

others : (ns : List ℕ) (i j t : ℕ) → (i ≡ j → ⊥) → word_of (words (set ns j t)) i ≡ word_of (words ns) i
unfolding number_at
others [] i j t h = refl
others (n ∷ ns) zero zero t h = absurd (h refl)
others (n ∷ ns) zero (suc j) t h =
    ap le (take-append_seam (bytes_of 8 n) (words (set ns j t))) ∙ sym (ap le (take-append_seam (bytes_of 8 n) (words ns)))
others (n ∷ ns) (suc i) zero t h = beyond t i ns ∙ sym (beyond n i ns)
others (n ∷ ns) (suc i) (suc j) t h = beyond n i (set ns j t) ∙ others ns i j t (λ e. h (ap suc e)) ∙ sym (beyond n i ns)

-- ---- a frame's numbers

abbrev settles : Frame → List ℕ
settles φ = φ.capacity ∷ φ.message ∷ bits (listed φ.features) ∷ id_numbers φ.ids

stored-settled : (s : Session) → Narrow s → settled (stored s) ≡ settles (frame_of s)
unfolding stored fields
stored-settled s n =
    let e : word_of (stored s) ≡ numbers (fields s) = fun_ext (word-words (fields s) (fields-wide s n)) in
    ap (λ (n : ℕ → ℕ). map n places) e
    ∙ ap (λ (l : List ℕ). s.capacity ∷ s.message ∷ bits (listed s.features) ∷ l) (ap id_numbers (ids-back s s.pending))

-- ---- any record

module _ (rec : List ℕ) (bytes : Bytes rec) where
  -- a session that it holds has its numbers
  abbrev Held : Option Session → Type 0
  Held none = Unit {0}
  Held (some s) = (length rec ≡ size) × (settles (frame_of s) ≡ settled rec)

  few_bits : known (word_of rec) ≡ true → word_of rec 5 < 2 ^ 7
  unfolding known
  few_bits e =
      let n : ℕ → ℕ = word_of rec in
      let parts = ((and-eq-true_iff (ltb (n 5) 128 && ltb (n 6) 2 && ltb (n 7) 31 && ltb (n 8) 2) (step_in (n 0) (pending_of n))).0 e).0 in
      let flag = ((and-eq-true_iff (ltb (n 5) 128 && ltb (n 6) 2 && ltb (n 7) 31) (ltb (n 8) 2)).0 parts).0 in
      let state = ((and-eq-true_iff (ltb (n 5) 128 && ltb (n 6) 2) (ltb (n 7) 31)).0 flag).0 in
      ltb-true (n 5) 128 ((and-eq-true_iff (ltb (n 5) 128) (ltb (n 6) 2)).0 state).0

  held : Held (loaded rec)
  unfolding loaded session_of
  held =
      pick-cases Held (eqb (length rec) size && known (word_of rec))
      (λ e. let (a, b) = (and-eq-true_iff (eqb (length rec) size) (known (word_of rec))).0 e in (
        eqb-true (length rec) size a,
        rw (bits-forth 7 (word_of rec 5) (few_bits b)),
      ))
      (λ e. tt)

  -- only another tail
  tail-settled : (t : ℕ) → length rec ≡ size → settled (put rec 24 (bytes_of 8 t)) ≡ settled rec
  unfolding numbers_from
  tail-settled t h =
      let ns : List ℕ = numbers_from rec 32 0 in
      let e : rec ≡ words ns = words-from rec bytes 32 0 (omega arith) in
      let p : put rec 24 (bytes_of 8 t) ≡ words (set ns 3 t) = ap (λ (l : List ℕ). put l 24 (bytes_of 8 t)) e ∙ put_word ns 3 t (omega arith) in
      let w : (i : ℕ) → (i ≡ 3 → ⊥) → word_of (put rec 24 (bytes_of 8 t)) i ≡ word_of rec i =
      λ i z. ap (λ (l : List ℕ). word_of l i) p ∙ others ns i 3 t z ∙ sym (ap (λ (l : List ℕ). word_of l i) e) in
      rw (
        w 0 (λ z. omega arith),
        w 1 (λ z. omega arith),
        w 5 (λ z. omega arith),
        w 24 (λ z. omega arith),
        w 25 (λ z. omega arith),
        w 26 (λ z. omega arith),
        w 27 (λ z. omega arith),
        w 28 (λ z. omega arith),
        w 29 (λ z. omega arith),
        w 30 (λ z. omega arith),
        w 31 (λ z. omega arith),
      )

  module _ (e : Event) (w : Wide e) where
    abbrev Kept : Crossed → Type 0
    Kept c = settled c.rec ≡ settled rec

    back-kept : (s : Session) → settles (frame_of s) ≡ settled rec → (r : Option Answer) (φ : Frame) → settles φ ≡ settles (frame_of s) → (o : Out)
        → NarrowRefusal r → Comes r φ (st s e.rx e.msg) o → Kept (back rec e.out o)
    back-kept s i r φ f o lets g =
        pick-cases (λ (l : List ℕ). settled l ≡ settled rec) (is_refusal o.reply) (λ _. refl)
        (λ _. stored-settled o.st.ses (narrow-of o.st g.inv) ∙ ap settles g.frame ∙ f ∙ i)
    back-kept s i r φ f o (by_number n) g = subst (λ (y : Out). Kept (back rec e.out y)) (sym g) refl
    back-kept s i r φ f o (by_feature n) g = subst (λ (y : Out). Kept (back rec e.out y)) (sym g) refl

    crossing-kept : (k : St → Crossed)
        → ((s : Session) → Narrow s → length rec ≡ size → settles (frame_of s) ≡ settled rec → Kept (k (st s e.rx e.msg)))
        → Kept (crossing rec e.rx e.msg e.out k)
    crossing-kept k f = pick-cases Kept (ltb (length e.out) out_size) (λ _. refl) (λ _. go (loaded rec) (loaded-narrow rec bytes) held)
      where
        go : (o : Option Session) → Widths o → Held o → Kept (on_loaded rec e.rx e.msg e.out k o)
        go none n h = refl
        go (some s) n h = f s n h.0 h.1

    few : U64 (length e.lent)
    few = omega (arith, w.lent)

    report-kept : (r : HostReport) → WideAct (report r) → (s : Session) → Narrow s → settles (frame_of s) ≡ settled rec
        → Kept (back rec e.out (reported s e.lent e.rx e.msg r))
    report-kept r x s n i =
        let sh : Show = asks s.buf.tail (s.capacity - s.buf.tail) s.pending in
        back-kept s i _ _ refl _ (later-narrow s e.lent e.rx e.msg sh r)
        (reports s e.lent e.rx e.msg n few w.msg w.rx sh (asked_of _ _ s.pending) r x)

    event-kept : (x : Act) → WideAct x → Kept (acted rec e x)
    unfolding cross_start cross_read cross_wrote cross_fault
    event-kept (start n a b t) (p, (q, _)) =
        crossing-kept (put_back_of rec e.lent e.out (start n a b t))
        (λ s m l i. back-kept s i _ _ refl _ (behind-narrow s e.lent e.rx e.msg _ (numbered-narrow (seen_of (frame_of s) (told P.done)) (call_of n a b e.lent)))
        (calls s e.lent e.rx e.msg m few w.msg w.rx (told P.done) a b p q n))
    event-kept (report (has_read k)) x =
        crossing-kept (put_back_of rec e.lent e.out (report (has_read k)))
        (λ s m l i. pick-cases Kept (stays (st s e.rx e.msg) (length e.lent) k) (λ _. tail-settled (s.buf.tail + k) l) (λ _. report-kept (has_read k) x s m i))
    event-kept (report wrote) x = crossing-kept (put_back_of rec e.lent e.out (report wrote)) (λ s m l i. report-kept wrote x s m i)
    event-kept (report (fault kind code)) x = crossing-kept (put_back_of rec e.lent e.out (report (fault kind code))) (λ s m l i. report-kept (fault kind code) x s m i)

pub settled-stays : SettledClaim crossed_by
settled-stays rec bytes e w = event-kept rec bytes e w e.act w.act
