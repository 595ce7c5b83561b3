-- The message buffer through a call: at each phase, what it will be once the call is over, whatever bytes are still to come.
-- Assumes nothing.
use Prim.Native.Nat.{ℕ, zero, suc, ◌+◌, ◌-◌, ◌≤◌, ◌<◌, min}
use mathlib.Core.Bool.{Bool, true, false, ◌&&◌}
use mathlib.Core.List.{List, [], ◌++◌, append_assoc}
use mathlib.Core.Path.{◌≡◌, refl, sym, ap, ◌∙◌}
use native.Mathlib.Decide.{dec_le}
use native.Mathlib.Omega.{arith}
use borrow.Author.Tests.{le-ltb, le-leb, lt-leb, ltb-true, ltb-false, ne_eqb}
use lib.Dec.{eqb, leb, ltb}
use lib.ListN.{length, take, drop, length-append, length-drop}
use lib.Seq.{length-take-le, take-append-le, drop-append-le}
use Rattle.protocol.specs.Bytes.{pick, same, over as laid}
use Rattle.protocol.specs.Ids.{Dialect, STAT, STA2, DATA, DONE, OKAY, FAIL, DENT, DNT2}
use Rattle.protocol.specs.Reader.{Result}
use Rattle.protocol.specs.Records.{id_at, arg_at}
use Rattle.recv_buf.proofs.Laws.{held-length}
use Rattle.session.specs.declared.Answer.TheVariants as A
use Rattle.session.specs.declared.Pending.{Pending}
use Rattle.session.specs.declared.Pending.TheVariants.{Idle, Reading, Writing, Closing}
use Rattle.session.specs.declared.Phase.{Phase}
use Rattle.session.specs.declared.Phase.TheVariants.{Header, Stat, Entry, Last, NameV1, NameV2, Body, Text, Rest}
use Rattle.session.specs.declared.Then.{Then}
use Rattle.session.specs.declared.Then.TheVariants.{Stop, Go}
use Rattle.session.specs.declared.Turn.{Turn}
use Rattle.session.specs.declared.Version.TheVariants.{V1, V2}
use Rattle.session.specs.declared.Want.{Want}
use Rattle.session.specs.declared.Want.TheVariants as W
use Rattle.session.specs.Faithful.{fail_text, keeping}
use Rattle.session.specs.Phases.{wants, proceed, headed, drained, turn_at}
use Rattle.session.specs.Reports.{read_in}
use Rattle.session.specs.State.{dialect_in, St, st, Out, out, answering, beside, half, Good}
use Rattle.session.specs.Steps.{reading, asked, kept, over, on_hop, turned, followed, turn_of, hopped, pumped, read_on}
use Rattle.session.specs.Sends.{tidied}
use Rattle.session.proofs.Buf.{id-in, arg-in, held-tidied, sound-of, view, held-dropped, held-came}
use Rattle.session.proofs.Turns.{held, Frame, Reached, Nearer, Waits, wanted, count, fine, good-turned, came, good-came}

-- ---- what the message buffer will be: at a phase, with the unread bytes u

abbrev pub text_at : Dialect → ℕ → Phase → List ℕ → List ℕ → List ℕ
text_at δ c (Header w) msg u = keeping (fail_text δ c u) msg
text_at δ c (Stat v) msg u = msg
text_at δ c (Entry v) msg u = msg
text_at δ c (Last v) msg u = msg
text_at δ c (NameV1 d) msg u = msg
text_at δ c (NameV2 d) msg u = msg
text_at δ c (Body n) msg u = msg
text_at δ c (Text n) msg u = keeping (pick (leb (min n c) (length u)) (take (min n c) u) []) msg
text_at δ c (Rest left text) msg u = msg

-- .. after a turn, and with a read pending or nothing
abbrev text_then : Dialect → ℕ → Then → List ℕ → List ℕ → List ℕ
text_then δ c (Stop a) msg u = msg
text_then δ c (Go p) msg u = text_at δ c p msg u

abbrev pub text_in : Dialect → ℕ → Pending → List ℕ → List ℕ → List ℕ
text_in δ c Idle msg u = msg
text_in δ c (Reading p until lost) msg u = text_at δ c p msg u
text_in δ c (Writing q from k) msg u = msg
text_in δ c (Closing failed code) msg u = msg

-- ---- a need that is not met, or that is too large

none-fails : (δ : Dialect) (c : ℕ) (msg u : List ℕ) → length u < 8 → keeping (fail_text δ c u) msg ≡ msg
unfolding fail_text
none-fails δ c msg u l = rw (lt-leb (8 + min (arg_at u) c) (length u) (omega arith)) (go (same (id_at u) (δ.bytes FAIL)))
  where
    go : (b : Bool) → keeping (pick (b && false) (take (min (arg_at u) c) (drop 8 u)) []) msg ≡ msg
    go true = refl
    go false = refl

pub text-short : (δ : Dialect) (c : ℕ) (p : Phase) (msg u : List ℕ) → length u < wants c p → text_at δ c p msg u ≡ msg
unfolding wants
text-short δ c (Header w) msg u l = none-fails δ c msg u l
text-short δ c (Stat v) msg u l = refl
text-short δ c (Entry v) msg u l = refl
text-short δ c (Last v) msg u l = refl
text-short δ c (NameV1 d) msg u l = refl
text-short δ c (NameV2 d) msg u l = refl
text-short δ c (Body n) msg u l = refl
text-short δ c (Text n) msg u l = rw (lt-leb (min n c) (length u) l)
text-short δ c (Rest left text) msg u l = refl

text-large : (δ : Dialect) (c : ℕ) (p : Phase) (msg u : List ℕ) → 8 ≤ c → c < wants c p → text_at δ c p msg u ≡ msg
unfolding wants
text-large δ c (Header w) msg u m l = absurd (omega arith)
text-large δ c (Stat v) msg u m l = refl
text-large δ c (Entry v) msg u m l = refl
text-large δ c (Last v) msg u m l = refl
text-large δ c (NameV1 d) msg u m l = refl
text-large δ c (NameV2 d) msg u m l = refl
text-large δ c (Body n) msg u m l = refl
text-large δ c (Text n) msg u m l = absurd (omega arith)
text-large δ c (Rest left text) msg u m l = refl

-- ---- one turn, with u unread, whose first bytes are those of rx from i on

module _ (δ : Dialect) (c : ℕ) (rx msg : List ℕ) (i : ℕ) (u : List ℕ) where
  abbrev Same : List ℕ → Turn → Type 0
  Same m t = m ≡ text_then δ c t.then (kept rx i t.keeps msg) (drop t.drops u)

  same_if : (b : Bool) (t₁ t₂ : Turn) → Same msg t₁ → Same msg t₂ → Same msg (pick b t₁ t₂)
  same_if true t₁ t₂ x y = x
  same_if false t₁ t₂ x y = y

  -- a header that is no FAIL's
  proceeds : (w : Want) (id : List ℕ) (arg : ℕ) → Same msg (proceed δ w id arg)
  unfolding kept
  proceeds (W.Stat V1) id arg = same_if (same id (δ.bytes STAT)) _ _ refl refl
  proceeds (W.Stat V2) id arg = same_if (same id (δ.bytes STA2)) _ _ refl refl
  proceeds (W.Entry V1) id arg = same_if (same id (δ.bytes DENT)) _ _ refl (same_if (same id (δ.bytes DONE)) _ _ refl refl)
  proceeds (W.Entry V2) id arg = same_if (same id (δ.bytes DNT2)) _ _ refl (same_if (same id (δ.bytes DONE)) _ _ refl refl)
  proceeds W.Chunk id arg = same_if (same id (δ.bytes DATA)) _ _ refl (same_if (same id (δ.bytes DONE)) _ _ refl refl)
  proceeds W.Okay id arg = same_if (same id (δ.bytes OKAY)) _ _ refl refl
  proceeds W.Nothing id arg = refl

  -- a header
  heads : (w : Want) → 8 ≤ length u → Same (keeping (fail_text δ c u) msg) (headed δ w (id_at u) (arg_at u))
  unfolding fail_text headed kept
  heads w l = go (same (id_at u) (δ.bytes FAIL))
    where
      m : ℕ
      m = min (arg_at u) c

      size : leb m (length (drop 8 u)) ≡ leb (8 + m) (length u)
      size = sized (dec_le (8 + m) (length u))
        where
          sized : Dec (8 + m ≤ length u) → leb m (length (drop 8 u)) ≡ leb (8 + m) (length u)
          sized (yes p) = le-leb m (length (drop 8 u)) (omega (arith, length-drop 8 u)) ∙ sym (le-leb (8 + m) (length u) p)
          sized (no f) = lt-leb m (length (drop 8 u)) (omega (arith, length-drop 8 u)) ∙ sym (lt-leb (8 + m) (length u) (omega arith))

      go : (b : Bool) → Same (keeping (pick (b && leb (8 + m) (length u)) (take m (drop 8 u)) []) msg)
          (pick b (record { drops = 8; keeps = 0; then = Go (Text (arg_at u)) }) (proceed δ w (id_at u) (arg_at u)))
      go true = rw size
      go false = proceeds w (id_at u) (arg_at u)

  -- a text of k bytes is kept
  drains : (d k left text : ℕ) (m : List ℕ) → m ≡ kept rx i k msg → Same m (drained d k left text)
  unfolding drained
  drains d k left text m e = go (eqb left 0)
    where
      go : (b : Bool) → m ≡ text_then δ c (pick b (Stop (A.Fail text)) (Go (Rest left text))) (kept rx i k msg) (drop d u)
      go true = e
      go false = e

  turn_text : (p : Phase) → wants c p ≤ length u → take (wants c p) u ≡ take (wants c p) (drop i rx) → Same (text_at δ c p msg u) (turn_at δ c p rx i)
  unfolding wants turn_at kept
  turn_text (Header w) l e =
      let a : id_at (drop i rx) ≡ id_at u = sym (id-in (drop i rx)) ∙ ap id_at (sym e) ∙ id-in u in
      let b : arg_at (drop i rx) ≡ arg_at u = sym (arg-in (drop i rx)) ∙ ap arg_at (sym e) ∙ arg-in u in
      rw (a, b) (heads w l)
  turn_text (Stat V1) l e = refl
  turn_text (Stat V2) l e = refl
  turn_text (Entry V1) l e = refl
  turn_text (Entry V2) l e = refl
  turn_text (Last v) l e = refl
  turn_text (NameV1 d) l e = refl
  turn_text (NameV2 d) l e = refl
  turn_text (Body n) l e = refl
  turn_text (Text n) l e =
      let m : ℕ = min n c in
      let k : length (take m u) ≡ m = length-take-le m u l in
      drains m m (n - m) m _ (rw (le-leb m (length u) l, k, e))
  turn_text (Rest left text) l e = drains (min left c) 0 (left - min left c) text msg refl

-- ---- from here on no phase is named

abbrev pub Texts : Dialect → ℕ → (List ℕ → List ℕ) → Out → Type 0
Texts δ c M o = (x : List ℕ) → M x ≡ text_in δ c o.st.ses.pending o.st.msg (held o.st ++ x)

abbrev pub text : St → Phase → List ℕ → List ℕ
text s p x = text_at (dialect_in s.ses) s.ses.capacity p s.msg (held s ++ x)

module _ (s : St) (p : Phase) (lost : Bool) (g : Good s) where
  asked-text : Texts (dialect_in s.ses) s.ses.capacity (text s p) (beside (asked s.ses s.rx p lost) s.msg)
  unfolding asked
  asked-text x = go (ltb s.ses.buf.tail s.ses.capacity)
    where
      go : (b : Bool) → text s p x ≡ (let o : Out = beside
          (pick b (half (reading s.ses s.ses.buf.head s.ses.buf.tail p lost) s.rx)
          (half (reading s.ses (tidied s).ses.buf.head (tidied s).ses.buf.tail p lost) (tidied s).rx))
          s.msg in text_in (dialect_in s.ses) s.ses.capacity o.st.ses.pending o.st.msg (held o.st ++ x))
      go true = refl
      go false = ap (λ (y : List ℕ). text_at (dialect_in s.ses) s.ses.capacity p s.msg (y ++ x)) (sym (held-tidied s g))

  module _ (r : Reached s.ses.capacity p) (k : St → Phase → Out)
      (ih : (s' : St) (q : Phase) → Good s' → Reached s'.ses.capacity q → Texts (dialect_in s'.ses) s'.ses.capacity (text s' q) (k s' q)) where
    -- what follows a turn
    follow-text : (s' : St) (M : List ℕ → List ℕ) (h b : ℕ) (t : Then) → Good s' → Nearer s'.ses.capacity h b t
        → ((x : List ℕ) → M x ≡ text_then (dialect_in s'.ses) s'.ses.capacity t s'.msg (held s' ++ x)) → Texts (dialect_in s'.ses) s'.ses.capacity M (on_hop k (followed s' t))
    follow-text s' M h b (Stop a) g' l e x = e x
    follow-text s' M h b (Go q) g' l e x = e x ∙ ih s' q g' l.1 x

    hop-text : Texts (dialect_in s.ses) s.ses.capacity (text s p) (on_hop k (hopped s p lost))
    unfolding hopped
    hop-text = go (ltb s.ses.capacity (wanted s p)) (ltb (count s) (wanted s p)) refl refl
      where
        go : (b₁ b₂ : Bool) → ltb s.ses.capacity (wanted s p) ≡ b₁ → ltb (count s) (wanted s p) ≡ b₂
            → Texts (dialect_in s.ses) s.ses.capacity (text s p)
            (on_hop k
            (pick b₁ (over (out (answering s.ses A.TooLarge) s.rx s.msg))
            (pick b₂ (over (beside (asked s.ses s.rx p lost) s.msg))
            (followed (turned s (turn_of s p)) (turn_of s p).then))))
        go true b₂ e₁ e₂ = λ x. text-large (dialect_in s.ses) s.ses.capacity p s.msg (held s ++ x) g.least (ltb-true _ _ e₁)
        go false true e₁ e₂ = asked-text
        go false false e₁ e₂ =
            let c : ℕ = s.ses.capacity in
            let f = ltb-false _ _ e₁ in
            let l = ltb-false _ _ e₂ in
            let t : Turn = turn_of s p in
            let z = fine s p g r f l in
            let n = held-length s.rx s.ses.buf (sound-of s g) in
            follow-text (turned s t) (text s p) _ _ t.then (good-turned s p g r f l) z.nearer
            (λ x. turn_text (dialect_in s.ses) c s.rx s.msg s.ses.buf.head (held s ++ x) p (omega (arith, length-append (held s) x))
            (take-append-le (wanted s p) (held s) x (omega arith) ∙ view s g (wanted s p) l)
            ∙ ap (text_then (dialect_in s.ses) c t.then (turned s t).msg)
            (drop-append-le t.drops (held s) x (omega (arith, z.drops))
            ∙ ap (λ (y : List ℕ). y ++ x) (sym (held-dropped s g t.drops (omega (arith, z.drops))))))

pub pump_text : (n : ℕ) (s : St) (p : Phase) (lost : Bool) → Good s → Reached s.ses.capacity p
    → Texts (dialect_in s.ses) s.ses.capacity (text s p) (pumped n s p lost)
unfolding pumped
pump_text zero s p lost g r = asked-text s p lost g
pump_text (suc n) s p lost g r = hop-text s p lost g r (λ s' q. pumped n s' q lost) (λ s' q g' r'. pump_text n s' q lost g' r')

-- ---- a read: bytes v came into the window, and any others lie behind them

module _ {φ : Frame} {F : List ℕ → Result} {lost : Bool} {s : St} {i n : ℕ} {p : Phase} (w : Waits φ F lost s i n p) (v junk : List ℕ)
    (some : 1 ≤ length v) (inside : i + length v + length junk ≤ s.ses.capacity) where
  came-text : (x : List ℕ) → text_at (dialect_in s.ses) s.ses.capacity p s.msg (held s ++ (v ++ x)) ≡ text (came s v junk) p x
  came-text x =
      ap (text_at (dialect_in s.ses) s.ses.capacity p s.msg)
      (sym (append_assoc (held s) v x)
      ∙ ap (λ (y : List ℕ). y ++ x) (sym (held-came s.rx s.ses.buf (sound-of s w.good) v junk (omega (arith, w)))))

  pub stay-text : Texts (dialect_in s.ses) s.ses.capacity (λ x. text_at (dialect_in s.ses) s.ses.capacity p s.msg (held s ++ (v ++ x)))
      (read_in (st s.ses (laid s.rx i (v ++ junk)) s.msg) p (s.ses.buf.head + wants s.ses.capacity p) lost (length v))
  unfolding read_in
  stay-text =
      rw (w.from, ne_eqb (length v) 0 (omega arith), le-ltb (s.ses.capacity - s.ses.buf.tail) (length v) (omega (arith, w)))
      (go (ltb t (s.ses.buf.head + wanted s p)) (ltb t s.ses.capacity))
    where
      t : ℕ
      t = s.ses.buf.tail + length v

      M : List ℕ → List ℕ
      M x = text_at (dialect_in s.ses) s.ses.capacity p s.msg (held s ++ (v ++ x))

      on : Texts (dialect_in s.ses) s.ses.capacity M (read_on (came s v junk) p lost)
      on x = came-text x ∙ pump_text 4 (came s v junk) p lost (good-came w v junk some inside) w.reached x

      go : (b₁ b₂ : Bool) → Texts (dialect_in s.ses) s.ses.capacity M
          (pick b₁
          (pick b₂ (beside (half (reading s.ses s.ses.buf.head t p lost) (came s v junk).rx) s.msg) (read_on (came s v junk) p lost))
          (read_on (came s v junk) p lost))
      go true true = came-text
      go true false = on
      go false b₂ = on
