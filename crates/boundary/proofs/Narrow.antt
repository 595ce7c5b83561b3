-- The widths of a reply's numbers, and its parts inside their slices; and that a turn keeps to them: what bytes spell is as wide as its field,
-- and what is told lies in the buffer.
-- Assumes nothing.
use Prim.Native.Nat.{ℕ, ◌+◌, ◌-◌, ◌≤◌, ◌<◌, ◌^◌, min}
use mathlib.Core.Bool.{Bool, true, false}
use mathlib.Core.List.{List}
use mathlib.Core.Path.{◌≡◌, refl, sym, subst}
use native.Mathlib.Decide.{dec_le}
use native.Mathlib.Omega.{arith}
use lib.Dec.{eqb, leb}
use lib.ListN.{length, take, drop}
use lib.Seq.{take-take}
use Rattle.protocol.specs.Bytes.{Bytes, pick, number_at, signed, same}
use Rattle.protocol.specs.Ids.{Dialect, STAT, STA2, DATA, DONE, OKAY, FAIL, DENT, DNT2}
use Rattle.protocol.specs.Records.{id_at, arg_at, stat_at, dent_at, stat2_body, stat2_at, dent2_at}
use Rattle.protocol.proofs.Bodies.{pick-cases}
use Rattle.protocol.proofs.Bytes.{bytes_drop}
use Rattle.protocol.proofs.Records.{signed_low, signed_high}
use Rattle.protocol.proofs.Words.{bytes_take, le_below, number-below}
use Rattle.format_record.specs.Told.{stat_of, stat2_of}
use Rattle.format_record.specs.declared.DentV1.{DentV1}
use Rattle.format_record.specs.declared.DentV2.{DentV2}
use Rattle.format_record.specs.declared.StatV1.{StatV1}
use Rattle.format_record.specs.declared.StatV2.{StatV2}
use Rattle.request_piece.specs.declared.Piece.{Piece}
use Rattle.request_piece.specs.declared.Piece.TheVariants as P
use Rattle.record.specs.Narrow.{U32, U64, I64, NarrowDent, NarrowDent2, NarrowPhase}
use Rattle.session.specs.declared.Answer.{Answer}
use Rattle.session.specs.declared.Answer.TheVariants as A
use Rattle.session.specs.declared.Phase.{Phase}
use Rattle.session.specs.declared.Phase.TheVariants.{Header, Stat, Entry, Last, NameV1, NameV2, Body, Text, Rest}
use Rattle.session.specs.declared.Reply.{Reply}
use Rattle.session.specs.declared.Reply.TheVariants as R
use Rattle.session.specs.declared.Then.{Then}
use Rattle.session.specs.declared.Then.TheVariants.{Stop, Go}
use Rattle.session.specs.declared.Turn.{Turn}
use Rattle.session.specs.declared.Version.TheVariants.{V1, V2}
use Rattle.session.specs.declared.Want.{Want}
use Rattle.session.specs.declared.Want.TheVariants as W
use Rattle.session.specs.Phases.{wants, stopping, going, strange, proceed, headed, drained, turn_at}
use Rattle.session.proofs.Buf.{drop-take, number-in, id-in, arg-in}
use Rattle.boundary.specs.Crossing.{is_refusal}

-- ---- the widths of a reply

abbrev pub dent : StatV1 → ℕ → DentV1
dent s n = record { stat = s; namelen = n }

abbrev pub dent2 : StatV2 → ℕ → DentV2
dent2 s n = record { stat = s; namelen = n }

-- a refusal's number is none of an answer with values
abbrev pub Plain : ℕ → Type 0
Plain n = (n < 12) × (n ≡ 10 → ⊥)

-- c is the capacity, which a part of either buffer stays within
abbrev pub NarrowAnswer : (c : ℕ) → Answer → Type 0
NarrowAnswer c A.Done = Unit {0}
NarrowAnswer c A.End = Unit {0}
NarrowAnswer c (A.StatV1 s) = NarrowDent (dent s 0)
NarrowAnswer c (A.StatV2 s) = NarrowDent2 (dent2 s 0)
NarrowAnswer c (A.EntryV1 s i n) = (i + n ≤ c) × NarrowDent (dent s n)
NarrowAnswer c (A.EntryV2 s i n) = (i + n ≤ c) × NarrowDent2 (dent2 s n)
NarrowAnswer c (A.Chunk i n) = i + n ≤ c
NarrowAnswer c (A.Refused n) = Plain n
NarrowAnswer c (A.Missing n) = U64 n
NarrowAnswer c A.Closed = Unit {0}
NarrowAnswer c (A.Error k) = U32 k
NarrowAnswer c (A.Fail n) = n ≤ c
NarrowAnswer c (A.Unexpected a b e d) = (a < 256) × (b < 256) × (e < 256) × (d < 256)
NarrowAnswer c (A.Errno k) = U32 k
NarrowAnswer c A.TooLarge = Unit {0}

-- of a message that carries n bytes: what is lent goes out only where there is some
abbrev pub NarrowPiece : (n : ℕ) → Piece → Type 0
NarrowPiece n (P.Header id arg) = Unit {0}
NarrowPiece n P.Lent = 0 < n
NarrowPiece n P.Comma = Unit {0}
NarrowPiece n (P.Digits m) = U32 m.0
NarrowPiece n (P.Inner id) = Unit {0}
NarrowPiece n (P.Word x) = Unit {0}
NarrowPiece n P.End = Unit {0}

-- l bytes are lent
abbrev pub NarrowReply : (c l : ℕ) → Reply → Type 0
NarrowReply c l (R.Told a) = NarrowAnswer c a
NarrowReply c l (R.Read i n) = i + n ≤ c
NarrowReply c l (R.WriteRx i n) = i + n ≤ c
NarrowReply c l (R.WriteLent i n) = i + n ≤ l
NarrowReply c l (R.WriteBytes p) = NarrowPiece 0 p
NarrowReply c l R.Close = Unit {0}

-- ---- one turn: what bytes spell is as wide as the field

-- a number of k bytes, all of them among the first n of s
number_fits : (n k off : ℕ) (s : List ℕ) → Bytes (take n s) → leb (off + k) n ≡ true → number_at k off s < 256 ^ k
unfolding number_at
number_fits n k off s b h = rw (sym (number-in n k off s h)) (le_below k (drop off (take n s)) (bytes_drop off (take n s) b))

bytes-fewer : (m n : ℕ) (s : List ℕ) → m ≤ n → Bytes (take n s) → Bytes (take m s)
bytes-fewer m n s h b = subst Bytes (take-take m n s h) (bytes_take m (take n s) b)

pub signed-fits : (x : ℕ) → U64 x → I64 (signed x)
signed-fits x h = go (dec_le 0x8000_0000_0000_0000 x)
  where
    go : Dec (0x8000_0000_0000_0000 ≤ x) → I64 (signed x)
    go (yes l) = rw (signed_high x l) (omega arith)
    go (no f) = rw (signed_low x (omega arith)) (omega arith)

dent-narrow : (s : List ℕ) (n : ℕ) → Bytes (take 16 s) → U32 n → NarrowDent (dent (stat_of (stat_at s)) n)
unfolding stat_at
dent-narrow s n b h =
    record { mode = number_fits 16 4 4 s b refl; size = number_fits 16 4 8 s b refl; mtime = number_fits 16 4 12 s b refl; namelen = h }

dent2-narrow : (s : List ℕ) (n : ℕ) → Bytes (take 72 s) → U32 n → NarrowDent2 (dent2 (stat2_of (stat2_at s)) n)
unfolding stat2_body
dent2-narrow s n b h =
    record {
      error = number_fits 68 4 0 y z refl;
      dev = number_fits 68 8 4 y z refl;
      ino = number_fits 68 8 12 y z refl;
      mode = number_fits 68 4 20 y z refl;
      nlink = number_fits 68 4 24 y z refl;
      uid = number_fits 68 4 28 y z refl;
      gid = number_fits 68 4 32 y z refl;
      size = number_fits 68 8 36 y z refl;
      atime = signed-fits _ (number_fits 68 8 44 y z refl);
      mtime = signed-fits _ (number_fits 68 8 52 y z refl);
      ctime = signed-fits _ (number_fits 68 8 60 y z refl);
      namelen = h;
    }
  where
    y : List ℕ
    y = drop 4 s

    z : Bytes (take 68 y)
    z = subst Bytes (drop-take 4 68 s) (bytes_drop 4 (take 72 s) b)

-- an answer that is none of the refusals
abbrev pub Given : (c : ℕ) → Answer → Type 0
Given c a = NarrowAnswer c a × (is_refusal (R.Told a) ≡ false)

abbrev pub NarrowThen : (c : ℕ) → Then → Type 0
NarrowThen c (Stop a) = Given c a
NarrowThen c (Go p) = NarrowPhase c p

-- a turn drops and keeps no more than is wanted, and what follows is narrow
pub record Fit (c : ℕ) (p : Phase) (t : Turn) : Type 0 where
  pub drops : t.drops ≤ wants c p
  pub keeps : t.keeps ≤ wants c p
  pub then : NarrowThen c t.then

module _ (δ : Dialect) (c : ℕ) where
  stops : {p : Phase} {n : ℕ} {a : Answer} → n ≤ wants c p → Given c a → Fit c p (stopping n a)
  stops l h = record { drops = l; keeps = omega arith; then = h }

  goes : {p q : Phase} {n : ℕ} → n ≤ wants c p → NarrowPhase c q → Fit c p (going n q)
  goes l h = record { drops = l; keeps = omega arith; then = h }

  -- a header
  module _ (id : List ℕ) (arg : ℕ) (b : Bytes id) (h : U32 arg) where
    id-fit : {p : Phase} (test : Bool) {t₁ t₂ : Turn} → Fit c p t₁ → Fit c p t₂ → Fit c p (pick test t₁ t₂)
    id-fit {p} test x y = pick-cases (Fit c p) test (λ e. x) (λ e. y)

    strange-fit : {w : Want} → Fit c (Header w) (strange id)
    unfolding wants
    strange-fit = stops (omega arith) ((b 0, b 1, b 2, b 3), refl)

    proceed-fit : (w : Want) → Fit c (Header w) (proceed δ w id arg)
    unfolding wants
    proceed-fit (W.Stat V1) = id-fit (same id (δ.bytes STAT)) (goes (omega arith) tt) strange-fit
    proceed-fit (W.Stat V2) = id-fit (same id (δ.bytes STA2)) (goes (omega arith) tt) strange-fit
    proceed-fit (W.Entry V1) = id-fit (same id (δ.bytes DENT)) (goes (omega arith) tt) (id-fit (same id (δ.bytes DONE)) (goes (omega arith) tt) strange-fit)
    proceed-fit (W.Entry V2) = id-fit (same id (δ.bytes DNT2)) (goes (omega arith) tt) (id-fit (same id (δ.bytes DONE)) (goes (omega arith) tt) strange-fit)
    proceed-fit W.Chunk = id-fit (same id (δ.bytes DATA)) (goes (omega arith) h) (id-fit (same id (δ.bytes DONE)) (stops (omega arith) (tt, refl)) strange-fit)
    proceed-fit W.Okay = id-fit (same id (δ.bytes OKAY)) (stops (omega arith) (tt, refl)) strange-fit
    proceed-fit W.Nothing = stops (omega arith) (tt, refl)

    headed-fit : (w : Want) → Fit c (Header w) (headed δ w id arg)
    unfolding wants headed
    headed-fit w = id-fit (same id (δ.bytes FAIL)) (goes (omega arith) h) (proceed-fit w)

  -- a FAIL text
  drained-fit : {p : Phase} (d k left text : ℕ) → d ≤ wants c p → k ≤ wants c p → U64 left → text ≤ c → Fit c p (drained d k left text)
  unfolding drained
  drained-fit {p} d k left text l m x y =
      record { drops = l; keeps = m; then = pick-cases (NarrowThen c) (eqb left 0) (λ e. (y, refl)) (λ e. (x, y)) }

  -- the turn of each phase, where the bytes that it wants lie from i on
  module _ (rx : List ℕ) (i : ℕ) (same_length : length rx ≡ c) (narrow : c < 2 ^ 63) where
    pub turn_fit : (p : Phase) → NarrowPhase c p → i + wants c p ≤ length rx → Bytes (take (wants c p) (drop i rx)) → Fit c p (turn_at δ c p rx i)
    unfolding wants turn_at dent_at dent2_at
    turn_fit (Header w) n l b =
        let y : List ℕ = drop i rx in
        rw (← id-in y, ← arg-in y) (headed-fit (id_at (take 8 y)) (arg_at (take 8 y)) (bytes_take 4 (take 8 y) b) (number-below 4 (take 8 y) 4 b) w)
    turn_fit (Stat V1) n l b = stops (omega arith) (dent-narrow (drop i rx) 0 b (omega arith), refl)
    turn_fit (Stat V2) n l b =
        record {
          drops = omega arith;
          keeps = omega arith;
          then = pick-cases (λ a. NarrowThen c (Stop a)) (eqb (stat2_at (drop i rx)).error 0)
              (λ e. (dent2-narrow (drop i rx) 0 b (omega arith), refl)) (λ e. ((dent2-narrow (drop i rx) 0 b (omega arith)).error, refl));
        }
    turn_fit (Entry V1) n l b =
        goes (omega arith) (dent-narrow (drop i rx) _ (bytes-fewer 16 20 (drop i rx) (omega arith) b) (number_fits 20 4 16 (drop i rx) b refl))
    turn_fit (Entry V2) n l b =
        goes (omega arith) (dent2-narrow (drop i rx) _ (bytes-fewer 72 76 (drop i rx) (omega arith) b) (number_fits 76 4 72 (drop i rx) b refl))
    turn_fit (Last V1) n l b = stops (omega arith) (tt, refl)
    turn_fit (Last V2) n l b = stops (omega arith) (tt, refl)
    turn_fit (NameV1 d) n l b = stops (omega arith) ((omega arith, n), refl)
    turn_fit (NameV2 d) n l b = stops (omega arith) ((omega arith, n), refl)
    turn_fit (Body m) n l b = stops (omega arith) (omega arith, refl)
    turn_fit (Text m) n l b = drained-fit (min m c) (min m c) (m - min m c) (min m c) (omega arith) (omega arith) (omega arith) (omega arith)
    turn_fit (Rest left text) n l b = drained-fit (min left c) 0 (left - min left c) text (omega arith) (omega arith) (omega arith) n.1

  -- how far a phase reads, from a place in the buffer, is a number of 64 bits
  pub wants-below : (p : Phase) → NarrowPhase c p → c < 2 ^ 63 → wants c p ≤ 2 ^ 63
  unfolding wants
  wants-below (Header w) n l = omega arith
  wants-below (Stat V1) n l = omega arith
  wants-below (Stat V2) n l = omega arith
  wants-below (Entry V1) n l = omega arith
  wants-below (Entry V2) n l = omega arith
  wants-below (Last V1) n l = omega arith
  wants-below (Last V2) n l = omega arith
  wants-below (NameV1 d) n l = omega arith
  wants-below (NameV2 d) n l = omega arith
  wants-below (Body m) n l = omega arith
  wants-below (Text m) n l = omega arith
  wants-below (Rest left text) n l = omega arith
