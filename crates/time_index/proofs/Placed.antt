-- Slots in bytes: what is written of an entry is read back, and where one more goes. Assumes nothing.
use Prim.Native.Nat.{ℕ, zero, suc, ◌+◌, ◌-◌, ◌*◌, ◌/◌, ◌%◌, ◌≤◌, ◌<◌, ◌^◌}
use mathlib.Core.List.{List, [], ◌∷◌, ◌++◌, append_assoc}
use mathlib.Core.Path.{◌≡◌, refl, sym, ap, ◌∙◌}
use native.Mathlib.Omega.{arith}
use lib.IntN.{ℤ, pos}
use lib.ListN.{length, take, drop, get_or, length-append, length-drop, take-append-drop}
use lib.Seq.{take_at, drop_at, drop-append-add, length-take-le}
use Rattle.protocol.specs.Bytes.{number_at, signed, over}
use Rattle.protocol.specs.Records.{u32_at, u64_at}
use Rattle.protocol.proofs.Bytes.{le-bytes_of}
use Rattle.protocol.proofs.Words.{number_behind}
use Rattle.boundary.proofs.Heard.{number-front}
use Rattle.record.specs.Fields.{unsigned}
use Rattle.record.specs.Narrow.{I64, U64}
use Rattle.record.specs.Record.{words, word_of}
use Rattle.record.proofs.Numbers.{signed_back, unsigned-wide, at_all}
use Rattle.record.proofs.Words.{word-words}
use Rattle.time_index.specs.Index.{most_entries, most_names}
use Rattle.time_index.specs.Slots.{mark, headed, slot_size, slot_at, time_at, start_at, length_at, slot_of, slot_among}
use Rattle.time_index.specs.Slots as S

-- an entry as its slot has it
pub record Placed : Type 0 where
  pub time : ℤ
  pub start : ℕ
  pub size : ℕ
  pub number : ℕ

-- its numbers fit, and its name lies in the first bytes of the area
pub record Fits (used : ℕ) (p : Placed) : Type 0 where
  pub time : I64 p.time
  pub inside : p.start + p.size ≤ used
  pub number : p.number < most_entries

abbrev pub slot_bytes : Placed → List ℕ
slot_bytes p = slot_of p.time p.start p.size p.number

abbrev pub slots_of : List Placed → List ℕ
slots_of [] = []
slots_of (p ∷ ps) = slot_bytes p ++ slots_of ps

pub length-slots : (ps : List Placed) → length (slots_of ps) ≡ slot_size * length ps
length-slots [] = refl
length-slots (p ∷ ps) = omega (arith, length-slots ps)

pub slots-append : (ps qs : List Placed) → slots_of (ps ++ qs) ≡ slots_of ps ++ slots_of qs
slots-append [] qs = refl
slots-append (p ∷ ps) qs = ap (λ (l : List ℕ). slot_bytes p ++ l) (slots-append ps qs)

abbrev pub no_place : Placed
no_place = record { time = pos 0; start = 0; size = 0; number = 0 }

-- a number of the slot at a rank
number-slot : (ps : List Placed) (rest : List ℕ) (r k off : ℕ) → r < length ps → off + k ≤ slot_size
    → number_at k (slot_size * r + off) (slots_of ps ++ rest) ≡ number_at k off (slot_bytes (get_or ps r no_place))
number-slot [] rest r k off h g = absurd (omega arith)
number-slot (p ∷ ps) rest zero k off h g =
    let e : slot_size * 0 + off ≡ off = omega arith in rw e (number-front k off (slot_bytes p) (slots_of ps ++ rest) g)
number-slot (p ∷ ps) rest (suc r) k off h g =
    let e : slot_size * suc r + off ≡ slot_size + (slot_size * r + off) = omega arith in
    rw e (number_behind k (slot_bytes p) (slots_of ps ++ rest) (slot_size * r + off) ∙ number-slot ps rest r k off (omega arith) g)

module _ (p : Placed) where
  time-of : I64 p.time → number_at 8 0 (slot_bytes p) ≡ unsigned p.time
  unfolding number_at
  time-of h = le-bytes_of 8 (unsigned p.time) (unsigned-wide p.time h)

  start_of : p.start < 2 ^ 32 → number_at 4 8 (slot_bytes p) ≡ p.start
  unfolding number_at
  start_of h = le-bytes_of 4 p.start h

  last_of : most_entries * p.size + p.number < 2 ^ 32 → number_at 4 12 (slot_bytes p) ≡ most_entries * p.size + p.number
  unfolding number_at
  last_of h = le-bytes_of 4 (most_entries * p.size + p.number) h

-- slots that begin with the four numbers and have these entries
module _ (s : List ℕ) (area used : ℕ) (ps : List Placed) (rest : List ℕ) (shape : s ≡ headed area (length ps) used ++ (slots_of ps ++ rest)) where
  number-at : (r k off : ℕ) → r < length ps → off + k ≤ slot_size → number_at k (slot_at r + off) s ≡ number_at k off (slot_bytes (get_or ps r no_place))
  number-at r k off h g =
      let e : slot_at r + off ≡ 32 + (slot_size * r + off) = omega arith in
      rw (shape, e) (number_behind k (headed area (length ps) used) (slots_of ps ++ rest) (slot_size * r + off) ∙ number-slot ps rest r k off h g)

  module _ (few : used ≤ most_names) (r : ℕ) (h : r < length ps) (fit : Fits used (get_or ps r no_place)) where
    pub time-bits : u64_at (slot_at r) s ≡ unsigned (get_or ps r no_place).time
    time-bits =
        let e : slot_at r ≡ slot_at r + 0 = omega arith in
        ap (λ (n : ℕ). number_at 8 n s) e ∙ number-at r 8 0 h (omega arith) ∙ time-of (get_or ps r no_place) fit.time

    pub time-back : time_at s r ≡ (get_or ps r no_place).time
    time-back = ap signed time-bits ∙ signed_back (get_or ps r no_place).time fit.time

    pub start_back : start_at s r ≡ (get_or ps r no_place).start
    start_back = number-at r 4 8 h (omega arith) ∙ start_of (get_or ps r no_place) (omega (arith, fit.inside))

    last-back : u32_at (slot_at r + 12) s ≡ most_entries * (get_or ps r no_place).size + (get_or ps r no_place).number
    last-back = number-at r 4 12 h (omega arith) ∙ last_of (get_or ps r no_place) (omega (arith, fit.inside, fit.number))

    pub length_back : length_at s r ≡ (get_or ps r no_place).size
    length_back = ap (λ (n : ℕ). n / most_entries) last-back ∙ omega (arith, fit.number)

    pub number-back : S.number_at s r ≡ (get_or ps r no_place).number
    number-back = ap (λ (n : ℕ). n % most_entries) last-back ∙ omega (arith, fit.number)

  -- the four numbers
  pub head-word : U64 area → U64 used → U64 (length ps) → (i : ℕ) → i < 4 → word_of s i ≡ get_or (mark ∷ area ∷ length ps ∷ used ∷ []) i 0
  head-word a u n i h =
      rw shape
      (number-front 8 (8 * i) (headed area (length ps) used) (slots_of ps ++ rest) (omega arith)
      ∙ word-words (mark ∷ area ∷ length ps ∷ used ∷ []) (at_all (mark ∷ area ∷ length ps ∷ used ∷ []) (omega arith)) i)

-- ---- one more

-- bytes between others: those behind go further, over the first bytes of the rest
spliced : (f b slot rest : List ℕ) (at n : ℕ) → length f ≡ at → length b ≡ n → length slot ≡ slot_size
    → over (f ++ (b ++ rest)) at (slot ++ take n (drop at (f ++ (b ++ rest)))) ≡ f ++ (slot ++ b ++ drop slot_size rest)
unfolding over
spliced f b slot rest at n e g h =
    let d : drop at (f ++ (b ++ rest)) ≡ b ++ rest = drop_at f (b ++ rest) at e in
    let t : take n (b ++ rest) ≡ b = take_at b rest n g in
    let k : at + length (slot ++ b) ≡ length f + (length b + slot_size) = omega (arith, length-append slot b) in
    rw (d, t, k, take_at f (b ++ rest) at e, drop-append-add f (b ++ rest) (length b + slot_size), drop-append-add b rest slot_size)
    (simp append_assoc)

pub slots-more : (head : List ℕ) (ps : List Placed) (rest : List ℕ) (r : ℕ) (p : Placed) → length head ≡ 32 → r ≤ length ps
    → slot_among (head ++ (slots_of ps ++ rest)) (length ps) r (slot_bytes p) ≡ head ++ (slots_of (take r ps ++ p ∷ drop r ps) ++ drop slot_size rest)
unfolding slot_among
slots-more head ps rest r p e h =
    ap (λ (l : List ℕ). over l (slot_at r) (slot_bytes p ++ take (slot_size * (length ps - r)) (drop (slot_at r) l))) parts
    ∙ spliced (head ++ front) back (slot_bytes p) rest (slot_at r) (slot_size * (length ps - r)) at_front at_back refl
    ∙ joined-up
  where
    front : List ℕ
    front = slots_of (take r ps)

    back : List ℕ
    back = slots_of (drop r ps)

    halves : slots_of ps ≡ front ++ back
    halves = ap slots_of (sym (take-append-drop r ps)) ∙ slots-append (take r ps) (drop r ps)

    parts : head ++ (slots_of ps ++ rest) ≡ (head ++ front) ++ (back ++ rest)
    parts = rw halves (simp append_assoc)

    at_front : length (head ++ front) ≡ slot_at r
    at_front = omega (arith, length-append head front, length-slots (take r ps), length-take-le r ps h)

    at_back : length back ≡ slot_size * (length ps - r)
    at_back = omega (arith, length-slots (drop r ps), length-drop r ps)

    joined-up : (head ++ front) ++ (slot_bytes p ++ back ++ drop slot_size rest) ≡ head ++ (slots_of (take r ps ++ p ∷ drop r ps) ++ drop slot_size rest)
    joined-up = rw (slots-append (take r ps) (p ∷ drop r ps)) (simp append_assoc)

-- the counts anew
pub counts-anew : (area n used n' used' : ℕ) (x : List ℕ) → over (headed area n used ++ x) 16 (words (n' ∷ used' ∷ [])) ≡ headed area n' used' ++ x
unfolding over
counts-anew area n used n' used' x = refl
