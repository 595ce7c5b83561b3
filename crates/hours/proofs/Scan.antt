-- A file read from its first byte to its last gives the hours of its lines. Assumes nothing.
use Prim.Native.Nat.{ℕ, zero, suc, ◌+◌, ◌-◌, ◌*◌, ◌/◌, ◌%◌, ◌≤◌, ◌<◌}
use mathlib.Core.Bool.{Bool, true, false, ◌&&◌, true≢false}
use mathlib.Core.List.{List, [], ◌∷◌, ◌++◌, append_assoc}
use mathlib.Core.Option.{Option, none, some, none-ne-some, some-injective}
use mathlib.Core.Path.{◌≡◌, refl, sym, ap, ap₂, ◌∙◌}
use native.Mathlib.Numerals.{add-one}
use native.Mathlib.Omega.{arith}
use borrow.Author.Tests.{le-leb, lt-leb, leb-true, eq-eqb, ne_eqb}
use lib.Dec.{eqb, leb}
use lib.ListN.{length, take, drop, replicate, length-append, length-drop, length-replicate, replicate-append-replicate, take-append-drop}
use lib.Seq.{take_at, drop_at}
use Rattle.protocol.specs.Bytes.{pick, bytes_of, over, put, same}
use Rattle.protocol.specs.Hours.{Span, Hours}
use Rattle.protocol.proofs.Bytes.{same_refl, same-eq, bytes_of-add, end_whole, over-length, put_in, put-put}
use Rattle.text_lines.specs.Lines.{comma, line_end, cut_at, and_line, lines_of}
use Rattle.hours.specs.File.{heading, span_in, and_span, spans_in, rising, in_order, under_heading, hours_in}
use Rattle.hours.specs.Slots.{slots_from, slots_of, pairs, hours_bytes}
use Rattle.hours.specs.Scan.{before, head_size, head_line, days_size, with_span, span_then, scan_lines, scan_read, scanned}
use Rattle.id_table.specs.Settings.{settings_size}
use Rattle.hours.specs.Settings.{hours_place, taken_hours}
use Rattle.hours.proofs.Slots.{kept-length}
use Rattle.hours.proofs.Cut.{lines_cut, lines_next, lines-open}
use Rattle.hours.proofs.Files.{span-only, only}

-- ---- one line more

read-line : (next : ℕ) (b : List ℕ) (l : List (List ℕ)) (o : Option (List (List (List ℕ))))
    → scan_read next b (and_line l o) ≡ span_then next b (span_in l) (λ m c. scan_read m c o)
read-line next b l (some ls) = refl
read-line next b l none = go (span_in l)
  where
    fails : (t : Bool) → ◌≡◌ {A = Option (List ℕ)} none (pick t none none)
    fails true = refl
    fails false = refl

    go : (o : Option Span) → none ≡ span_then next b o (λ m c. none)
    go none = refl
    go (some s) = fails (leb next s.day)

pub scanned-next : (next : ℕ) (b s : List ℕ) → before line_end s < length s
    → scanned next b s ≡ span_then next b (span_in (cut_at comma (take (before line_end s) s))) (λ m c. scanned m c (drop (suc (before line_end s)) s))
unfolding scanned
scanned-next next b s h = ap (scan_read next b) (lines_next s h) ∙ read-line next b _ (lines_of (drop (suc (before line_end s)) s))

pub scanned-open : (next : ℕ) (b s : List ℕ) → 0 < length s → length s ≤ before line_end s → scanned next b s ≡ none
unfolding scanned
scanned-open next b s h k = ap (scan_read next b) (lines-open s h k)

pub scanned-end : (next : ℕ) (b : List ℕ) → scanned next b [] ≡ some b
unfolding scanned lines_of
scanned-end next b = refl

-- the same by the place of the first byte 10
module _ (next : ℕ) (b s : List ℕ) where
  pub scan_open : 0 < length s → length s ≡ before line_end s → scanned next b s ≡ none
  scan_open h e = scanned-open next b s h (omega arith)

  module _ (n : ℕ) (size : n ≡ before line_end s) (ends : n < length s) where
    scan_step : scanned next b s ≡ span_then next b (span_in (cut_at comma (take n s))) (λ m c. scanned m c (take (length s - (n + 1)) (drop (n + 1) s)))
    scan_step = scanned-next next b s (omega arith) ∙ rw (← size, end_whole s (n + 1) (omega arith), add-one n)

    pub scan_bad : span_in (cut_at comma (take n s)) ≡ none → scanned next b s ≡ none
    scan_bad e = scan_step ∙ ap (λ (o : Option Span). span_then next b o (λ m c. scanned m c (take (length s - (n + 1)) (drop (n + 1) s)))) e

    module _ (span : Span) (e : span_in (cut_at comma (take n s)) ≡ some span) where
      pub scan_under : span.day < next → scanned next b s ≡ none
      scan_under h = scan_step ∙ rw (e, lt-leb next span.day h)

      pub scan_on : next ≤ span.day → scanned next b s ≡ scanned (span.day + 1) (with_span b span) (take (length s - (n + 1)) (drop (n + 1) s))
      scan_on h = scan_step ∙ rw (e, le-leb next span.day h, add-one span.day)

pub left-shorter : (s : List ℕ) (n : ℕ) → n ≤ length s → length (take (length s - n) (drop n s)) ≤ length s
left-shorter s n h = omega (arith, ap length (end_whole s n h), length-drop n s)

pub span_small : (l : List (List ℕ)) (s : Span) → span_in l ≡ some s → (s.day ≤ 6) × (s.opens ≤ 1440) × (s.closes ≤ 1440)
span_small l s e = let b = (span-only l s e).spans in (b.0, omega (arith, b.1.0, b.1.1), b.1.1)

pub with_length_lem : (b : List ℕ) (s : Span) → length b ≡ days_size → s.day ≤ 6 → length (with_span b s) ≡ length b
with_length_lem b s e h = over-length b (4 * s.day) (bytes_of 2 s.opens ++ bytes_of 2 s.closes) (omega arith)

-- ---- the bytes of the days

zeros-none : (n d : ℕ) → pairs (slots_from n d []) ≡ replicate (4 * n) 0
unfolding slots_from
zeros-none zero d = refl
zeros-none (suc n) d = let e : 4 * suc n ≡ suc (suc (suc (suc (4 * n)))) = omega arith in rw (e, zeros-none n (suc d))

abbrev pair_of : Span → List ℕ
pair_of s = bytes_of 2 s.opens ++ bytes_of 2 s.closes

-- as one number of four bytes
pub pair_word : (o c : ℕ) → o ≤ 1440 → bytes_of 4 (o + 65536 * c) ≡ bytes_of 2 o ++ bytes_of 2 c
pair_word o c h =
    let low : (o + 65536 * c) % 65536 ≡ o = omega arith in
    let high : (o + 65536 * c) / 65536 ≡ c = omega arith in
    bytes_of-add 2 2 (o + 65536 * c) ∙ ap₂ (λ (x y : ℕ). bytes_of 2 x ++ bytes_of 2 y) low high

-- the span of day d + k stands behind k empty days
span-behind : (k n m d : ℕ) (s : Span) (h : Hours) → n ≡ k + suc m → s.day ≡ d + k
    → pairs (slots_from n d (s ∷ h)) ≡ replicate (4 * k) 0 ++ (pair_of s ++ pairs (slots_from m (suc s.day) h))
unfolding slots_from
span-behind k zero m d s h e f = absurd (omega arith)
span-behind zero (suc n) m d s h e f =
    let here : s.day ≡ d = omega arith in
    let same-n : n ≡ m = omega arith in
    rw (eq-eqb s.day d here, same-n, here)
span-behind (suc k) (suc n) m d s h e f =
    let later : eqb s.day d ≡ false = ne_eqb s.day d (λ z. omega (arith, z, f)) in
    let four : 4 * suc k ≡ suc (suc (suc (suc (4 * k)))) = omega arith in
    rw (later, four, span-behind k n m (suc d) s h (omega arith) (omega arith))

over-middle : (a x y m : List ℕ) (at : ℕ) → length a ≡ at → length x ≡ length m → over (a ++ (x ++ y)) at m ≡ a ++ m ++ y
unfolding over
over-middle a x y m at e f =
    ap (λ (l : List ℕ). l ++ m ++ drop (at + length m) (a ++ (x ++ y))) (take_at a (x ++ y) at e)
    ∙ ap (λ (l : List ℕ). a ++ m ++ l)
    (ap (drop (at + length m)) (sym (append_assoc a x y)) ∙ drop_at (a ++ x) y (at + length m) (omega (arith, length-append a x)))

-- a day's bytes, put where zeros stand
put-behind : (p : List ℕ) (k n m at : ℕ) (v : List ℕ) → n ≡ k + suc m → length v ≡ 4 → at ≡ length p + 4 * k
    → over (p ++ replicate (4 * n) 0) at v ≡ p ++ replicate (4 * k) 0 ++ v ++ replicate (4 * m) 0
put-behind p k n m at v e f g =
    let split : 4 * n ≡ 4 * k + (4 + 4 * m) = omega arith in
    let zeros : p ++ replicate (4 * n) 0 ≡ p ++ replicate (4 * k) 0 ++ (replicate 4 0 ++ replicate (4 * m) 0) =
    ap (λ (j : ℕ). p ++ replicate j 0) split
    ∙ ap (λ (l : List ℕ). p ++ l) (sym (replicate-append-replicate (4 * k) (4 + 4 * m) 0) ∙ ap (λ (l : List ℕ). replicate (4 * k) 0 ++ l) (sym (replicate-append-replicate 4 (4 * m) 0)))
    ∙ sym (append_assoc p (replicate (4 * k) 0) (replicate 4 0 ++ replicate (4 * m) 0)) in
    ap (λ (l : List ℕ). over l at v) zeros
    ∙ over-middle (p ++ replicate (4 * k) 0) (replicate 4 0) (replicate (4 * m) 0) v at
    (omega (arith, length-append p (replicate (4 * k) 0), length-replicate {A = ℕ} (4 * k) 0)) (omega arith)

-- ---- the lines, with the bytes before day d written and zeros behind

abbrev from : ℕ → Hours → Bool
from d [] = true
from d (s ∷ h) = leb d s.day

abbrev written : List ℕ → (n d : ℕ) → Option Hours → Option (List ℕ)
written p n d none = none
written p n d (some h) = pick (from d h && rising h) (some (p ++ pairs (slots_from n d h))) none

rising-from : (s : Span) (h : Hours) → rising (s ∷ h) ≡ from (suc s.day) h && rising h
rising-from s [] = refl
rising-from s (t ∷ h) = refl

abbrev Scans : List (List (List ℕ)) → Type 0
Scans ls = (n d : ℕ) → d + n ≡ 7 → (p : List ℕ) → length p ≡ 4 * d → scan_lines d (p ++ replicate (4 * n) 0) ls ≡ written p n d (spans_in ls)

scan_lines_lem : (ls : List (List (List ℕ))) → Scans ls
scan_lines_lem [] n d e p f = ap (λ (l : List ℕ). some (p ++ l)) (sym (zeros-none n d))
scan_lines_lem (l ∷ ls) n d e p f = go (scan_lines_lem ls) (span_in l) (λ s q. (span-only l s q).spans.0)
  where
    under : (s : Span) (o : Option Hours) → leb d s.day ≡ false → none ≡ written p n d (and_span (some s) o)
    under s none q = refl
    under s (some h) q = rw q

    behind : (s : Span) (k m : ℕ) → n ≡ k + suc m → s.day ≡ d + k → leb d s.day ≡ true → (o : Option Hours)
        → written (p ++ replicate (4 * k) 0 ++ pair_of s) m (suc s.day) o ≡ written p n d (and_span (some s) o)
    behind s k m q r t none = refl
    behind s k m q r t (some h) =
        let bytes : p ++ replicate (4 * k) 0 ++ pair_of s ++ pairs (slots_from m (suc s.day) h) ≡ p ++ pairs (slots_from n d (s ∷ h)) =
        append_assoc (p ++ replicate (4 * k) 0) (pair_of s) _ ∙ append_assoc p (replicate (4 * k) 0) _ ∙ ap (λ (x : List ℕ). p ++ x) (sym (span-behind k n m d s h q r)) in
        rw (t, rising-from s h, bytes)

    one : Scans ls → (s : Span) → s.day ≤ 6 → (t : Bool) → leb d s.day ≡ t
        → pick t (scan_lines (suc s.day) (with_span (p ++ replicate (4 * n) 0) s) ls) none ≡ written p n d (and_span (some s) (spans_in ls))
    one rest s b false q = under s (spans_in ls) q
    one rest s b true q =
        let h = leb-true d s.day q in
        let k : ℕ = s.day - d in
        let m : ℕ = n - suc (s.day - d) in
        let split : n ≡ k + suc m = omega arith in
        let day : s.day ≡ d + k = omega arith in
        let q' : List ℕ = p ++ replicate (4 * k) 0 ++ pair_of s in
        let put : with_span (p ++ replicate (4 * n) 0) s ≡ q' ++ replicate (4 * m) 0 = put-behind p k n m (4 * s.day) (pair_of s) split refl (omega arith) in
        let long : length q' ≡ 4 * suc s.day =
        omega (arith, length-append (p ++ replicate (4 * k) 0) (pair_of s), length-append p (replicate (4 * k) 0), length-replicate {A = ℕ} (4 * k) 0) in
        ap (λ (c : List ℕ). scan_lines (suc s.day) c ls) put
        ∙ rest m (suc s.day) (omega arith) q' long
        ∙ behind s k m split day q (spans_in ls)

    go : Scans ls → (o : Option Span) → ((s : Span) → o ≡ some s → s.day ≤ 6)
        → span_then d (p ++ replicate (4 * n) 0) o (λ m c. scan_lines m c ls) ≡ written p n d (and_span o (spans_in ls))
    go rest none b = refl
    go rest (some s) b = one rest s (b s refl) (leb d s.day) refl

-- ---- the file

-- the bytes of the days of hours that were read, if any
abbrev pub days_in : Option Hours → Option (List ℕ)
days_in none = none
days_in (some h) = some (pairs (slots_of h))

abbrev under_lines : Option (List (List (List ℕ))) → Option Hours
under_lines none = none
under_lines (some ls) = in_order (spans_in ls)

from_zero : (h : Hours) → from 0 h ≡ true
from_zero [] = refl
from_zero (s ∷ h) = le-leb 0 s.day (omega arith)

written_all : (o : Option Hours) → written [] 7 0 o ≡ days_in (in_order o)
written_all none = refl
written_all (some h) = go (rising h)
  where
    go : (t : Bool) → pick (from 0 h && t) (some (pairs (slots_of h))) none ≡ days_in (pick t (some h) none)
    go true = rw (from_zero h)
    go false = rw (from_zero h)

scan_all : (o : Option (List (List (List ℕ)))) → scan_read 0 (replicate days_size 0) o ≡ days_in (under_lines o)
scan_all none = refl
scan_all (some ls) = scan_lines_lem ls 7 0 refl [] refl ∙ written_all (spans_in ls)

head-lines : (s : List ℕ) → hours_in (head_line ++ s) ≡ under_lines (lines_of s)
unfolding hours_in
head-lines s = ap under_heading (lines_cut (take 14 head_line) (head_line ++ s) s refl) ∙ go (lines_of s)
  where
    go : (o : Option (List (List (List ℕ)))) → under_heading (and_line heading o) ≡ under_lines o
    go none = refl
    go (some ls) = refl

file-read : (file : List ℕ) → same (take head_size file) head_line ≡ true → scanned 0 (replicate days_size 0) (drop head_size file) ≡ days_in (hours_in file)
unfolding scanned
file-read file e =
    let whole : head_line ++ drop head_size file ≡ file =
    ap (λ (l : List ℕ). l ++ drop head_size file) (sym (same-eq (take head_size file) head_line e)) ∙ take-append-drop head_size file in
    scan_all (lines_of (drop head_size file)) ∙ ap days_in (sym (head-lines (drop head_size file)) ∙ ap hours_in whole)

-- another heading
pub file-unread : (file : List ℕ) → same (take head_size file) head_line ≡ false → hours_in file ≡ none
file-unread file e = go (hours_in file) refl
  where
    go : (o : Option Hours) → hours_in file ≡ o → o ≡ none
    go none q = refl
    go (some h) q =
        let whole = (only file h q).0 in
        absurd (true≢false (sym (same_refl head_line) ∙ ap (λ (l : List ℕ). same (take head_size l) head_line) whole ∙ e))

-- ---- a file into the settings, by what its reading came to

pub headed-long : (file : List ℕ) → same (take head_size file) head_line ≡ true → head_size ≤ length file
headed-long file e =
    omega (arith, ap length (same-eq (take head_size file) head_line e), ap length (take-append-drop head_size file), length-append (take head_size file) (drop head_size file))

module _ (file : List ℕ) (e : same (take head_size file) head_line ≡ true) where
  pub lines-refused : none ≡ scanned 0 (replicate days_size 0) (drop head_size file) → hours_in file ≡ none
  lines-refused n = go (hours_in file) (n ∙ file-read file e)
    where
      go : (o : Option Hours) → none ≡ days_in o → o ≡ none
      go none q = refl
      go (some h) q = absurd (none-ne-some (pairs (slots_of h)) q)

  pub lines-taken : (b s : List ℕ) → length s ≡ settings_size → some b ≡ scanned 0 (replicate days_size 0) (drop head_size file)
      → ◌≡◌ {A = List ℕ × ℕ} (put (put s hours_place (bytes_of 4 1)) (hours_place + 4) b, 0) (taken_hours s (hours_in file))
  lines-taken b s l n = go (hours_in file) (n ∙ file-read file e)
    where
      go : (o : Option Hours) → some b ≡ days_in o → ◌≡◌ {A = List ℕ × ℕ} (put (put s hours_place (bytes_of 4 1)) (hours_place + 4) b, 0) (taken_hours s o)
      go none q = absurd (none-ne-some b (sym q))
      go (some h) q =
          let same-days : b ≡ pairs (slots_of h) = some-injective b (pairs (slots_of h)) q in
          let long = kept-length (some h) in
          ap (λ (x : List ℕ). (x, 0))
          (ap (put (put s hours_place (bytes_of 4 1)) (hours_place + 4)) same-days
          ∙ put-put s hours_place (hours_place + 4) (bytes_of 4 1) (pairs (slots_of h)) refl (omega arith)
          ∙ put_in s hours_place (hours_bytes (some h)) (omega arith))
