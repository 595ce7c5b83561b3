-- Texts laid into a buffer one behind the other, and the hexadecimal digits of one byte more. Assumes nothing.
use mathlib.Core.List.{List, [], ◌∷◌, ◌++◌, append-nil}
use mathlib.Core.Path.{◌≡◌, refl, sym, ap, ◌∙◌}
use Prim.Native.Nat.{ℕ, suc, ◌+◌, ◌*◌, ◌/◌, ◌%◌, ◌-◌, ◌≤◌, ◌<◌}
use native.Mathlib.Nat.{add-zero}
use native.Mathlib.Numerals.{add-one}
use native.Mathlib.Omega.{arith}
use borrow.Author.Tests.{le-leb, lt-leb}
use lib.ListN.{length, set, get_or, take, drop, length-append, take-append-drop}
use lib.Seq.{set_split, take-suc, take-length, append_snoc}
use Rattle.std.specs.Prelude.{Option, Some}
use Rattle.decimal.specs.Fitted.{fitted}
use Rattle.decimal.proofs.Fitted.{fitted-in, end-fitted, some-some}
use Rattle.protocol.specs.Bytes.{ascii, over, put}
use Rattle.protocol.specs.Decimal.{decimal}
use Rattle.protocol.specs.Modes.{octal}
use Rattle.protocol.specs.Records.{Stat}
use Rattle.protocol.proofs.Bytes.{over-length, over-over, put_in, end_whole, end_back, end-put}
use Rattle.protocol.proofs.Decimal.{decimal-length}
use Rattle.protocol.proofs.Modes.{octal-length}
use Rattle.listing_lines.specs.Lines.{hex_digit, hexadecimal, newline, numbers, heading, entry_line, end_line, laid_in, heading_room, entry_room, end_room, Laid}

-- one byte stored
pub set-over : (b : List ℕ) (at x : ℕ) → at < length b → set b at x ≡ over b at (x ∷ [])
unfolding over
set-over b at x h = set_split b at x h ∙ rw (add-one, append_snoc (take at b) x (drop (suc at) b))

module _ {b c : List ℕ} {at k : ℕ} {m : List ℕ} (l : Laid b at m c k) (fits : at + length m ≤ length b) where
  pub laid-length : length c ≡ length b
  laid-length = ap length l.bytes ∙ over-length b at m fits

  -- a text behind a text
  pub laid-laid : {d : List ℕ} {j : ℕ} {n : List ℕ} → Laid c k n d j → Laid b at (m ++ n) d j
  laid-laid {n = n} r = record {
    bytes = r.bytes ∙ rw (l.bytes, l.ends) (over-over b at m fits n);
    ends = omega (arith, l, r, length-append m n);
  }

-- a text laid at the front of the end from t on, lent and come back
pub end-laid : (b : List ℕ) (t : ℕ) (m e : List ℕ) (n : ℕ) → t + length m ≤ length b
    → ◌≡◌ {A = List ℕ × Option ℕ} (e, Some n) (put (take (length b - t) (drop t b)) 0 m, fitted (take (length b - t) (drop t b)) 0 m)
    → Laid b t m (take t b ++ (e ++ drop (length b - t) (drop t b))) (t + n)
end-laid b t m e n h q =
    let w : t ≤ length b = omega arith in
    let s = rw (end_whole b t w) at q in
    let k : n ≡ length m = some-some (ap (λ (p : List ℕ × Option ℕ). p.1) s ∙ end-fitted b t w m ∙ fitted-in b t m h) in
    record {
      bytes = end_back b t w e ∙ ap (λ (p : List ℕ × Option ℕ). take t b ++ p.0) s ∙ end-put b t w m ∙ put_in b t m h;
      ends = ap (λ (j : ℕ). t + j) k;
    }

-- what fits is there
pub end-some : (b : List ℕ) (t : ℕ) (m : List ℕ) (o : Option ℕ) (e : List ℕ) → t + length m ≤ length b
    → ◌≡◌ {A = List ℕ × Option ℕ} (e, o) (put (take (length b - t) (drop t b)) 0 m, fitted (take (length b - t) (drop t b)) 0 m)
    → o ≡ Some (length m)
end-some b t m o e h q =
    let w : t ≤ length b = omega arith in
    ap (λ (p : List ℕ × Option ℕ). p.1) (rw (end_whole b t w) at q) ∙ end-fitted b t w m ∙ fitted-in b t m h

-- a line, where there is room for it and where not
pub laid_in_lem : (room : ℕ) {b : List ℕ} {at : ℕ} {m c : List ℕ} {k : ℕ} → at + room ≤ length b → Laid b at m c k
    → ◌≡◌ {A = List ℕ × ℕ} (c, k) (laid_in room b at m)
unfolding laid_in
laid_in_lem room {b} {at} h l = rw (le-leb (at + room) (length b) h, l.bytes, l.ends)

pub laid_of : (room : ℕ) {c : List ℕ} {k : ℕ} (b : List ℕ) (at : ℕ) (m : List ℕ) → at + room ≤ length b
    → ◌≡◌ {A = List ℕ × ℕ} (c, k) (laid_in room b at m) → Laid b at m c k
unfolding laid_in
laid_of room b at m h e =
    let f = rw (le-leb (at + room) (length b) h) at e in
    record { bytes = ap (λ (p : List ℕ × ℕ). p.0) f; ends = ap (λ (p : List ℕ × ℕ). p.1) f }

pub laid_out : (room : ℕ) (b : List ℕ) (at : ℕ) (m : List ℕ) → length b < at + room → ◌≡◌ {A = List ℕ × ℕ} (b, at) (laid_in room b at m)
unfolding laid_in
laid_out room b at m h = rw (lt-leb _ _ h)

-- two digits for each byte
pub hex_length : (s : List ℕ) → length (hexadecimal s) ≡ 2 * length s
hex_length [] = refl
hex_length (x ∷ s) = omega (arith, hex_length s)

-- the longest line of each kind
pub heading-length : length heading ≡ heading_room
unfolding heading
heading-length = refl

pub numbers-length : (mode size mtime : ℕ) → mode < 0x1_0000_0000 → size < 0x1_0000_0000 → mtime < 0x1_0000_0000
    → length (numbers mode size mtime) ≤ 33
numbers-length mode size mtime h i j =
    omega (
      arith,
      octal-length mode h,
      decimal-length size i,
      decimal-length mtime j,
      length-append (octal mode ++ (ascii "," ++ decimal size)) (ascii "," ++ decimal mtime),
      length-append (octal mode) (ascii "," ++ decimal size),
    )

pub entry_length_lem : (s : Stat) (name : List ℕ) → s.mode < 0x1_0000_0000 → s.size < 0x1_0000_0000 → s.mtime < 0x1_0000_0000
    → length (entry_line s name) ≤ entry_room name
unfolding entry_line
entry_length_lem s name h i j =
    omega (
      arith,
      numbers-length s.mode s.size s.mtime h i j,
      hex_length name,
      length-append (numbers s.mode s.size s.mtime) (ascii "," ++ hexadecimal name ++ newline),
      length-append (ascii "," ++ hexadecimal name) newline,
    )

pub end-length : (n : ℕ) → n < 0x1_0000_0000 → length (end_line n) ≤ end_room
unfolding end_line
end-length n h = omega (arith, decimal-length n h, length-append (ascii "end," ++ decimal n) newline, length-append (ascii "end,") (decimal n))

hex_append : (s t : List ℕ) → hexadecimal (s ++ t) ≡ hexadecimal s ++ hexadecimal t
hex_append [] t = refl
hex_append (x ∷ s) t = ap (λ (l : List ℕ). hex_digit (x / 16) ∷ hex_digit (x % 16) ∷ l) (hex_append s t)

-- the digits of one byte more
pub hex_next : (s : List ℕ) (i : ℕ) → i < length s → hexadecimal (take (i + 1) s) ≡ hexadecimal (take i s) ++ hexadecimal (get_or s i 0 ∷ [])
hex_next s i h = rw (add-one, take-suc s i 0 h) (hex_append (take i s) (get_or s i 0 ∷ []))

-- ... none, and all of them
pub laid_none : (b : List ℕ) (at : ℕ) → Laid b at [] b at
unfolding over
laid_none b at = record { bytes = sym (rw (append-nil, add-zero, take-append-drop)); ends = omega arith }

pub hex_all : (s : List ℕ) (i : ℕ) → i ≡ length s → hexadecimal (take i s) ≡ hexadecimal s
hex_all s i e = rw (e, take-length s)
