-- The tests of a message's path, and of the inner id and the flags behind it, in the code's order and in the protocol's. Assumes nothing.
use Prim.Native.Nat.{ℕ, zero, suc, ◌+◌, ◌-◌, ◌≤◌, ◌<◌}
use mathlib.Core.Bool.{Bool, true, false, not, ◌||◌}
use mathlib.Core.List.{List, [], ◌∷◌}
use mathlib.Core.Path.{◌≡◌, refl, sym, ap, ap₂, ◌∙◌}
use native.Mathlib.Decide.{dec_le}
use native.Mathlib.Nat.{add-zero}
use native.Mathlib.Omega.{arith}
use borrow.Author.Tests.{lt-ltb, le-ltb, lt-leb, le-leb}
use lib.Dec.{leb, ltb}
use Rattle.std.specs.Prelude.{Result, Ok, Err}
use lib.ListN.{length, take, drop}
use lib.Seq.{drop-drop, take-take}
use Rattle.protocol.specs.Bytes.{pick, Bytes, same, le, number_at, whole}
use Rattle.protocol.specs.Flags.{refused_flags}
use Rattle.protocol.specs.Ids.{published}
use Rattle.protocol.specs.Messages.{PathOnly, Request, ask, rcv2, snd2, word}
use Rattle.protocol.specs.Records.{header_size, id_at, u32_at}
use Rattle.protocol.specs.Requests.{Read, more, refused, request, path_only, path_flags, path_mode_flags, arg_ok, following, bad_path, unless_bad, body_of}
use Rattle.protocol.proofs.Bytes.{same_refl, same-eq, whole_in}
use Rattle.protocol.proofs.Words.{word-spelled}
use Rattle.request_reader.specs.Meaning.{on_arg, part_of, on_whole, words_of, staged}
use Rattle.request_reader.specs.declared.Unread.{Unread}
use Rattle.request_reader.specs.declared.Unread.TheVariants.{More, Refused}

-- a part of a list's front is a part of the list
part_of-front : (off k m : ℕ) (l : List ℕ) → off + k ≤ m → take k (drop off (take m l)) ≡ take k (drop off l)
part_of-front zero k m l h = take-take k m l (omega arith)
part_of-front (suc off) k zero l h = absurd (omega arith)
part_of-front (suc off) k (suc m) [] h = refl
part_of-front (suc off) k (suc m) (x ∷ l) h = part_of-front off k m l (omega arith)

-- four bytes of what follows the header, there and in the whole slice
module _ (s : List ℕ) (off m : ℕ) (h : off + 4 ≤ m) where
  four-in : take 4 (drop off (take m (drop header_size s))) ≡ take 4 (drop (header_size + off) s)
  four-in = part_of-front off 4 m (drop header_size s) h ∙ ap (take 4) (drop-drop off header_size s)

  number-in : number_at 4 off (take m (drop header_size s)) ≡ number_at 4 (header_size + off) s
  unfolding number_at
  number-in = rw four-in

-- the tests of a path, in their order
module _ (n behind : ℕ) (s : List ℕ) where
  pub part-long : published.longest < n → part_of n behind s ≡ Err Refused
  unfolding part_of
  part-long h = rw (lt-leb _ _ h)

  module _ (short : n ≤ published.longest) where
    pub part-more : length s < header_size + (n + behind) → part_of n behind s ≡ Err More
    unfolding part_of
    part-more h = rw (le-leb _ _ short, lt-ltb _ _ h)

    module _ (there : header_size + (n + behind) ≤ length s) where
      size : header_size + n - header_size ≡ n
      size = omega arith

      pub part-bad : bad_path published (take (header_size + n - header_size) (drop header_size s)) ≡ true → part_of n behind s ≡ Err Refused
      unfolding part_of
      part-bad e = rw (le-leb _ _ short, le-ltb _ _ there, rw size at e)

      pub part-good : bad_path published (take (header_size + n - header_size) (drop header_size s)) ≡ false → part_of n behind s ≡ Ok tt
      unfolding part_of
      part-good e = rw (le-leb _ _ short, le-ltb _ _ there, rw size at e)

  pub part-whole : part_of n behind s ≡ Ok tt → header_size + (n + behind) ≤ length s
  part-whole e = go (dec_le n published.longest) (dec_le (header_size + (n + behind)) (length s))
    where
      go : Dec (n ≤ published.longest) → Dec (header_size + (n + behind) ≤ length s) → header_size + (n + behind) ≤ length s
      go short (yes h) = h
      go (no f) (no g) = let z : ◌≡◌ {A = ℕ} 0 1 = cc (part-long (omega arith)) in absurd (omega arith)
      go (yes short) (no g) = let z : ◌≡◌ {A = ℕ} 0 1 = cc (part-more short (omega arith)) in absurd (omega arith)

-- answers that go by these tests
staged-pick : (t : Bool) (a b : Result Unit Unread) (x : Read) → staged (pick t a b) x ≡ pick t (staged a x) (staged b x)
staged-pick true a b x = refl
staged-pick false a b x = refl

whole-pick : (t : Bool) (a b x : Result Unit Unread) → on_whole (pick t a b) x ≡ pick t (on_whole a x) (on_whole b x)
whole-pick true a b x = refl
whole-pick false a b x = refl

pick-or : (a b c : Bool) (x y : Read) → pick (a || b || c) x y ≡ pick a x (pick (b || c) x y)
pick-or true b c x y = refl
pick-or false b c x y = refl

pub on-path : (i : PathOnly) (n : ℕ) (s : List ℕ) → on_arg (path_only i) n s ≡ staged (part_of n 0 s) (request (ask i (take n (drop header_size s))) (header_size + n))
unfolding on_arg arg_ok following body_of bad_path part_of
on-path i n s = rw (add-zero n) (simp staged-pick)

-- a word of a message that is there, as the code reads it and as the protocol does
word_at : (n k behind : ℕ) (s : List ℕ) → k + 4 ≤ behind → header_size + (n + behind) ≤ length s
    → number_at 4 (n + k) (take (n + behind) (drop header_size s)) ≡ whole 4 0 (u32_at 0) s (n + (header_size + k))
unfolding number_at
word_at n k behind s h there =
    let off : header_size + (n + k) ≡ n + (header_size + k) = omega arith in
    number-in s (n + k) (n + behind) (omega arith)
    ∙ ap (λ (j : ℕ). le (take 4 (drop j s))) off
    ∙ sym (whole_in 4 0 (u32_at 0) s (n + (header_size + k)) (omega arith))

-- the tests that RCV2 and SND2 share, in the protocol's order
abbrev tested : ℕ → ℕ → ℕ → Bool → List ℕ → Request → Read
tested n behind f pull s q =
    pick (leb n published.longest)
    (pick (ltb (length s) (header_size + (n + behind))) more
    (unless_bad (bad_path published (take n (drop header_size s)) || not (same (take 4 (drop (header_size + n) s)) (id_at s)) || refused_flags pull f) q
    (header_size + (n + behind))))
    refused

-- ... and in the code's: where the message is there, the words g and those of q that the code has read are the request's
on-words : (n behind f g : ℕ) (pull : Bool) (s : List ℕ) (q x : Request) → (header_size + (n + behind) ≤ length s → (g ≡ f) × (q ≡ x))
    → tested n behind g pull s q ≡ staged (words_of n behind f pull s) (request x (n + (header_size + behind)))
unfolding words_of part_of
on-words n behind f g pull s q x words = go (dec_le (header_size + (n + behind)) (length s))
  where
    size : n + (header_size + behind) ≡ header_size + (n + behind)
    size = omega arith

    go : Dec (header_size + (n + behind) ≤ length s) → tested n behind g pull s q ≡ staged (words_of n behind f pull s) (request x (n + (header_size + behind)))
    go (yes there) = let (e, d) = words there in rw (e, d, size) (simp (whole-pick, staged-pick, pick-or))
    go (no short) = let h : length s < header_size + (n + behind) = omega arith in rw (lt-ltb _ _ h) (simp (whole-pick, staged-pick))

pub on-flags : (n f : ℕ) (s : List ℕ) → f ≡ whole 4 0 (u32_at 0) s (n + 12)
    → on_arg path_flags n s ≡ staged (words_of n 8 f true s) (request (rcv2 (take n (drop header_size s)) f) (n + 16))
unfolding on_arg arg_ok following body_of bad_path
on-flags n f s e =
    let g = number_at 4 (n + 4) (take (n + 8) (drop header_size s)) in
    let p = take n (drop header_size s) in
    rw (take-take n (n + 8) (drop header_size s) (omega arith), four-in s n (n + 8) (omega arith))
    (on-words n 8 f g true s (rcv2 p g) (rcv2 p f)
    (λ there. let w = word_at n 4 8 s (omega arith) there ∙ sym e in (w, ap (rcv2 p) w)))

pub on-mode_flags : (n m f : ℕ) (s : List ℕ) → m ≡ whole 4 0 (u32_at 0) s (n + 12) → f ≡ whole 4 0 (u32_at 0) s (n + 16)
    → on_arg path_mode_flags n s ≡ staged (words_of n 12 f false s) (request (snd2 (take n (drop header_size s)) m f) (n + 20))
unfolding on_arg arg_ok following body_of bad_path
on-mode_flags n m f s d e =
    let k = number_at 4 (n + 4) (take (n + 12) (drop header_size s)) in
    let g = number_at 4 (n + 8) (take (n + 12) (drop header_size s)) in
    let p = take n (drop header_size s) in
    rw (take-take n (n + 12) (drop header_size s) (omega arith), four-in s n (n + 12) (omega arith))
    (on-words n 12 f g false s (snd2 p k g) (snd2 p m f)
    (λ there.
    let v = word_at n 4 12 s (omega arith) there ∙ sym d in
    let w = word_at n 8 12 s (omega arith) there ∙ sym e in
    (w, ap₂ (snd2 p) v w)))

-- the inner id, by the number that it spells
module _ (s : List ℕ) (at : ℕ) (bytes : Bytes s) (there : at + 4 ≤ length s) (front : 4 ≤ length s) where
  spelled : (off : ℕ) → off + 4 ≤ length s → word (whole 4 0 (u32_at 0) s off) ≡ take 4 (drop off s)
  unfolding number_at
  spelled off h = ap word (whole_in 4 0 (u32_at 0) s off h) ∙ word-spelled s off bytes h

  pub inner-same : whole 4 0 (u32_at 0) s at ≡ whole 4 0 (u32_at 0) s 0 → same (take 4 (drop at s)) (id_at s) ≡ true
  inner-same e = ap (λ (x : List ℕ). same x (id_at s)) (sym (spelled at there) ∙ ap word e ∙ spelled 0 front) ∙ same_refl (id_at s)

  pub inner-other : (whole 4 0 (u32_at 0) s at ≡ whole 4 0 (u32_at 0) s 0 → ⊥) → same (take 4 (drop at s)) (id_at s) ≡ false
  unfolding number_at
  inner-other f = go (same (take 4 (drop at s)) (id_at s)) refl
    where
      go : (t : Bool) → same (take 4 (drop at s)) (id_at s) ≡ t → t ≡ false
      go true e = absurd (f (whole_in 4 0 (u32_at 0) s at there ∙ ap le (same-eq (take 4 (drop at s)) (id_at s) e) ∙ sym (whole_in 4 0 (u32_at 0) s 0 front)))
      go false e = refl
