-- What a record holds, by its length and its numbers. Assumes nothing.
use mathlib.Core.Bool.{Bool, true, false, ◌&&◌, and-eq-true_iff}
use mathlib.Core.List.{List}
use mathlib.Core.Option.{none, some}
use mathlib.Core.Path.{◌≡◌, refl, sym, ◌∙◌}
use Prim.Native.Nat.{ℕ, ◌<◌}
use native.Mathlib.Omega.{arith}
use borrow.Author.Tests.{lt-ltb, eq-eqb, eqb-true, ltb-true}
use lib.Dec.{eqb, ltb}
use lib.ListN.{length}
use Rattle.protocol.specs.Bytes.{pick}
use Rattle.record.specs.Fields.{known, pending_of, session_of, step_in}
use Rattle.record.specs.Record.{size, word_of, loaded}
use Rattle.session.specs.declared.Session.{Session}

module _ (rec : List ℕ) where
  abbrev pub holds : Bool
  holds = eqb (length rec) size && known (word_of rec)

  pub held : holds ≡ true → some (session_of (word_of rec)) ≡ loaded rec
  unfolding loaded
  held e = rw e

  pub unheld : holds ≡ false → none ≡ loaded rec
  unfolding loaded
  unheld e = rw e

  pub held-size : holds ≡ true → length rec ≡ size
  held-size e = eqb-true (length rec) size ((and-eq-true_iff (eqb (length rec) size) (known (word_of rec))).0 e).0

  -- its features, its end, its state and its flag are in range, and the parts of its step inside
  pub held-known : holds ≡ true
      → (word_of rec 5 < 128) × (word_of rec 6 < 2) × (word_of rec 7 < 31) × (word_of rec 8 < 2) × (step_in (word_of rec 0) (pending_of (word_of rec)) ≡ true)
  unfolding known
  held-known e =
      let w = word_of rec in
      let k = ((and-eq-true_iff (eqb (length rec) size) (known w)).0 e).1 in
      let (m, p) = (and-eq-true_iff (ltb (w 5) 128 && ltb (w 6) 2 && ltb (w 7) 31 && ltb (w 8) 2) (step_in (w 0) (pending_of w))).0 k in
      let (i, h) = (and-eq-true_iff (ltb (w 5) 128 && ltb (w 6) 2 && ltb (w 7) 31) (ltb (w 8) 2)).0 m in
      let (j, g) = (and-eq-true_iff (ltb (w 5) 128 && ltb (w 6) 2) (ltb (w 7) 31)).0 i in
      let (d, f) = (and-eq-true_iff (ltb (w 5) 128) (ltb (w 6) 2)).0 j in
      (ltb-true (w 5) 128 d, ltb-true (w 6) 2 f, ltb-true (w 7) 31 g, ltb-true (w 8) 2 h, p)

  pub held_of : length rec ≡ size → word_of rec 5 < 128 → word_of rec 6 < 2 → word_of rec 7 < 31 → word_of rec 8 < 2
      → step_in (word_of rec 0) (pending_of (word_of rec)) ≡ true → holds ≡ true
  unfolding known
  held_of l a b c d p =
      let w = word_of rec in
      rw (eq-eqb (length rec) size l, lt-ltb (w 5) 128 a, lt-ltb (w 6) 2 b, lt-ltb (w 7) 31 c, lt-ltb (w 8) 2 d, p)

  -- what the code says of the parts of its step
  pub step-told : (b : Bool) → length rec ≡ size → pick (eqb (length rec) size) (step_in (word_of rec 0) (pending_of (word_of rec))) false ≡ b
      → step_in (word_of rec 0) (pending_of (word_of rec)) ≡ b
  step-told b l e = rw (eq-eqb (length rec) size l) at e

  -- a record that holds a session is 256 bytes long
  pub loaded-size : (s : Session) → some s ≡ loaded rec → length rec ≡ size
  loaded-size s e = go holds refl
    where
      go : (b : Bool) → holds ≡ b → length rec ≡ size
      go true h = held-size h
      go false h = let n : none ≡ some s = unheld h ∙ sym e in let z : ◌≡◌ {A = ℕ} 0 1 = cc in absurd (omega arith)
