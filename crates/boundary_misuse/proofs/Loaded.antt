-- A session that was loaded from any record of bytes: its numbers are as wide as their fields.
-- Assumes nothing.
use Prim.Native.Nat.{ℕ, zero, suc, ◌*◌}
use mathlib.Core.Bool.{true, ◌&&◌, and-eq-true_iff}
use mathlib.Core.List.{List, [], ◌∷◌, ◌++◌, map}
use mathlib.Core.Option.{Option, none, some}
use mathlib.Core.Path.{◌≡◌}
use native.Mathlib.Omega.{arith}
use borrow.Author.Tests.{leb-true}
use lib.Dec.{eqb}
use lib.ListN.{length, get_or, take, drop}
use Rattle.protocol.specs.Bytes.{Bytes, number_at}
use Rattle.protocol.proofs.Bodies.{pick-cases}
use Rattle.protocol.proofs.Bytes.{bytes_drop}
use Rattle.protocol.proofs.Words.{le_below}
use Rattle.record.proofs.States.{known-parts}
use Rattle.record.specs.Fields.{is_one, low, dent_from, dent2_from, requests, phases, pendings, ids_from, pending_of, session_of, keeps_in, step_in, known}
use Rattle.record.specs.Narrow.{U32, U64, NarrowDent, NarrowDent2, NarrowPhase, NarrowRequest, NarrowPending, NarrowIds, Narrow}
use Rattle.record.specs.Record.{word_of, loaded, size}
use Rattle.request.specs.declared.Request.{Request}
use Rattle.session.specs.declared.Pending.{Pending}
use Rattle.session.specs.declared.Pending.TheVariants.{Idle, Reading, Writing, Closing}
use Rattle.session.specs.declared.Phase.{Phase}
use Rattle.session.specs.declared.Session.{Session}
use Rattle.boundary.proofs.Narrow.{signed-fits}

-- ---- every element of a list

module _ {A : Type 0} (P : A → Type 0) where
  abbrev All : List A → Type 0
  All [] = Unit {0}
  All (x ∷ xs) = P x × All xs

  all_one : (xs : List A) (z : A) → P z → All xs → (i : ℕ) → P (get_or xs i z)
  all_one [] z p a i = p
  all_one (x ∷ xs) z p a zero = a.0
  all_one (x ∷ xs) z p a (suc i) = all_one xs z p a.1 i

  all_append : (xs ys : List A) → All xs → All ys → All (xs ++ ys)
  all_append [] ys a b = b
  all_append (x ∷ xs) ys a b = (a.0, all_append xs ys a.1 b)

all_map : {A B : Type 0} (P : A → Type 0) (Q : B → Type 0) (f : A → B) → ((x : A) → P x → Q (f x)) → (xs : List A) → All P xs → All Q (map f xs)
all_map P Q f h [] a = tt
all_map P Q f h (x ∷ xs) a = (h x a.0, all_map P Q f h xs a.1)

-- ---- sessions

-- 32 numbers of 64 bits
module _ (n : ℕ → ℕ) (w : (i : ℕ) → U64 (n i)) where
  l : (i : ℕ) → U32 (low (n i))
  l i = omega arith

  dent-narrow : NarrowDent (dent_from n)
  dent-narrow = record { mode = l 12; size = l 13; mtime = l 14; namelen = l 15 }

  dent2-narrow : NarrowDent2 (dent2_from n)
  dent2-narrow =
      record {
        error = l 12;
        dev = w 13;
        ino = w 14;
        mode = l 15;
        nlink = l 16;
        uid = l 17;
        gid = l 18;
        size = w 19;
        atime = signed-fits (n 20) (w 20);
        mtime = signed-fits (n 21) (w 21);
        ctime = signed-fits (n 22) (w 22);
        namelen = l 23;
      }

  requests-narrow : All NarrowRequest (requests n)
  requests-narrow = omega arith

  -- a phase that keeps no more of a FAIL text than the capacity
  abbrev Phased : Phase → Type 0
  Phased p = keeps_in (n 0) p ≡ true → NarrowPhase (n 0) p

  phases-narrow : All Phased (phases n)
  phases-narrow =
      let headers : All Phased (take 7 (phases n)) = (λ e. tt, (λ e. tt, (λ e. tt, (λ e. tt, (λ e. tt, (λ e. tt, (λ e. tt, tt))))))) in
      let records : All Phased (take 6 (drop 7 (phases n))) = (λ e. tt, (λ e. tt, (λ e. tt, (λ e. tt, (λ e. tt, (λ e. tt, tt)))))) in
      let others : All Phased (drop 13 (phases n)) =
      (λ e. dent-narrow, (λ e. dent2-narrow, (λ e. l 12, (λ e. l 12, (λ e. (w 12, leb-true (n 13) (n 0) e), tt))))) in
      all_append Phased (take 7 (phases n)) (drop 7 (phases n)) headers (all_append Phased (take 6 (drop 7 (phases n))) (drop 13 (phases n)) records others)

  -- a step whose parts lie inside
  abbrev Stepped : Pending → Type 0
  Stepped p = step_in (n 0) p ≡ true → NarrowPending (n 0) p

  pending-narrow : Stepped (pending_of n)
  pending-narrow =
      let writing : Request → Pending = λ q. Writing q (n 10) (n 11) in
      let reading : Phase → Pending = λ p. Reading p (n 9) (is_one (n 8)) in
      all_one Stepped (pendings n) Idle (λ e. tt)
      (all_append Stepped (Idle ∷ map writing (requests n)) (Closing (is_one (n 8)) (low (n 12)) ∷ map reading (phases n))
      (λ e. tt, all_map NarrowRequest Stepped writing (λ q r e. (r, (w 10, w 11), e)) (requests n) requests-narrow)
      (λ e. l 12, all_map Phased Stepped reading (λ p r e. (r e, w 9)) (phases n) phases-narrow))
      (n 7)

  ids-narrow : NarrowIds (ids_from n)
  ids-narrow = record { stat = w 24; list = w 25; send = w 26; recv = w 27; «data» = w 28; okay = w 29; dent = w 30; quit = w 31 }

  numbers-narrow : step_in (n 0) (pending_of n) ≡ true → Narrow (session_of n)
  unfolding session_of
  numbers-narrow e = record { capacity = w 0; message = w 1; head = w 2; tail = w 3; lent = w 4; ids = ids-narrow; pending = pending-narrow e }

abbrev pub Widths : Option Session → Type 0
Widths none = Unit {0}
Widths (some s) = Narrow s

-- the session that a record holds, if it holds one
pub loaded-narrow : (rec : List ℕ) → Bytes rec → Widths (loaded rec)
unfolding loaded number_at
loaded-narrow rec b =
    pick-cases Widths (eqb (length rec) size && known (word_of rec))
    (λ e. numbers-narrow (word_of rec) (λ i. le_below 8 (drop (8 * i) rec) (bytes_drop (8 * i) rec b)) (known-parts (word_of rec) ((and-eq-true_iff (eqb (length rec) size) (known (word_of rec))).0 e).1)) (λ e. tt)
