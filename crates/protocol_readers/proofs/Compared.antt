-- The facts of `specs/Compared.antt` hold. Assumes nothing.
use Prim.Native.Nat.{ℕ, ◌<◌}
use mathlib.Core.Bool.{Bool, true, false, true≢false}
use mathlib.Core.List.{[], ◌∷◌}
use mathlib.Core.Logic.{inl, inr}
use mathlib.Core.Path.{◌≡◌, refl, sym, ap, ◌∙◌}
use native.Mathlib.Omega.{arith}
use lib.Dec.{eqb}
use lib.ListN.{length, take, get_or}
use Rattle.protocol.specs.Answers.{Answer, number, bytes, done, too_large}
use Rattle.protocol.specs.Bytes.{ascii}
use Rattle.protocol_readers.specs.Compared.{Compared}
use Rattle.protocol_readers.specs.Wider.{Stops, Cut, Like}

-- two things that a test tells apart are not the same
apart_by : {A : Type 0} (test : A → Bool) (x y : A) → test x ≡ true → test y ≡ false → x ≡ y → ⊥
apart_by test x y a b e = true≢false (sym a ∙ ap test e ∙ b)

-- a text of another length than c is not cut; nor is one whose length is not over c
uncut : (c l : ℕ) (a b : Answer) → (length (bytes a) ≡ c → c < l → ⊥) → Cut c l a b → ⊥
uncut c l a b f k = f (ap length (ap bytes k.A_fails) ∙ k.full) k.over

-- a cut text is what B's begins with
begun : (c l : ℕ) (a b : Answer) → Cut c l a b → bytes a ≡ take c (bytes b)
begun c l a b k = ap bytes k.A_fails ∙ k.begins ∙ ap (take c) (sym (ap bytes k.B_fails))

-- answers of other bytes, or of other numbers
unlike : (c l : ℕ) (a b : Answer) → (a ≡ b → ⊥) → (Cut c l a b → ⊥) → Like c l a b → ⊥
unlike c l a b f g (inl e) = f e
unlike c l a b f g (inr k) = g k

size_of : ℕ → Answer → Bool
size_of n a = eqb (length (bytes a)) n

pub compared : Compared
unfolding size_of
compared =
    record {
      closed_stops = refl;
      error_stops = λ c. refl;
      large_stops = refl;
      done_passes = λ e. true≢false (sym e);
      end_passes = λ e. true≢false (sym e);
      stat_passes = λ s e. true≢false (sym e);
      stat2_passes = λ s e. true≢false (sym e);
      entry_passes = λ s n e. true≢false (sym e);
      entry2_passes = λ s n e. true≢false (sym e);
      chunk_passes = λ b e. true≢false (sym e);
      refused_passes = λ e. true≢false (sym e);
      missing_passes = λ f e. true≢false (sym e);
      fail_passes = λ t e. true≢false (sym e);
      id_passes = λ i e. true≢false (sym e);
      errno_passes = λ c e. true≢false (sym e);
      before = λ j h. at_zero j (omega arith);
      at = λ u. u 1 (omega arith) refl;
      behind = λ u. u 1 (omega arith) refl;
      same = λ a. inl refl;
      cut = inr (record { over = omega arith; text = ascii "abc"; longer = ascii "abcde"; A_fails = refl; B_fails = refl; begins = refl; full = refl });
      cut_twice = inr (record { over = omega arith; text = ascii "abc"; longer = ascii "abcd"; A_fails = refl; B_fails = refl; begins = refl; full = refl });
      other_text = unlike 3 5 _ _ (apart_by (size_of 3) _ _ refl refl) (λ k. apart_by (λ l. eqb (get_or l 2 0) 100) _ _ refl refl (begun 3 5 _ _ k));
      cut_early = unlike 3 5 _ _ (apart_by (size_of 2) _ _ refl refl) (uncut 3 5 _ _ (λ e h. absurd (omega (arith, e))));
      not_cut = unlike 3 3 _ _ (apart_by (size_of 3) _ _ refl refl) (uncut 3 3 _ _ (λ e h. absurd (omega (arith, h))));
      other_answer = unlike 3 5 _ _ (apart_by (size_of 3) _ _ refl refl)
          (λ k. apart_by (λ l. eqb (length l) 3) _ _ refl refl (begun 3 5 _ _ k));
      other_chunk = unlike 3 5 _ _ (apart_by (size_of 3) _ _ refl refl) (λ k. apart_by (λ a. eqb (number a) 0) _ _ refl refl k.A_fails);
    }
  where
    at_zero : (j : ℕ) → j ≡ 0 → Stops (get_or (done ∷ too_large ∷ done ∷ []) j done) → ⊥
    at_zero j e s = true≢false (sym (rw e at s))
