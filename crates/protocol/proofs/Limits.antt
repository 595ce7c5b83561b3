-- The facts of `specs/Limits.antt` hold. Assumes nothing.
use Prim.Native.Nat.{ℕ, zero, suc, ◌≤◌, ◌<◌}
use mathlib.Core.Bool.{Bool, true, false}
use mathlib.Core.List.{List, [], ◌∷◌, ◌++◌, map, append-nil}
use mathlib.Core.Path.{◌≡◌, refl, sym, ap, ◌∙◌}
use native.Mathlib.Omega.{arith}
use borrow.Author.Tests.{lt-ltb, le-ltb}
use lib.ListN.{length, take, drop, replicate, length-append, length-drop, drop_of_length-le}
use lib.Seq.{take_at, drop_at, take_all}
use Rattle.protocol.specs.Bytes.{ascii, has}
use Rattle.protocol.specs.Calls.{call, messages, cut_by, cut, chunks}
use Rattle.protocol.specs.Fact.{Hold}
use Rattle.protocol.specs.Flags.{refused_flags, several, unknown, dry_run}
use Rattle.protocol.specs.Decimal.{decimal, canonical}
use Rattle.protocol.specs.Refusal.{path_refusal, flag_refusal, feature_refusal, transfer_refusal, request_refusal, refusal}
use Rattle.protocol.specs.Ids.{Table, STAT}
use Rattle.protocol.specs.Limits.{Limits, host, lengths}
use Rattle.protocol.specs.Messages.{data_most, bytes_of_request, message_of}
use Rattle.protocol.specs.Reader.{writes}
use Rattle.protocol.specs.Refusals.{with_path}
use Rattle.protocol.proofs.Decimal.{decimal-canonical}
use Rattle.protocol.proofs.Refusals.{has-no_nul}

-- more steps than bytes come to the same parts
cut-enough : (f g : ℕ) (x : List ℕ) → length x ≤ f → length x ≤ g → cut_by f x ≡ cut_by g x
cut-enough zero zero x h k = refl
cut-enough zero (suc g) [] h k = refl
cut-enough zero (suc g) (b ∷ x) h k = absurd (omega arith)
cut-enough (suc f) zero [] h k = refl
cut-enough (suc f) zero (b ∷ x) h k = absurd (omega arith)
cut-enough (suc f) (suc g) [] h k = refl
cut-enough (suc f) (suc g) (b ∷ x) h k =
    let l = length-drop data_most (b ∷ x) in
    ap (λ ps. take data_most (b ∷ x) ∷ ps) (cut-enough f g (drop data_most (b ∷ x)) (omega arith) (omega arith))

cut_step : (x : List ℕ) → 0 < length x → cut x ≡ take data_most x ∷ cut (drop data_most x)
unfolding cut
cut_step [] h = absurd (omega arith)
cut_step (b ∷ x) h =
    let l = length-drop data_most (b ∷ x) in
    ap (λ ps. take data_most (b ∷ x) ∷ ps) (cut-enough (length x) (length (drop data_most (b ∷ x))) (drop data_most (b ∷ x)) (omega arith) (omega arith))

cut-none : cut [] ≡ []
unfolding cut
cut-none = refl

cut-one : (x : List ℕ) → 0 < length x → length x ≤ 65536 → cut x ≡ x ∷ []
cut-one x n l = cut_step x n ∙ rw (take_all data_most x l, drop_of_length-le x l, cut-none)

cut-more : (x rest : List ℕ) → length x ≡ 65536 → cut (x ++ rest) ≡ x ∷ cut rest
cut-more x rest l =
    cut_step (x ++ rest) (omega (arith, length-append x rest)) ∙ rw (take_at x rest data_most l, drop_at x rest data_most l)

pub lengths-hold : Hold lengths
unfolding refusal request_refusal path_refusal flag_refusal feature_refusal transfer_refusal refused_flags several unknown dry_run
lengths-hold = refl

ten_digits : decimal 4294967295 ≡ ascii "4294967295"
unfolding canonical
ten_digits = let (e, small) = decimal-canonical (ascii "4294967295") 4294967295 refl in sym e

over_unwritten : (t : Table) (p : List ℕ) → 1024 < length p → map (λ q. writes (host t) (call q)) (with_path 33188 4 p) ≡ replicate 8 []
unfolding path_refusal request_refusal refusal writes
over_unwritten t p l = go (has 0 p) refl
  where
    go : (nul : Bool) → has 0 p ≡ nul → map (λ q. writes (host t) (call q)) (with_path 33188 4 p) ≡ replicate 8 []
    go true z = simp (z, lt-ltb _ _ l)
    go false z = simp (z, lt-ltb _ _ l)

pub limits : (t : Table) → Limits t
unfolding path_refusal request_refusal refusal messages writes bytes_of_request message_of
limits t =
    record {
      path_fits = λ p n l. simp (has-no_nul p n, le-ltb _ _ l);
      path_over = λ p n l. simp (has-no_nul p n, lt-ltb _ _ l);
      longest_asked = λ p n l. rw (l, has-no_nul p n) (append-nil _ ∙ ap (λ (s : List ℕ). (t STAT ++ 0 ∷ 4 ∷ 0 ∷ 0 ∷ []) ++ s) (append-nil p));
      longest_sent = λ p n l. rw (l, has-no_nul p n, ten_digits) (append-nil _);
      over_unwritten = over_unwritten t;
      data_unrefused = λ x. refl;
      data_none = ap chunks cut-none;
      data_one = λ x n l. ap chunks (cut-one x n l);
      data_more = λ x rest l. ap chunks (cut-more x rest l);
    }
