-- The reader's steps: by the id, by the arg, by what is there. Assumes nothing.
use Prim.Native.Nat.{ℕ, suc, ◌+◌, ◌≤◌, ◌<◌}
use mathlib.Core.Bool.{true, false}
use mathlib.Core.List.{List, [], ◌∷◌}
use mathlib.Core.Option.{Option, none, some}
use mathlib.Core.Path.{◌≡◌, refl, ◌∙◌}
use native.Mathlib.Omega.{arith}
use borrow.Author.Tests.{lt-ltb, le-ltb}
use lib.ListN.{length, take, drop, get_or}
use Rattle.protocol.specs.Bytes.{number_at, whole}
use Rattle.protocol.specs.Ids.{Id, STAT, STA2, LIST, LIS2, SEND, SND2, RECV, RCV2, DATA, DONE, OKAY, FAIL, DENT, DNT2, QUIT, letters, Table, under, named}
use Rattle.protocol.specs.Modes.{mode_in}
use Rattle.protocol.specs.Records.{header_size, id_at, arg_at, u32_at}
use Rattle.protocol.specs.Requests.{Kind, path_only, path_flags, path_mode, path_mode_flags, bytes, time, bare, foreign, more, refused, kind_of, arg_ok, following, bad_path, last_comma, at_comma, with_mode, body_of, on_id, read_request}
use Rattle.protocol.proofs.Bytes.{whole_in}
use Rattle.protocol.proofs.Ids.{named-sound}
use Rattle.request_reader.specs.Meaning.{own, on_arg, send_of}

-- the steps behind a header of kind k and arg n
module _ (k : Kind) (n : ℕ) (s : List ℕ) where
  pub on-refused : arg_ok (own s) k n ≡ false → on_arg k n s ≡ refused
  unfolding on_arg
  on-refused no-arg = rw no-arg

  module _ (ok : arg_ok (own s) k n ≡ true) where
    pub on-more : length s < header_size + following k n → on_arg k n s ≡ more
    unfolding on_arg
    on-more h = rw (ok, lt-ltb _ _ h)

    pub on-whole : header_size + following k n ≤ length s → on_arg k n s ≡ body_of (own s) k n (take (following k n) (drop header_size s))
    unfolding on_arg
    on-whole h = rw (ok, le-ltb _ _ h)

-- the answer behind a header, where the code has read its arg
pub on-known : (s : List ℕ) (n : ℕ) (i : Id) → 8 ≤ length s → n ≡ whole 4 0 (u32_at 0) s 4 → on_arg (kind_of i) n s ≡ on_id (own s) s (some i)
unfolding on_arg number_at
on-known s n i h e = rw (e ∙ whole_in 4 0 (u32_at 0) s 4 (omega arith))

-- the four bytes of the id, one by one
pub id-bytes : (s : List ℕ) → 4 ≤ length s → get_or s 0 0 ∷ get_or s 1 0 ∷ get_or s 2 0 ∷ get_or s 3 0 ∷ [] ≡ id_at s
id-bytes [] h = absurd (omega arith)
id-bytes (a ∷ []) h = absurd (omega arith)
id-bytes (a ∷ b ∷ []) h = absurd (omega arith)
id-bytes (a ∷ b ∷ c ∷ []) h = absurd (omega arith)
id-bytes (a ∷ b ∷ c ∷ d ∷ s) h = refl

-- a SEND's text, under any two tables: only the limit for paths counts, which is the same
comma-any : (t u : Table) (b : List ℕ) (o : Option ℕ) → at_comma (under t) b o ≡ at_comma (under u) b o
unfolding bad_path
comma-any t u b none = refl
comma-any t u b (some k) = go (mode_in (drop (suc k) b))
  where
    go : (m : Option ℕ) → with_mode (under t) (take k b) (header_size + length b) m ≡ with_mode (under u) (take k b) (header_size + length b) m
    go none = refl
    go (some m) = refl

pub on-text : (n : ℕ) (s : List ℕ) → arg_ok (own s) path_mode n ≡ true → header_size + n ≤ length s → on_arg path_mode n s ≡ send_of (take n (drop header_size s))
unfolding following body_of
on-text n s ok h =
    let b = take n (drop header_size s) in
    on-whole path_mode n s ok h ∙ comma-any (λ i. id_at s) letters b (last_comma b)

-- ... and every arg
arg-any : (t u : Table) (k : Kind) (n : ℕ) → arg_ok (under t) k n ≡ arg_ok (under u) k n
unfolding arg_ok
arg-any t u (path_only i) n = refl
arg-any t u path_flags n = refl
arg-any t u path_mode n = refl
arg-any t u path_mode_flags n = refl
arg-any t u bytes n = refl
arg-any t u time n = refl
arg-any t u bare n = refl
arg-any t u foreign n = refl

-- the body of a message whose id begins the slice, under the table that has it
body_own : (t : Table) (s : List ℕ) (i : Id) → t i ≡ id_at s → (n : ℕ) (b : List ℕ) → body_of (under t) (kind_of i) n b ≡ body_of (own s) (kind_of i) n b
unfolding body_of bad_path
body_own t s STAT e n b = refl
body_own t s STA2 e n b = refl
body_own t s LIST e n b = refl
body_own t s LIS2 e n b = refl
body_own t s SEND e n b = comma-any t (λ i. id_at s) b (last_comma b)
body_own t s SND2 e n b = rw e
body_own t s RECV e n b = refl
body_own t s RCV2 e n b = rw e
body_own t s DATA e n b = refl
body_own t s DONE e n b = refl
body_own t s OKAY e n b = refl
body_own t s FAIL e n b = refl
body_own t s DENT e n b = refl
body_own t s DNT2 e n b = refl
body_own t s QUIT e n b = refl

-- the answer by the id that the first four bytes are
module _ (t : Table) (s : List ℕ) (long : 8 ≤ length s) where
  pub on_none : named (under t) (id_at s) ≡ none → read_request (under t) s ≡ refused
  unfolding read_request
  on_none e = rw (le-ltb _ _ long, e)

  pub on_some : (i : Id) → named (under t) (id_at s) ≡ some i → read_request (under t) s ≡ on_id (own s) s (some i)
  unfolding read_request
  on_some i e =
      let f = named-sound (under t) (id_at s) i e in
      rw (le-ltb _ _ long, e, arg-any t (λ j. id_at s) (kind_of i) (arg_at s), body_own t s i f (arg_at s) (take (following (kind_of i) (arg_at s)) (drop header_size s)))
