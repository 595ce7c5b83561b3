-- Laws of `specs/Messages.antt`: whatever the cut into pieces, the same bytes go out; how long a request is; its arg in 32 bits.
-- Assumes nothing.
use mathlib.Core.Bool.{Bool, true, false}
use mathlib.Core.List.{List, [], ◌∷◌, ◌++◌, append-nil}
use mathlib.Core.Path.{◌≡◌, refl, sym, ap, ◌∙◌}
use Prim.Native.Nat.{ℕ, zero, suc, ◌+◌, ◌*◌, ◌/◌, ◌%◌, ◌^◌}
use native.Mathlib.Nat.{pow-succ', mul_assoc}
use native.Mathlib.Omega.{arith}
use lib.Dec.{leb}
use lib.ListN.{length, length-append}
use Rattle.protocol.specs.Bytes.{pick, bytes_of}
use Rattle.protocol.specs.Ids.{Sound, Dialect}
use Rattle.protocol.specs.Messages.{PathOnly, path_id, Request, Message, stat, sta2, list, lis2, recv, ask, rcv2, send, snd2, chunk, done, quit, word, header, joined, nonempty, message_of, bytes_of_request, apart, pieces}
use Rattle.protocol.specs.Records.{header_size}
use Rattle.protocol.specs.Requests.{kind_of, path_only, following}

-- empty parts carry no bytes
pub joined-nonempty : (ps : List (List ℕ)) → joined (nonempty ps) ≡ joined ps
joined-nonempty [] = refl
joined-nonempty ([] ∷ ps) = joined-nonempty ps
joined-nonempty ((b ∷ p) ∷ ps) = ap (λ l. (b ∷ p) ++ l) (joined-nonempty ps)

-- a message goes out whole, as one piece or in several
pub pieces-joined : (d : Dialect) (free : ℕ) (q : Request) → joined (pieces d free q) ≡ bytes_of_request d q
unfolding pieces bytes_of_request apart
pieces-joined d free q = cut (leb (length (bytes_of_request d q)) free)
  where
    cut : (one : Bool) → joined (pick one (bytes_of_request d q ∷ []) (apart d q)) ≡ bytes_of_request d q
    cut true = append-nil _
    cut false = ap (λ l. header d (message_of d q) ++ l) (joined-nonempty (message_of d q).parts)

-- the path-only requests are of one kind
pub kind-path : (i : PathOnly) → kind_of (path_id i) ≡ path_only i
kind-path stat = refl
kind-path sta2 = refl
kind-path list = refl
kind-path lis2 = refl
kind-path recv = refl

module _ (d : Dialect) (s : Sound d) where
  pub header-length : (m : Message) → length (header d m) ≡ header_size
  header-length m = simp (length-append, s.four)

  -- a message's parts: as many bytes as follow a header of its kind and its arg
  pub parts-length : (q : Request) → length (joined (message_of d q).parts) ≡ following (kind_of (message_of d q).id) (message_of d q).arg
  unfolding message_of following
  parts-length (ask i p) = simp (kind-path, length-append) (omega arith)
  parts-length (rcv2 p f) = simp (length-append, s.four) (omega arith)
  parts-length (send p m) = simp length-append (omega arith)
  parts-length (snd2 p m f) = simp (length-append, s.four) (omega arith)
  parts-length (chunk x) = simp length-append (omega arith)
  parts-length (done t) = refl
  parts-length quit = refl

  pub request-length : (q : Request) → length (bytes_of_request d q) ≡ header_size + following (kind_of (message_of d q).id) (message_of d q).arg
  unfolding bytes_of_request
  request-length q = simp (length-append (header d (message_of d q)), header-length, parts-length q)

-- the k low bytes of a number are those of what it leaves by 256 ^ k
pub bytes_of-more : (k y q : ℕ) → bytes_of k (y + 256 ^ k * q) ≡ bytes_of k y
bytes_of-more zero y q = refl
bytes_of-more (suc k) y q =
    let e : 256 ^ suc k * q ≡ 256 * (256 ^ k * q) = rw (pow-succ' 256 k) (mul_assoc 256 (256 ^ k) q) in
    let m : (y + 256 ^ suc k * q) % 256 ≡ y % 256 = omega arith in
    let n : (y + 256 ^ suc k * q) / 256 ≡ y / 256 + 256 ^ k * q = omega arith in
    rw (m, n, bytes_of-more k (y / 256) q)

pub word_low : (n : ℕ) → word (n % 0x1_0000_0000) ≡ word n
word_low n =
    let e : n % 0x1_0000_0000 + 0x1_0000_0000 * (n / 0x1_0000_0000) ≡ n = omega arith in
    sym (bytes_of-more 4 (n % 0x1_0000_0000) (n / 0x1_0000_0000)) ∙ ap word e
