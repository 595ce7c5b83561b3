-- Laws of `specs/Pieces.antt`: the pieces are those of the protocol, in their order. Assumes nothing.
use mathlib.Core.Bool.{Bool, true, false}
use mathlib.Core.List.{List, [], ◌∷◌, ◌++◌, map}
use mathlib.Core.Option.{none, some}
use mathlib.Core.Path.{◌≡◌, refl, sym, ap, ◌∙◌}
use Prim.Native.Nat.{ℕ, zero, suc, ◌+◌, ◌-◌, ◌<◌}
use native.Mathlib.Numerals.{one-add}
use native.Mathlib.Omega.{arith}
use borrow.Author.Tests.{ne_eqb}
use lib.Dec.{eqb}
use lib.ListN.{length, drop, get_or, get_elem?, get_or-map}
use lib.Seq.{get_or-drop}
use Rattle.protocol.specs.Bytes.{pick}
use Rattle.protocol.specs.Decimal.{decimal}
use Rattle.protocol.specs.Messages.{word, comma, header, nonempty, message_of, apart}
use Rattle.protocol.proofs.Decimal.{decimal_nonempty}
use Rattle.protocol.proofs.Messages.{word_low}
use Rattle.request.specs.Meaning.{meant}
use Rattle.request.specs.declared.Request.{Request}
use Rattle.request.specs.declared.Request.TheVariants as Q
use Rattle.request_message.specs.Composed.{only}
use Rattle.request_piece.specs.Pieces.{low32, header_of, parts_of, piece_list, piece_of, shown}
use Rattle.request_piece.specs.declared.Piece.{Piece}
use Rattle.request_piece.specs.declared.Piece.TheVariants.{Lent, End}

-- the header's arg has 32 bits
low : (i n : ℕ) → some (word i ++ word (low32 n)) ≡ some (word i ++ word n)
low i n = ap (λ l. some (word i ++ l)) (word_low n)

header-shown : (i : ℕ) (q : Request) (lent : List ℕ) → shown lent (header_of i q (length lent)) ≡ some (header (only i) (message_of (only i) (meant q lent)))
unfolding message_of
header-shown i Q.Stat lent = low i (length lent)
header-shown i Q.Sta2 lent = low i (length lent)
header-shown i Q.List lent = low i (length lent)
header-shown i Q.Lis2 lent = low i (length lent)
header-shown i Q.Recv lent = low i (length lent)
header-shown i (Q.Rcv2 f) lent = low i (length lent)
header-shown i (Q.Send m) lent =
    let e : length lent + (1 + length (decimal m.0)) ≡ length lent + 1 + length (decimal m.0) = omega arith in
    low i (length lent + (1 + length (decimal m.0))) ∙ ap (λ n. some (word i ++ word n)) e
header-shown i (Q.Snd2 m f) lent = low i (length lent)
header-shown i Q.Data lent = low i (length lent)
header-shown i (Q.Done t) lent = refl
header-shown i Q.Quit lent = refl

-- what is lent is a piece where it is not empty
lent-shown : (lent : List ℕ) (ps : List Piece) (rest : List (List ℕ)) → map (shown lent) ps ≡ map some (nonempty rest)
    → map (shown lent) (pick (eqb (length lent) 0) ps (Lent ∷ ps)) ≡ map some (nonempty (lent ∷ rest))
lent-shown [] ps rest e = e
lent-shown (x ∷ l) ps rest e = rw (ne_eqb (suc (length l)) 0 (λ z. omega arith)) (ap (λ t. some (x ∷ l) ∷ t) e)

digits-kept : (m : ℕ) → decimal m ∷ [] ≡ nonempty (decimal m ∷ [])
digits-kept m = go (decimal m) (decimal_nonempty m)
  where
    go : (d : List ℕ) → 0 < length d → d ∷ [] ≡ nonempty (d ∷ [])
    go [] h = absurd (omega arith)
    go (x ∷ d) h = refl

no-parts : (t : Bool) → pick {A = List Piece} t [] [] ≡ []
no-parts true = refl
no-parts false = refl

parts-shown : (i : ℕ) (q : Request) (lent : List ℕ)
    → map (shown lent) (pick (eqb (length lent) 0) (drop 1 (parts_of i q)) (parts_of i q)) ≡ map some (nonempty (message_of (only i) (meant q lent)).parts)
unfolding message_of
parts-shown i Q.Stat lent = lent-shown lent [] [] refl
parts-shown i Q.Sta2 lent = lent-shown lent [] [] refl
parts-shown i Q.List lent = lent-shown lent [] [] refl
parts-shown i Q.Lis2 lent = lent-shown lent [] [] refl
parts-shown i Q.Recv lent = lent-shown lent [] [] refl
parts-shown i (Q.Rcv2 f) lent = lent-shown lent (drop 1 (parts_of i (Q.Rcv2 f))) (word i ∷ word f.0 ∷ []) refl
parts-shown i (Q.Send m) lent =
    lent-shown lent (drop 1 (parts_of i (Q.Send m))) (comma ∷ decimal m.0 ∷ []) (ap (λ l. map some (comma ∷ l)) (digits-kept m.0))
parts-shown i (Q.Snd2 m f) lent = lent-shown lent (drop 1 (parts_of i (Q.Snd2 m f))) (word i ∷ word m.0 ∷ word f.0 ∷ []) refl
parts-shown i Q.Data lent = lent-shown lent [] [] refl
parts-shown i (Q.Done t) lent = ap (map (shown lent)) (no-parts (eqb (length lent) 0))
parts-shown i Q.Quit lent = ap (map (shown lent)) (no-parts (eqb (length lent) 0))

-- the pieces, in their order, are those of the protocol
pub pieces-shown : (i : ℕ) (q : Request) (lent : List ℕ) → map (shown lent) (piece_list i q (length lent)) ≡ map some (apart (only i) (meant q lent))
unfolding piece_list apart
pieces-shown i q lent = cc (header-shown i q lent, parts-shown i q lent)

some-nth : (l : List (List ℕ)) (k : ℕ) → get_or (map some l) k none ≡ get_elem? l k
some-nth [] zero = refl
some-nth [] (suc k) = refl
some-nth (x ∷ l) zero = refl
some-nth (x ∷ l) (suc k) = some-nth l k

-- ... and so is the k-th
pub piece-shown : (i : ℕ) (q : Request) (lent : List ℕ) (k : ℕ) → shown lent (piece_of i q (length lent) k) ≡ get_elem? (apart (only i) (meant q lent)) k
unfolding piece_of
piece-shown i q lent k =
    sym (get_or-map (shown lent) (piece_list i q (length lent)) k End)
    ∙ ap (λ l. get_or l k none) (pieces-shown i q lent)
    ∙ some-nth (apart (only i) (meant q lent)) k

-- the three cases of `piece_of`, as code goes by them
pub piece-header : (i : ℕ) (q : Request) (n k : ℕ) → k ≡ 0 → header_of i q n ≡ piece_of i q n k
unfolding piece_of piece_list
piece-header i q n k e = rw e

pub piece-empty : (i : ℕ) (q : Request) (n k : ℕ) → (k ≡ 0 → ⊥) → n ≡ 0 → get_or (parts_of i q) k End ≡ piece_of i q n k
unfolding piece_of piece_list
piece-empty i q n zero f e = absurd (f refl)
piece-empty i q n (suc j) f e = rw (e, get_or-drop, one-add)

pub piece-part : (i : ℕ) (q : Request) (n k : ℕ) → (k ≡ 0 → ⊥) → (n ≡ 0 → ⊥) → get_or (parts_of i q) (k - 1) End ≡ piece_of i q n k
unfolding piece_of piece_list
piece-part i q n zero f e = absurd (f refl)
piece-part i q n (suc j) f e = let i : suc j - 1 ≡ j = omega arith in rw (i, ne_eqb n 0 e)
