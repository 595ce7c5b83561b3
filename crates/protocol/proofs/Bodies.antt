-- Laws of what follows a request's header (`body_of` of `specs/Requests.antt`), for each kind of request in both directions: a request
-- that is read there is one that the host would write so, but for DATA of length 0 and modes in octal (`means`), and what the host writes
-- there is read as the request meant (`reads`). Assumes nothing.
use Prim.Native.Nat.{ℕ, suc, ◌+◌, ◌≤◌, ◌<◌}
use mathlib.Core.Bool.{Bool, true, false, not, ◌||◌, true≢false}
use mathlib.Core.List.{List, [], ◌∷◌, ◌++◌, append_assoc, append-nil}
use mathlib.Core.Logic.{◌⊎◌, inl, inr}
use mathlib.Core.Option.{Option, none, some, none-ne-some, some-injective}
use mathlib.Core.Path.{◌≡◌, refl, sym, ap, ◌∙◌}
use native.Mathlib.Numerals.{add-one}
use native.Mathlib.Omega.{arith}
use borrow.Author.Tests.{le-ltb, le-leb, leb-true, ltb-false, eqb-true, not-false}
use lib.Dec.{eqb}
use lib.ListN.{length, take, drop, length-append, take-append-drop}
use lib.Seq.{take_at, take-append_seam, drop-append_seam, drop-append-add, drop-drop, length-take-le}
use Rattle.protocol.specs.Bytes.{pick, Bytes, has, same, number_at}
use Rattle.protocol.specs.Decimal.{decimal}
use Rattle.protocol.specs.Flags.{refused_flags}
use Rattle.protocol.specs.Headers.{Form, by_host, in_octal}
use Rattle.protocol.specs.Ids.{Sound, Id, STAT, STA2, LIST, LIS2, SEND, SND2, RECV, RCV2, DATA, DONE, OKAY, FAIL, DENT, DNT2, QUIT, Dialect}
use Rattle.protocol.specs.Messages.{PathOnly, stat, sta2, list, lis2, recv, path_id, Request, ask, rcv2, send, snd2, chunk, done, quit, word, message_of, joined, bytes_of_request, PathOk, data_most, HostWrites}
use Rattle.protocol.specs.Modes.{mode_in}
use Rattle.protocol.specs.Records.{header_size}
use Rattle.protocol.specs.Requests.{Read, more, refused, request, Kind, path_only, path_flags, path_mode, path_mode_flags, bytes, kind_of, arg_ok, following, bad_path, comma_at, last_comma, with_mode, at_comma, body_of}
use Rattle.protocol.proofs.Bytes.{same_refl, same-eq}
use Rattle.protocol.proofs.Messages.{kind-path}
use Rattle.protocol.proofs.Modes.{Written, decimal-mode, mode-written, decimal-text}
use Rattle.protocol.proofs.Words.{number-below, word-behind, number_behind, word-there, word-last}

-- what the panel takes: what the host writes, and DATA of length 0
abbrev pub Taken : Dialect → Request → Type 0
Taken d q = HostWrites d q ⊎ (q ≡ chunk [])

-- tests: what holds in both cases, and neither of two
pub pick-cases : {A : Type 0} (P : A → Type 0) (t : Bool) {a b : A} → (t ≡ true → P a) → (t ≡ false → P b) → P (pick t a b)
pick-cases P true f g = f refl
pick-cases P false f g = g refl

pub or-false : (a b : Bool) → a || b ≡ false → (a ≡ false) × (b ≡ false)
or-false true b e = absurd (true≢false e)
or-false false b e = (refl, e)

-- paths
pub path-good : (d : Dialect) (p : List ℕ) → PathOk d p → bad_path d p ≡ false
unfolding bad_path
path-good d p h = rw (le-ltb _ _ h.short, h.no_nul)

path-was_good : (d : Dialect) (p : List ℕ) → bad_path d p ≡ false → PathOk d p
unfolding bad_path
path-was_good d p e =
    let (short, no_nul) = or-false _ _ e in
    record { short = ltb-false _ _ short; no_nul = no_nul }

-- the tests that RCV2 and SND2 share: of the path p, of y against the inner id x, of the flags f
tests_pass : (d : Dialect) (p x : List ℕ) (pull : Bool) (f : ℕ) → PathOk d p → refused_flags pull f ≡ false
    → bad_path d p || not (same x x) || refused_flags pull f ≡ false
tests_pass d p x pull f h pass = rw (path-good d p h, same_refl x, pass)

tests_passed : (d : Dialect) (p y x : List ℕ) (pull : Bool) (f : ℕ) → bad_path d p || not (same y x) || refused_flags pull f ≡ false
    → PathOk d p × (y ≡ x) × (refused_flags pull f ≡ false)
tests_passed d p y x pull f e =
    let (both, pass) = or-false (bad_path d p || not (same y x)) (refused_flags pull f) e in
    let (path, inner) = or-false (bad_path d p) (not (same y x)) both in
    (path-was_good d p path, same-eq y x (not-false (same y x) inner), pass)

-- a list is its first n, the inner id behind them, and the rest
inner-there : (b : List ℕ) (n : ℕ) (x t : List ℕ) → take 4 (drop n b) ≡ x → t ≡ drop (n + 4) b → take n b ++ (x ++ t) ≡ b
inner-there b n x t e f =
    ap (λ (y : List ℕ). take n b ++ (y ++ t)) (sym e)
    ∙ ap (λ (y : List ℕ). take n b ++ (take 4 (drop n b) ++ y)) (f ∙ sym (drop-drop 4 n b))
    ∙ ap (λ (y : List ℕ). take n b ++ y) (take-append-drop 4 (drop n b))
    ∙ take-append-drop n b

-- the last comma: in front of a text that has none, and where it is found
comma-none : (t : List ℕ) → has 44 t ≡ false → last_comma t ≡ none
comma-none [] e = refl
comma-none (x ∷ t) e = go (comma-none t) (eqb x 44) refl e
  where
    go : (has 44 t ≡ false → last_comma t ≡ none) → (q : Bool) → eqb x 44 ≡ q → pick q true (has 44 t) ≡ false → comma_at x (last_comma t) ≡ none
    go rest true c f = absurd (true≢false f)
    go rest false c f = rw (rest f, c)

pub comma-last : (p t : List ℕ) → last_comma t ≡ none → last_comma (p ++ 44 ∷ t) ≡ some (length p)
comma-last [] t e = rw e
comma-last (x ∷ p) t e = rw (comma-last p t e)

pub comma-there : (b : List ℕ) (k : ℕ) → last_comma b ≡ some k → take k b ++ 44 ∷ drop (suc k) b ≡ b
comma-there [] k e = absurd (none-ne-some k e)
comma-there (x ∷ b) k e = go (comma-there b) (last_comma b) refl e
  where
    first : (q : Bool) → eqb x 44 ≡ q → pick q (some 0) none ≡ some k → take k (x ∷ b) ++ 44 ∷ drop (suc k) (x ∷ b) ≡ x ∷ b
    first true c f = rw (← (some-injective 0 k f), eqb-true x 44 c)
    first false c f = absurd (none-ne-some k f)

    go : ((j : ℕ) → last_comma b ≡ some j → take j b ++ 44 ∷ drop (suc j) b ≡ b) → (o : Option ℕ) → last_comma b ≡ o → comma_at x o ≡ some k
        → take k (x ∷ b) ++ 44 ∷ drop (suc k) (x ∷ b) ≡ x ∷ b
    go rest (some j) c f = rw (← (some-injective (suc j) k f)) (ap (λ (l : List ℕ). x ∷ l) (rest j c))
    go rest none c f = first (eqb x 44) refl f

-- how long a SEND's text is
pub text-size : (p t : List ℕ) → length (p ++ 44 ∷ t) ≡ length p + 1 + length t
text-size p t = omega (arith, length-append p (44 ∷ t))

-- What an answer for a whole message of id i and arg n says of b, which follows its header: it is never "more"; it is 18, or the
-- request that has these bytes, with the message's size.
abbrev pub Means : Dialect → Id → ℕ → List ℕ → Read → Type 0
Means d i n b more = ⊥
Means d i n b refused = Unit {0}
Means d i n b (request q size) = Taken d q × Form d q (d.bytes i ++ word n ++ b) × (size ≡ header_size + length b)

module _ (d : Dialect) where
  means-path : (i : PathOnly) (n : ℕ) (b : List ℕ) → length b ≡ n → Means d (path_id i) n b (body_of d (path_only i) n b)
  unfolding body_of bytes_of_request message_of
  means-path i n b e =
      pick-cases (Means d (path_id i) n b) (bad_path d b)
      (λ _. tt)
      (λ good. (inl (path-was_good d b good), by_host (rw (append-nil b, e)), rw e))

  means-flags : (n : ℕ) (b : List ℕ) → Bytes b → length b ≡ n + 8 → Means d RCV2 n b (body_of d path_flags n b)
  unfolding body_of bytes_of_request message_of
  means-flags n b h e =
      let f = number_at 4 (n + 4) b in
      pick-cases (Means d RCV2 n b) _
      (λ _. tt)
      (λ passed.
      let (path, inner, pass) = tests_passed d (take n b) (take 4 (drop n b)) (d.bytes RCV2) true f passed in
      let there = inner-there b n (d.bytes RCV2) (word f ++ []) inner (word-last b (n + 4) (n + 8) h (omega arith) e) in
      (inl (path, (pass, number-below 4 b (n + 4) h)), by_host (rw (length-take-le n b (omega arith), there)), rw e))

  means-mode_flags : (n : ℕ) (b : List ℕ) → Bytes b → length b ≡ n + 12 → Means d SND2 n b (body_of d path_mode_flags n b)
  unfolding body_of bytes_of_request message_of
  means-mode_flags n b h e =
      let m = number_at 4 (n + 4) b in
      let f = number_at 4 (n + 8) b in
      pick-cases (Means d SND2 n b) _
      (λ _. tt)
      (λ passed.
      let (path, inner, pass) = tests_passed d (take n b) (take 4 (drop n b)) (d.bytes SND2) false f passed in
      let last = word-last b (n + 8) (n + 12) h (omega arith) e in
      let words = ap (λ (t : List ℕ). word m ++ t) last ∙ word-there b (n + 4) (n + 8) h (omega arith) (omega arith) in
      let there = inner-there b n (d.bytes SND2) (word m ++ (word f ++ [])) inner words in
      (inl (path, (number-below 4 b (n + 4) h, (pass, number-below 4 b (n + 8) h))), by_host (rw (length-take-le n b (omega arith), there)), rw e))

  -- a SEND's text, by what its mode is written in
  text-form : (p t b : List ℕ) (m n : ℕ) → p ++ 44 ∷ t ≡ b → length b ≡ n → Written t m → Form d (send p m) (d.bytes SEND ++ word n ++ b)
  unfolding bytes_of_request message_of
  text-form p t b m n there e (inl w) =
      let size : length p + 1 + length (decimal m) ≡ n = omega (arith, text-size p t, ap length there, ap length w) in
      by_host (rw (append-nil (decimal m), size, ← w, there))
  text-form p t b m n there e (inr w) =
      let size : length p + 1 + length t ≡ n = omega (arith, text-size p t, ap length there) in
      in_octal p t m refl w (rw (size, there))

  means-mode : (n : ℕ) (b : List ℕ) → length b ≡ n → Means d SEND n b (body_of d path_mode n b)
  unfolding body_of
  means-mode n b e = at (last_comma b) refl
    where
      text : (k : ℕ) → last_comma b ≡ some k → (o : Option ℕ) → mode_in (drop (suc k) b) ≡ o
          → Means d SEND n b (with_mode d (take k b) (header_size + length b) o)
      text k c none f = tt
      text k c (some m) f =
          let (written, small) = mode-written (drop (suc k) b) m f in
          pick-cases (Means d SEND n b) (bad_path d (take k b))
          (λ _. tt)
          (λ good. (inl (path-was_good d (take k b) good, small), text-form (take k b) (drop (suc k) b) b m n (comma-there b k c) e written, refl))

      at : (o : Option ℕ) → last_comma b ≡ o → Means d SEND n b (at_comma d b o)
      at none c = tt
      at (some k) c = text k c (mode_in (drop (suc k) b)) refl

  taken-chunk : (b : List ℕ) → length b ≤ data_most → Taken d (chunk b)
  taken-chunk [] h = inr refl
  taken-chunk (x ∷ b) h = inl (omega arith, h)

  means-chunk : (n : ℕ) (b : List ℕ) → length b ≡ n → n ≤ data_most → Means d DATA n b (body_of d bytes n b)
  unfolding body_of bytes_of_request message_of
  means-chunk n b e h = (taken-chunk b (omega arith), by_host (rw (append-nil b, e)), rw e)

  empty : (b : List ℕ) → length b ≡ 0 → b ≡ []
  empty [] e = refl
  empty (x ∷ b) e = absurd (omega arith)

  -- what is read was meant so
  pub means : (i : Id) (n : ℕ) (b : List ℕ) → Bytes b → n < 0x1_0000_0000 → arg_ok d (kind_of i) n ≡ true → length b ≡ following (kind_of i) n
      → Means d i n b (body_of d (kind_of i) n b)
  unfolding arg_ok following body_of bytes_of_request message_of
  means STAT n b h w ok e = means-path stat n b e
  means STA2 n b h w ok e = means-path sta2 n b e
  means LIST n b h w ok e = means-path list n b e
  means LIS2 n b h w ok e = means-path lis2 n b e
  means RECV n b h w ok e = means-path recv n b e
  means RCV2 n b h w ok e = means-flags n b h e
  means SEND n b h w ok e = means-mode n b e
  means SND2 n b h w ok e = means-mode_flags n b h e
  means DATA n b h w ok e = means-chunk n b e (leb-true _ _ ok)
  means DONE n b h w ok e = (inl w, by_host (rw (empty b e)), rw e)
  means QUIT n b h w ok e = (inl tt, by_host (rw (eqb-true n 0 ok, empty b e)), rw e)
  means OKAY n b h w ok e = absurd (true≢false (sym ok))
  means FAIL n b h w ok e = absurd (true≢false (sym ok))
  means DENT n b h w ok e = absurd (true≢false (sym ok))
  means DNT2 n b h w ok e = absurd (true≢false (sym ok))

-- What the reader finds behind a header of kind k and arg n: all of b, and the request q.
pub record Reads (d : Dialect) (k : Kind) (n : ℕ) (b : List ℕ) (q : Request) : Type 0 where
  pub fits : n < 0x1_0000_0000
  pub ok : arg_ok d k n ≡ true
  pub follows : following k n ≡ length b
  pub reads : body_of d k n b ≡ request q (header_size + following k n)

-- a SEND whose mode stands in a text without a comma
module _ (d : Dialect) (p t : List ℕ) (clear : has 44 t ≡ false) where
  pub mode-body : body_of d path_mode (length p + 1 + length t) (p ++ 44 ∷ t) ≡ with_mode d p (header_size + (length p + 1 + length t)) (mode_in t)
  unfolding body_of
  mode-body =
      let text : drop (suc (length p)) (p ++ 44 ∷ t) ≡ t = ap (λ (k : ℕ). drop k (p ++ 44 ∷ t)) (sym (add-one (length p))) ∙ drop-append-add p (44 ∷ t) 1 in
      rw (comma-last p t (comma-none t clear), take-append_seam p (44 ∷ t), text, text-size p t)

  reads-mode : (m : ℕ) → PathOk d p → length p + 1 + length t < 0x1_0000_0000 → length p + 1 + length t ≤ d.longest + 13 → mode_in t ≡ some m
      → Reads d path_mode (length p + 1 + length t) (p ++ 44 ∷ t) (send p m)
  unfolding arg_ok following
  reads-mode m path fits short mode =
      record { fits = fits; ok = omega (arith, le-leb); follows = sym (text-size p t); reads = mode-body ∙ rw (mode, path-good d p path) }

module _ (d : Dialect) (sound : Sound d) (small : d.longest + 11 < 0x1_0000_0000) where
  reads-path : (i : PathOnly) (p : List ℕ) → PathOk d p → Reads d (path_only i) (length p) p (ask i p)
  unfolding arg_ok following body_of
  reads-path i p h =
      record { fits = omega arith; ok = omega (arith, le-leb); follows = refl; reads = rw (path-good d p h) }

  reads-flags : (p : List ℕ) (f : ℕ) → HostWrites d (rcv2 p f) → Reads d path_flags (length p) (p ++ (d.bytes RCV2 ++ (word f ++ []))) (rcv2 p f)
  unfolding arg_ok following body_of
  reads-flags p f h =
      let x = d.bytes RCV2 in
      let t = word f ++ [] in
      let four = sound.four RCV2 in
      let flags : number_at 4 (length p + 4) (p ++ (x ++ t)) ≡ f = number_behind 4 p (x ++ t) 4 ∙ word-behind x 4 f [] four h.1.1 in
      let passes = tests_pass d p x true f h.0 h.1.0 in
      record {
        fits = omega arith;
        ok = omega (arith, le-leb);
        follows = omega (arith, length-append p (x ++ t), length-append x t);
        reads = rw (flags, take-append_seam p (x ++ t), drop-append_seam p (x ++ t), take_at x t 4 four, passes);
      }

  reads-mode_flags : (p : List ℕ) (m f : ℕ) → HostWrites d (snd2 p m f)
      → Reads d path_mode_flags (length p) (p ++ (d.bytes SND2 ++ (word m ++ (word f ++ [])))) (snd2 p m f)
  unfolding arg_ok following body_of
  reads-mode_flags p m f h =
      let x = d.bytes SND2 in
      let t = word m ++ (word f ++ []) in
      let four = sound.four SND2 in
      let eight : length (x ++ word m) ≡ 8 = omega (arith, length-append x (word m)) in
      let mode : number_at 4 (length p + 4) (p ++ (x ++ t)) ≡ m = number_behind 4 p (x ++ t) 4 ∙ word-behind x 4 m (word f ++ []) four h.1.0 in
      let flags : number_at 4 (length p + 8) (p ++ (x ++ t)) ≡ f =
      number_behind 4 p (x ++ t) 8
      ∙ ap (number_at 4 8) (sym (append_assoc x (word m) (word f ++ [])))
      ∙ word-behind (x ++ word m) 8 f [] eight h.1.1.1 in
      let passes = tests_pass d p x false f h.0 h.1.1.0 in
      record {
        fits = omega arith;
        ok = omega (arith, le-leb);
        follows = omega (arith, length-append p (x ++ t), length-append x t);
        reads = rw (flags, mode, take-append_seam p (x ++ t), drop-append_seam p (x ++ t), take_at x t 4 four, passes);
      }

  reads-chunk : (x : List ℕ) → length x ≤ data_most → Reads d bytes (length x) x (chunk x)
  unfolding arg_ok following body_of
  reads-chunk x h = record { fits = omega arith; ok = omega (arith, le-leb); follows = refl; reads = refl }

  -- what is taken is read as meant
  pub reads : (q : Request) → Taken d q → Reads d (kind_of (message_of d q).id) (message_of d q).arg (joined (message_of d q).parts) q
  unfolding message_of arg_ok following body_of
  reads (ask i p) (inl h) = rw (append-nil p, kind-path i) (reads-path i p h)
  reads (rcv2 p f) (inl h) = reads-flags p f h
  reads (send p m) (inl h) =
      let (short, clear) = decimal-text m h.1 in
      let path = h.0.short in
      rw (append-nil (decimal m)) (reads-mode d p (decimal m) clear m h.0 (omega arith) (omega arith) (decimal-mode m h.1))
  reads (snd2 p m f) (inl h) = reads-mode_flags p m f h
  reads (chunk x) (inl h) = rw (append-nil x) (reads-chunk x h.1)
  reads (done t) (inl h) = record { fits = h; ok = refl; follows = refl; reads = refl }
  reads quit (inl h) = record { fits = omega arith; ok = refl; follows = refl; reads = refl }
  reads q (inr e) = rw e (reads-chunk [] (omega arith))
