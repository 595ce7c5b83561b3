-- The request reader is document 01's, for every dialect whose ids are apart: `read_back_lem` and `empty-data`, `mode-read` and `octal-read`,
-- `accepted`, and, by the table of headers `Heads`, `more-short`, `refused-header`, `more-until_whole` and `whole-answered`. Assumes nothing.
use Prim.Native.Nat.{ℕ, ◌+◌, ◌≤◌, ◌<◌}
use mathlib.Core.Bool.{true, false, true≢false}
use mathlib.Core.List.{List, [], ◌∷◌, ◌++◌, append_assoc, append-nil}
use mathlib.Core.Logic.{◌⊎◌, inl, inr}
use mathlib.Core.Option.{Option, none, some, none-ne-some}
use mathlib.Core.Path.{◌≡◌, refl, sym, ap, ◌∙◌, subst}
use native.Mathlib.Omega.{arith}
use borrow.Author.Tests.{lt-ltb, le-ltb, le-leb, leb-true, ltb-false, eq-eqb, eqb-true}
use lib.Dec.{ltb}
use lib.ListN.{length, take, drop, length-append, length-drop, take-append-drop}
use lib.Seq.{take_at, drop_at, take-add, drop-append-add, length-take-le}
use Rattle.protocol.specs.Bytes.{Bytes, has}
use Rattle.protocol.specs.Decimal.{decimal, canonical}
use Rattle.protocol.specs.Headers.{send_with, Form, by_host, in_octal, InDecimal, Accepted, Heads, of_path, of_RCV2, of_SEND, of_SND2, of_DATA, of_DONE, of_QUIT}
use Rattle.protocol.specs.Ids.{Id, STAT, STA2, LIST, LIS2, SEND, SND2, RECV, RCV2, DATA, DONE, OKAY, FAIL, DENT, DNT2, QUIT, Dialect, Sound, named}
use Rattle.protocol.specs.Messages.{stat, sta2, list, lis2, recv, Request, send, chunk, word, message_of, joined, bytes_of_request, HostWrites}
use Rattle.protocol.specs.Modes.{mode_in, InOctal}
use Rattle.protocol.specs.Records.{header_size, id_at, arg_at}
use Rattle.protocol.specs.Requests.{Read, more, refused, request, kind_of, arg_ok, following, with_mode, body_of, on_id, read_request}
use Rattle.protocol.proofs.Bodies.{Taken, pick-cases, path-good, text-size, mode-body, Reads, reads, Means, means}
use Rattle.protocol.proofs.Decimal.{canonical-decimal}
use Rattle.protocol.proofs.Messages.{kind-path}
use Rattle.protocol.proofs.Modes.{octal-text, octal-mode, octal-canonical}
use Rattle.protocol.proofs.Bytes.{bytes_drop}
use Rattle.protocol.proofs.Ids.{named-own, named-sound}
use Rattle.protocol.proofs.Words.{bytes_take, number-below, word-behind, word-there}

-- the reader's steps behind a header of a known id
module _ (d : Dialect) (s : List ℕ) (i : Id) (long : 8 ≤ length s) (e : named d (id_at s) ≡ some i) (ok : arg_ok d (kind_of i) (arg_at s) ≡ true) where
  at_more : length s < header_size + following (kind_of i) (arg_at s) → read_request d s ≡ more
  unfolding read_request
  at_more h = rw (le-ltb _ _ long, e, ok, lt-ltb _ _ h)

  at-whole : header_size + following (kind_of i) (arg_at s) ≤ length s
      → read_request d s ≡ body_of d (kind_of i) (arg_at s) (take (following (kind_of i) (arg_at s)) (drop header_size s))
  unfolding read_request
  at-whole h = rw (le-ltb _ _ long, e, ok, le-ltb _ _ h)

-- a header and what follows it, read
module _ (d : Dialect) (sound : Sound d) (i : Id) (n : ℕ) where
  head-length : length (d.bytes i ++ word n) ≡ header_size
  head-length = omega (arith, length-append (d.bytes i) (word n), sound.four i)

  module _ (b : List ℕ) where
    head-id : id_at (d.bytes i ++ word n ++ b) ≡ d.bytes i
    head-id = ap id_at (append_assoc (d.bytes i) (word n) b) ∙ take_at (d.bytes i) (word n ++ b) 4 (sound.four i)

    head-arg : n < 0x1_0000_0000 → arg_at (d.bytes i ++ word n ++ b) ≡ n
    head-arg h = ap arg_at (append_assoc (d.bytes i) (word n) b) ∙ word-behind (d.bytes i) 4 n b (sound.four i) h

    size : length (d.bytes i ++ word n ++ b) ≡ header_size + length b
    size = omega (arith, length-append (d.bytes i ++ word n) b, head-length)

  body_at : (b rest : List ℕ) → n < 0x1_0000_0000 → arg_ok d (kind_of i) n ≡ true → following (kind_of i) n ≡ length b
      → read_request d (d.bytes i ++ word n ++ b ++ rest) ≡ body_of d (kind_of i) n b
  body_at b rest fits ok follows =
      let t = b ++ rest in
      let arg = head-arg t fits in
      let whole : header_size + following (kind_of i) n ≤ length (d.bytes i ++ word n ++ t) = omega (arith, follows, size t, length-append b rest) in
      let found : named d (id_at (d.bytes i ++ word n ++ t)) ≡ some i = ap (named d) (head-id t) ∙ named-own d sound i in
      ap (read_request d) (append_assoc (d.bytes i ++ word n) b rest)
      ∙ at-whole d (d.bytes i ++ word n ++ t) i (omega (arith, size t)) found (rw arg ok) (rw arg whole)
      ∙ rw (arg, drop_at (d.bytes i ++ word n) t header_size head-length, take_at b rest (following (kind_of i) n) (sym follows))

  read_at_lem : (b rest : List ℕ) (q : Request) → Reads d (kind_of i) n b q
      → read_request d (d.bytes i ++ word n ++ b ++ rest) ≡ request q (length (d.bytes i ++ word n ++ b))
  read_at_lem b rest q r = body_at b rest r.fits r.ok r.follows ∙ r.reads ∙ rw (size b, ← r.follows)

module _ (d : Dialect) (sound : Sound d) (small : d.longest + 11 < 0x1_0000_0000) where
  read_taken : (q : Request) → Taken d q → (rest : List ℕ) → read_request d (bytes_of_request d q ++ rest) ≡ request q (length (bytes_of_request d q))
  unfolding bytes_of_request
  read_taken q h rest = read_at_lem d sound (message_of d q).id (message_of d q).arg (joined (message_of d q).parts) rest q (reads d sound small q h)

  -- "What the host writes is read back as meant", with its length, whatever follows it.
  pub read_back_lem : (q : Request) → HostWrites d q → (rest : List ℕ) → read_request d (bytes_of_request d q ++ rest) ≡ request q (length (bytes_of_request d q))
  read_back_lem q h = read_taken q (inl h)

  -- ".. DATA of length 0, which is accepted and never written"
  pub empty-data : (rest : List ℕ) → read_request d (bytes_of_request d (chunk []) ++ rest) ≡ request (chunk []) (length (bytes_of_request d (chunk [])))
  empty-data = read_taken (chunk []) (inr refl)

-- a SEND by the text of its mode: one that has no comma, in a message within the limit
module _ (d : Dialect) (sound : Sound d) (small : d.longest + 13 < 0x1_0000_0000) (p text : List ℕ) where
  pub mode-read : has 44 text ≡ false → length p + 1 + length text ≤ d.longest + 13 → (rest : List ℕ)
      → read_request d (send_with d p text ++ rest) ≡ with_mode d p (length (send_with d p text)) (mode_in text)
  unfolding arg_ok following
  mode-read clear short rest =
      let n = length p + 1 + length text in
      let b = p ++ 44 ∷ text in
      let all : length b ≡ n = text-size p text in
      body_at d sound SEND n b rest (omega arith) (omega (arith, le-leb)) (sym all) ∙ mode-body d p text clear ∙ rw (size d sound SEND n b, all)

  -- ... in octal (document 02, [5])
  pub octal-read : (m : ℕ) → HostWrites d (send p m) → InOctal text m → (rest : List ℕ)
      → read_request d (send_with d p text ++ rest) ≡ request (send p m) (length (send_with d p text))
  octal-read m h written rest =
      let (short, clear) = octal-text text m written in
      let path = h.0.short in
      mode-read clear (omega arith) rest ∙ rw (octal-mode text m written h.1, path-good d p h.0)

-- where a SEND's text stands
text-there : (d : Dialect) → Sound d → (p t : List ℕ) → drop (header_size + length p + 1) (send_with d p t) ≡ t
text-there d sound p t =
    let n = length p + 1 + length t in
    let split : send_with d p t ≡ (d.bytes SEND ++ word n ++ p) ++ 44 ∷ t = sym (append_assoc (d.bytes SEND ++ word n) p (44 ∷ t)) in
    let front : length (d.bytes SEND ++ word n ++ p) ≡ header_size + length p = omega (arith, length-append (d.bytes SEND ++ word n) p, head-length d sound SEND n) in
    ap (drop (header_size + length p + 1)) split
    ∙ ap (λ (k : ℕ). drop (k + 1) ((d.bytes SEND ++ word n ++ p) ++ 44 ∷ t)) (sym front)
    ∙ drop-append-add (d.bytes SEND ++ word n ++ p) (44 ∷ t) 1

-- "equal bytes exactly where the mode came in decimal"
module _ (d : Dialect) (sound : Sound d) where
  equal-decimal : (q : Request) (b : List ℕ) → Form d q b → InDecimal q b → b ≡ bytes_of_request d q
  equal-decimal q b (by_host e) h = e
  equal-decimal q b (in_octal p t m e w there) h =
      let here : drop (header_size + length p + 1) b ≡ t = ap (drop (header_size + length p + 1)) there ∙ text-there d sound p t in
      absurd (none-ne-some m (sym (octal-canonical t m w) ∙ sym (ap canonical here) ∙ h p m e))

  send-decimal : (p : List ℕ) (m : ℕ) → Taken d (send p m) → canonical (drop (header_size + length p + 1) (bytes_of_request d (send p m))) ≡ some m
  unfolding bytes_of_request message_of
  send-decimal p m (inl h) = rw (append-nil (decimal m)) (ap canonical (text-there d sound p (decimal m)) ∙ canonical-decimal m h.1)
  send-decimal p m (inr e) = let z : ◌≡◌ {A = ℕ} 0 1 = cc e in absurd (omega arith)

  host-decimal : (q : Request) → Taken d q → InDecimal q (bytes_of_request d q)
  host-decimal q h p m e =
      ap (λ (r : Request). canonical (drop (header_size + length p + 1) (bytes_of_request d r))) e ∙ send-decimal p m (subst (Taken d) e h)

-- an answer is accepted rightly, if it is a request
abbrev Accepts : Dialect → List ℕ → Read → Type 0
Accepts d s more = Unit {0}
Accepts d s refused = Unit {0}
Accepts d s (request q n) = Accepted d s q n

-- how much follows the header
rest-length : (s : List ℕ) (k : ℕ) → header_size + k ≤ length s → length (take k (drop header_size s)) ≡ k
rest-length s k h = length-take-le k (drop header_size s) (omega (arith, length-drop header_size s))

accepts-whole : (d : Dialect) → Sound d → (s : List ℕ) (i : Id) (n k : ℕ) → take header_size s ≡ d.bytes i ++ word n → header_size + k ≤ length s
    → (r : Read) → Means d i n (take k (drop header_size s)) r → Accepts d s r
accepts-whole d sound s i n k front whole more m = tt
accepts-whole d sound s i n k front whole refused m = tt
accepts-whole d sound s i n k front whole (request q size) (taken, form, e) =
    let all : size ≡ header_size + k = e ∙ ap (λ (j : ℕ). header_size + j) (rest-length s k whole) in
    let first : take size s ≡ d.bytes i ++ word n ++ take k (drop header_size s) =
    ap (λ (j : ℕ). take j s) all ∙ take-add header_size k s ∙ ap (λ (x : List ℕ). x ++ take k (drop header_size s)) front in
    let has-form = subst (Form d q) (sym first) form in
    record {
      taken = taken;
      within = omega arith;
      form = has-form;
      again = λ small. read_taken d sound small q taken;
      equal_if_decimal = equal-decimal d sound q (take size s) has-form;
      decimal_if_equal = λ same. subst (InDecimal q) (sym same) (host-decimal d sound q taken);
    }

module _ (d : Dialect) (sound : Sound d) (s : List ℕ) (h : Bytes s) where
  -- a header's bytes are those of its id and its arg
  front : (i : Id) → 8 ≤ length s → named d (id_at s) ≡ some i → take header_size s ≡ d.bytes i ++ word (arg_at s)
  front i long e =
      let split : s ≡ d.bytes i ++ word (arg_at s) ++ drop header_size s =
      sym
      (append_assoc (d.bytes i) (word (arg_at s)) (drop header_size s)
      ∙ ap (λ (t : List ℕ). d.bytes i ++ t) (word-there s 4 8 h refl long)
      ∙ ap (λ (t : List ℕ). t ++ drop 4 s) (named-sound d (id_at s) i e)
      ∙ take-append-drop 4 s) in
      ap (take header_size) split ∙ take_at (d.bytes i ++ word (arg_at s)) (drop header_size s) 8 (head-length d sound i (arg_at s))

  whole-means : (i : Id) (k : ℕ) → following (kind_of i) (arg_at s) ≡ k → arg_ok d (kind_of i) (arg_at s) ≡ true → header_size + k ≤ length s
      → Means d i (arg_at s) (take k (drop header_size s)) (body_of d (kind_of i) (arg_at s) (take k (drop header_size s)))
  whole-means i k e ok whole =
      means d i (arg_at s) (take k (drop header_size s)) (bytes_take k (drop header_size s) (bytes_drop header_size s h)) (number-below 4 s 4 h) ok
      (rest-length s k whole ∙ sym e)

  accepts : Accepts d s (read_request d s)
  unfolding read_request
  accepts =
      pick-cases (Accepts d s) (ltb (length s) header_size)
      (λ _. tt)
      (λ long. on (ltb-false _ _ long) (named d (id_at s)) refl)
    where
      on : 8 ≤ length s → (o : Option Id) → named d (id_at s) ≡ o → Accepts d s (on_id d s o)
      on long none e = tt
      on long (some i) e =
          let n = arg_at s in
          let k = following (kind_of i) n in
          pick-cases (Accepts d s) (arg_ok d (kind_of i) n)
          (λ ok.
          pick-cases (Accepts d s) (ltb (length s) (header_size + k))
          (λ _. tt)
          (λ f.
          let whole = ltb-false _ _ f in
          accepts-whole d sound s i n k (front i long e) whole (body_of d (kind_of i) n (take k (drop header_size s))) (whole-means i k refl ok whole)))
          (λ _. tt)

  -- "what is accepted is what the host would write, but for DATA of length 0", and for modes in octal
  pub accepted : (q : Request) (n : ℕ) → read_request d s ≡ request q n → Accepted d s q n
  accepted q n e = subst (Accepts d s) e accepts

-- the headers of the table are those that pass
heads-pass : (d : Dialect) (n : ℕ) (i : Id) (m : ℕ) → Heads d n i m → (arg_ok d (kind_of i) n ≡ true) × (m ≡ header_size + following (kind_of i) n)
unfolding arg_ok following
heads-pass d n i m (of_path j h) = rw (kind-path j) (le-leb _ _ h, refl)
heads-pass d n i m (of_RCV2 h) = (le-leb _ _ h, refl)
heads-pass d n i m (of_SEND h) = (le-leb _ _ h, refl)
heads-pass d n i m (of_SND2 h) = (le-leb _ _ h, refl)
heads-pass d n i m (of_DATA h) = (le-leb _ _ h, refl)
heads-pass d n i m of_DONE = (refl, refl)
heads-pass d n i m (of_QUIT h) = (eq-eqb n 0 h, refl)

pass_heads : (d : Dialect) (n : ℕ) (i : Id) → arg_ok d (kind_of i) n ≡ true → Heads d n i (header_size + following (kind_of i) n)
unfolding arg_ok following
pass_heads d n STAT ok = of_path stat (leb-true _ _ ok)
pass_heads d n STA2 ok = of_path sta2 (leb-true _ _ ok)
pass_heads d n LIST ok = of_path list (leb-true _ _ ok)
pass_heads d n LIS2 ok = of_path lis2 (leb-true _ _ ok)
pass_heads d n RECV ok = of_path recv (leb-true _ _ ok)
pass_heads d n RCV2 ok = of_RCV2 (leb-true _ _ ok)
pass_heads d n SEND ok = of_SEND (leb-true _ _ ok)
pass_heads d n SND2 ok = of_SND2 (leb-true _ _ ok)
pass_heads d n DATA ok = of_DATA (leb-true _ _ ok)
pass_heads d n DONE ok = of_DONE
pass_heads d n QUIT ok = of_QUIT (eqb-true n 0 ok)
pass_heads d n OKAY ok = absurd (true≢false (sym ok))
pass_heads d n FAIL ok = absurd (true≢false (sym ok))
pass_heads d n DENT ok = absurd (true≢false (sym ok))
pass_heads d n DNT2 ok = absurd (true≢false (sym ok))

-- "Under 8 bytes: more."
pub more-short : (d : Dialect) (s : List ℕ) → length s < 8 → read_request d s ≡ more
unfolding read_request
more-short d s h = rw (lt-ltb _ _ h)

-- a whole message's answer, from what it means
answered : (d : Dialect) (i : Id) (n : ℕ) (b : List ℕ) (m : ℕ) → header_size + length b ≡ m → (r : Read) → Means d i n b r
    → (r ≡ refused) ⊎ ((q : Request) × (r ≡ request q m))
answered d i n b m e more x = absurd x
answered d i n b m e refused x = inl refl
answered d i n b m e (request q size) (taken, written, f) = inr (q, ap (request q) (f ∙ e))

module _ (d : Dialect) (sound : Sound d) (s : List ℕ) (long : 8 ≤ length s) where
  -- "Then 18 if" the header is not in the table, whatever follows it.
  pub refused-header : ((i : Id) (size : ℕ) → id_at s ≡ d.bytes i → Heads d (arg_at s) i size → ⊥) → read_request d s ≡ refused
  unfolding read_request
  refused-header f = rw (le-ltb _ _ long) (on (named d (id_at s)) refl)
    where
      on : (o : Option Id) → named d (id_at s) ≡ o → on_id d s o ≡ refused
      on none e = refl
      on (some i) e =
          pick-cases (λ r. r ≡ refused) (arg_ok d (kind_of i) (arg_at s))
          (λ ok. absurd (f i (header_size + following (kind_of i) (arg_at s)) (sym (named-sound d (id_at s) i e)) (pass_heads d (arg_at s) i ok)))
          (λ _. refl)

  module _ (i : Id) (size : ℕ) (e : id_at s ≡ d.bytes i) (head : Heads d (arg_at s) i size) where
    found : named d (id_at s) ≡ some i
    found = ap (named d) e ∙ named-own d sound i

    -- "Then more until the message is whole."
    pub more-until_whole : length s < size → read_request d s ≡ more
    more-until_whole h =
        let (ok, is) = heads-pass d (arg_at s) i size head in
        at_more d s i long found ok (rw (← is) h)

    -- A whole message is a request of its size, or 18.
    pub whole-answered : Bytes s → size ≤ length s → (read_request d s ≡ refused) ⊎ ((q : Request) × (read_request d s ≡ request q size))
    whole-answered h fits =
        let (ok, is) = heads-pass d (arg_at s) i size head in
        let k = following (kind_of i) (arg_at s) in
        let whole : header_size + k ≤ length s = omega arith in
        let b = take k (drop header_size s) in
        rw (at-whole d s i long found ok whole)
        (answered d i (arg_at s) b size (ap (λ (j : ℕ). header_size + j) (rest-length s k whole) ∙ sym is) _ (whole-means d sound s h i k refl ok whole))
