-- Laws of `specs/Crossing.antt`: a request by its words, answers by the table in some settings, a reply by its kind and its numbers, and one
-- that was said.
-- Assumes nothing.
use mathlib.Core.Bool.{Bool, true, false}
use mathlib.Core.List.{List, [], ◌∷◌}
use mathlib.Core.Option.{none, some}
use mathlib.Core.Path.{◌≡◌, refl, sym, ap, ◌∙◌}
use Prim.Native.Nat.{ℕ, ◌≤◌}
use borrow.Author.Tests.{le-ltb}
use lib.ListN.{length, get_or-eq_default}
use Rattle.protocol.specs.Bytes.{pick, put}
use Rattle.protocol.specs.Ids.{Dialect}
use Rattle.protocol.specs.Requests.{read_request}
use Rattle.boundary.specs.Told.{out_size}
use Rattle.id_table.specs.Settings.{lent_in}
use Rattle.id_table.specs.Lent.{Lent}
use Rattle.ids.specs.Ids.{dialect_of}
use Rattle.ids.specs.declared.Ids.{Ids}
use Rattle.panel_reply.specs.Replies as P
use Rattle.panel_reply.specs.Replies.{is_taken}
use Rattle.panel_writer.specs.Meaning.{taken, answered}
use Rattle.record.specs.Record.{words}
use Rattle.request.specs.Meaning as Heard
use Rattle.request.specs.declared.Request.{Request}
use Rattle.request_reader.specs.Meaning.{told}
use Rattle.panel_side.specs.Crossing.{long_reply, on_table, reply_numbered, spoke, saying, if_given, cross_speak, request_words, hearing, sliced, cross_heard}
use Rattle.std.specs.Prelude.{Option, Some, None}
use Rattle.panel_writer.specs.declared.Reply.{Reply}
use Rattle.panel_crossing.specs.Given.{given}

-- ---- hearing

-- the words of q, where p is q
pub request-of : {p q : Request} {ns l : List ℕ} (out lent : List ℕ) (size : ℕ) → p ≡ q → ns ≡ request_words (Heard.meant q lent) size → l ≡ put out 0 (words ns)
    → l ≡ put out 0 (words (request_words (Heard.meant p lent) size))
request-of out lent size e h g =
    g ∙ ap (λ (ns : List ℕ). put out 0 (words ns)) (h ∙ ap (λ (r : Request). request_words (Heard.meant r lent) size) (sym e))

-- ---- the table in some settings, where it was found to be u

module _ (settings : List ℕ) {t u : Lent} (e : t ≡ lent_in settings) (g : t ≡ u) where
  by-table : {A : Type 0} (z : ℕ → A) (f : Dialect → A) → on_table z f u ≡ on_table z f (lent_in settings)
  by-table z f = ap (on_table z f) (sym g ∙ e)

  pub hears_by : (bytes out : List ℕ) → out_size ≤ length out → on_table (sliced out) (λ d. hearing out (read_request d bytes)) u ≡ cross_heard settings bytes out
  unfolding cross_heard
  hears_by bytes out h = rw (le-ltb _ _ h) (by-table (sliced out) (λ d. hearing out (read_request d bytes)))

  pub speaks-by : (k : ℕ) (n lent out told : List ℕ) → out_size ≤ length told
      → on_table (spoke out told) (λ d. if_given out told (saying d out told) (reply_numbered k n lent)) u ≡ cross_speak settings k n lent out told
  unfolding cross_speak
  speaks-by k n lent out told h = rw (le-ltb _ _ h) (by-table (spoke out told) (λ d. if_given out told (saying d out told) (reply_numbered k n lent)))

-- ---- a reply by its kind

-- the place in which the kind is found
pub found : {k j : ℕ} (n : List ℕ) → k ≡ j → (r : Option Reply) → ((l : List ℕ) → given r l ≡ reply_numbered j n l) → (l : List ℕ) → given r l ≡ reply_numbered k n l
found n e r h l = h l ∙ ap (λ (i : ℕ). reply_numbered i n l) (sym e)

-- what a test lets through
module _ {A B : Type 0} (t : Bool) (f : A → B) (y : A) where
  pub picked : {x : A} → t ≡ true → x ≡ y → some (f x) ≡ pick t (some (f y)) none
  picked h e = rw (h, e)

  pub passed : t ≡ false → none ≡ pick t (some (f y)) none
  passed h = rw h

-- a kind that is none
pub beyond : (k : ℕ) (n l : List ℕ) → 10 ≤ k → none ≡ reply_numbered k n l
beyond k n l h = rw get_or-eq_default

-- ---- a reply that was said

-- the length, where there is one
abbrev count : Option ℕ → ℕ
count (Some n) = n
count None = 0

module _ (t : Ids) (r : P.Reply) (out told : List ℕ) {l : List ℕ} where
  -- no bytes: 20
  pub said-nothing : {n : Option ℕ} → (l, n) ≡ answered (dialect_of t) r out → n ≡ None → spoke l told long_reply ≡ saying (dialect_of t) out told r
  unfolding taken
  said-nothing e z = go _ refl
    where
      go : (b : Bool) → is_taken (dialect_of t) r (length out) ≡ b → spoke l told long_reply ≡ saying (dialect_of t) out told r
      go true h = absurd (cc (sym z ∙ ap (λ (p : List ℕ × Option ℕ). p.1) (rw h at e)))
      go false h = rw h (ap (λ (p : List ℕ × Option ℕ). spoke p.0 told long_reply) (rw h at e))

  -- n bytes, and n into told
  pub said_all : {m : List ℕ} {o : Option ℕ} {n : ℕ} → (l, o) ≡ answered (dialect_of t) r out → o ≡ Some n → m ≡ put told 0 (words (n ∷ [])) → spoke l m 0 ≡ saying (dialect_of t) out told r
  unfolding taken put
  said_all {m} {o} {n} e z g = go _ refl
    where
      go : (b : Bool) → is_taken (dialect_of t) r (length out) ≡ b → spoke l m 0 ≡ saying (dialect_of t) out told r
      go true h = rw (h, g) (ap (λ (p : List ℕ × Option ℕ). spoke p.0 (put told 0 (words (count p.1 ∷ []))) 0) (rw (z, h) at e))
      go false h = absurd (cc (sym z ∙ ap (λ (p : List ℕ × Option ℕ). p.1) (rw h at e)))
