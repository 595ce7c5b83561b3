-- What a listing step of the plain reader can answer, and the line that it is printed as. Assumes nothing.
use Prim.Native.Nat.{ℕ, zero, suc, ◌+◌, ◌-◌, ◌≤◌, min}
use mathlib.Core.Bool.{Bool, true, false}
use mathlib.Core.List.{List}
use mathlib.Core.Path.{◌≡◌, refl, sym, ap}
use native.Mathlib.Omega.{arith}
use borrow.Author.Tests.{ltb-false}
use lib.Dec.{eqb, leb, ltb}
use lib.ListN.{length, take, drop, length-drop}
use lib.Seq.{length-take-le}
use Rattle.protocol.specs.Answers as P
use Rattle.protocol.specs.Bytes.{pick, same}
use Rattle.protocol.specs.Calls.{v1, next_entry}
use Rattle.protocol.specs.Refusal.{refusal}
use Rattle.protocol.specs.Ids.{Id, published, FAIL, DENT, DONE}
use Rattle.protocol.specs.Reader.{Prog, answer, need, skip, Result, ended, short, plain, drain, accepted, written, reply, plain_call, entry_ways, next, next_on, among_ways, failing, taking, name_length, entry_answer}
use Rattle.protocol.specs.Records.{id_at, arg_at}
use Rattle.format_record.specs.Told.{told_stat, told_stat2}
use Rattle.format_record.specs.declared.StatV1.{StatV1}
use Rattle.listing_lines.specs.Lines.{end_line}
use Rattle.session_part.specs.Part.{handed}
use Rattle.session.specs.Shown.{part_of, paper}
use Rattle.session.specs.declared.Answer.{Answer}
use Rattle.session.specs.declared.Answer.TheVariants as A
use Rattle.listing.specs.Listing.{lined, config}
use Rattle.listing.specs.Steps.{line_of}
use Rattle.listing.specs.declared.Line.TheVariants as L

-- ---- the plain reader: an entry takes its record and its name, and nothing is refused

abbrev pub Fair : List ℕ → P.Answer → List ℕ → Type 0
Fair u (P.entry s name) v = length v + (20 + length name) ≡ length u
Fair u (P.refused n) v = ⊥
Fair u P.done v = Unit {0}
Fair u P.end v = Unit {0}
Fair u (P.stat s) v = Unit {0}
Fair u (P.stat2 s) v = Unit {0}
Fair u (P.entry2 s name) v = Unit {0}
Fair u (P.chunk b) v = Unit {0}
Fair u (P.missing f) v = Unit {0}
Fair u (P.broken e) v = Unit {0}
Fair u (P.fail t) v = Unit {0}
Fair u (P.unexpected i) v = Unit {0}
Fair u (P.errno c) v = Unit {0}
Fair u P.too_large v = Unit {0}

abbrev Comes : List ℕ → Result → Type 0
Comes u (ended a v) = Fair u a v
Comes u (short n v) = Unit {0}

module _ (c : ℕ) (u : List ℕ) where
  need-comes : (n : ℕ) (k : List ℕ → Prog) (v : List ℕ) → (n ≤ length v → Comes u (plain c (k (take n v)) v)) → Comes u (plain c (need n k) v)
  unfolding plain
  need-comes n k v h = go (ltb c n) (ltb (length v) n) refl
    where
      go : (p q : Bool) → ltb (length v) n ≡ q → Comes u (pick p (ended P.too_large v) (pick q (short n v) (plain c (k (take n v)) v)))
      go true q e = tt
      go false true e = tt
      go false false e = h (ltb-false _ _ e)

  pick-comes : (q : Bool) (a b : Prog) (v : List ℕ) → Comes u (plain c a v) → Comes u (plain c b v) → Comes u (plain c (pick q a b) v)
  pick-comes true a b v x y = x
  pick-comes false a b v x y = y

  taking-comes : (n : ℕ) (k : List ℕ → Prog) (v : List ℕ) → (n ≤ length v → Comes u (plain c (k (take n v)) (drop n v))) → Comes u (plain c (taking n k) v)
  unfolding plain
  taking-comes n k v h = need-comes n (λ x. skip n (k x)) v h

  drain-comes : (f left : ℕ) (t v : List ℕ) → Comes u (plain c (drain c f left t) v)
  unfolding drain plain
  drain-comes zero left t v = tt
  drain-comes (suc f) left t v =
      pick-comes (eqb left 0) (answer (P.fail t)) (taking (min left c) (λ x. drain c f (left - min left c) t)) v tt
      (taking-comes (min left c) (λ x. drain c f (left - min left c) t) v (λ l. drain-comes f (left - min left c) t (drop (min left c) v)))

  fail-comes : (l : ℕ) (v : List ℕ) → Comes u (plain c (failing c l) v)
  unfolding plain
  fail-comes l v = taking-comes (min l c) (λ t. drain c l (l - min l c) t) (drop 8 v) (λ h. drain-comes l (l - min l c) _ _)

  abbrev dent : Prog
  dent = taking 20 (λ x. taking (name_length v1 x) (λ name. answer (entry_answer v1 x name)))

  dent-comes : Comes u (plain c dent u)
  unfolding plain
  dent-comes =
      taking-comes 20 (λ x. taking (name_length v1 x) (λ name. answer (entry_answer v1 x name))) u
      (λ h. let m : ℕ = name_length v1 (take 20 u) in
      taking-comes m (λ name. answer (entry_answer v1 (take 20 u) name)) (drop 20 u)
      (λ i. omega (arith, length-drop 20 u, length-drop m (drop 20 u), length-take-le m (drop 20 u) i)))

  step-comes : Comes u (plain c (next published c (entry_ways v1)) u)
  unfolding plain
  step-comes =
      need-comes 8 (next_on published c (entry_ways v1) P.unexpected) u
      (λ l. let h : List ℕ = take 8 u in
      let is : Id → Bool = λ i. same (id_at h) (published.bytes i) in
      let last : Prog = taking 20 (λ x. answer P.end) in
      let other : Prog = answer (P.unexpected (id_at h)) in
      pick-comes (is FAIL) (failing c (arg_at h)) (among_ways published (entry_ways v1) h (P.unexpected (id_at h))) u (fail-comes (arg_at h) u)
      (pick-comes (is DENT) dent (pick (is DONE) last other) u dent-comes
      (pick-comes (is DONE) last other u (taking-comes 20 (λ x. answer P.end) u (λ i. tt)) tt)))

  pub step-fair : Fair u (plain_call (config c) (P.error 0) accepted (next_entry v1) u).answer (plain_call (config c) (P.error 0) accepted (next_entry v1) u).unread
  unfolding refusal written
  step-fair = go (plain c (next published c (entry_ways v1)) u) step-comes
    where
      go : (r : Result) → Comes u r → Fair u (reply (P.error 0) r).answer (reply (P.error 0) r).unread
      go (ended a v) h = h
      go (short n v) h = tt

-- ---- the line of an answer

end-entry : {n : ℕ} {s : StatV1} → L.End n ≡ L.Entry s → ⊥
end-entry e = let z : ◌≡◌ {A = ℕ} 0 1 = cc in omega arith

end-number : {k n : ℕ} → L.End k ≡ L.End n → end_line k ≡ end_line n
end-number {k} {n} e = let q : k ≡ n = cc in ap end_line q

-- a part that lies in its buffer: no other is fair
part-fair : (u v b : List ℕ) (at len : ℕ) (f : List ℕ → P.Answer) → Fair u (part_of b at len f) v → part_of b at len f ≡ f (take len (drop at b))
unfolding part_of
part-fair u v b at len f = go (leb (at + len) (length b))
  where
    go : (q : Bool) → Fair u (pick q (f (take len (drop at b))) (P.refused 0)) v → pick q (f (take len (drop at b))) (P.refused 0) ≡ f (take len (drop at b))
    go true h = refl
    go false h = absurd h

module _ (rx msg u v : List ℕ) where
  -- an entry is the plain reader's, with the name that is handed back
  pub entry-line : (a : Answer) (s : StatV1) → Fair u (paper rx msg a) v → line_of a ≡ L.Entry s
      → paper rx msg a ≡ P.entry (told_stat s) (handed (paper rx msg a))
  unfolding paper
  entry-line (A.EntryV1 t at len) s h e =
      let p = part-fair u v rx at len (P.entry (told_stat t)) h in
      let q : t ≡ s = cc in
      rw p (ap (λ (x : StatV1). P.entry (told_stat x) (take len (drop at rx))) q)
  entry-line A.Done s h e = absurd (end-entry e)
  entry-line A.End s h e = absurd (end-entry e)
  entry-line (A.StatV1 t) s h e = absurd (end-entry e)
  entry-line (A.StatV2 t) s h e = absurd (end-entry e)
  entry-line (A.EntryV2 t at len) s h e = absurd (end-entry e)
  entry-line (A.Chunk at len) s h e = absurd (end-entry e)
  entry-line (A.Refused n) s h e = absurd (end-entry e)
  entry-line (A.Missing n) s h e = absurd (end-entry e)
  entry-line A.Closed s h e = absurd (end-entry e)
  entry-line (A.Error k) s h e = absurd (end-entry e)
  entry-line (A.Fail len) s h e = absurd (end-entry e)
  entry-line (A.Unexpected i j k l) s h e = absurd (end-entry e)
  entry-line (A.Errno k) s h e = absurd (end-entry e)
  entry-line A.TooLarge s h e = absurd (end-entry e)

  -- any other answer is the end, with its number
  pub end_line_lem : (a : Answer) (n : ℕ) (rest : List ℕ) → Fair u (paper rx msg a) v → line_of a ≡ L.End n → lined (paper rx msg a) rest ≡ end_line n
  unfolding paper lined
  end_line_lem (A.EntryV1 t at len) n rest h e = absurd (end-entry (sym e))
  end_line_lem (A.EntryV2 t at len) n rest h e = rw (part-fair u v rx at len (P.entry2 (told_stat2 t)) h) (end-number e)
  end_line_lem (A.Chunk at len) n rest h e = rw (part-fair u v rx at len P.chunk h) (end-number e)
  end_line_lem (A.Fail len) n rest h e = rw (part-fair u v msg 0 len P.fail h) (end-number e)
  end_line_lem A.Done n rest h e = end-number e
  end_line_lem A.End n rest h e = end-number e
  end_line_lem (A.StatV1 t) n rest h e = end-number e
  end_line_lem (A.StatV2 t) n rest h e = end-number e
  end_line_lem (A.Refused k) n rest h e = end-number e
  end_line_lem (A.Missing k) n rest h e = end-number e
  end_line_lem A.Closed n rest h e = end-number e
  end_line_lem (A.Error k) n rest h e = end-number e
  end_line_lem (A.Unexpected i j k l) n rest h e = end-number e
  end_line_lem (A.Errno k) n rest h e = end-number e
  end_line_lem A.TooLarge n rest h e = end-number e
