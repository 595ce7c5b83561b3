-- A call that writes, against the host: each of its pieces goes out as the plain reader has it, until all are accepted and the call
-- goes on, or one comes to a fault.
-- Assumes nothing.
use Prim.Native.Nat.{ℕ, zero, suc, ◌+◌, ◌≤◌, ◌<◌}
use mathlib.Core.Bool.{false}
use mathlib.Core.List.{List, [], ◌∷◌, ◌++◌, map, append_assoc, append-nil}
use mathlib.Core.Path.{◌≡◌, refl, sym, ap, ◌∙◌, subst}
use native.Mathlib.Decide.{dec_le}
use native.Mathlib.Omega.{arith}
use borrow.Author.Tests.{le-leb}
use lib.ListN.{length, take, drop}
use lib.Seq.{append_snoc, take-length}
use Rattle.protocol.specs.Bytes.{over}
use Rattle.protocol.specs.Calls.{messages}
use Rattle.ids.specs.Ids.{number_of, dialect_of}
use Rattle.protocol.specs.Ids.{Dialect}
use Rattle.request_message.specs.Composed.{asked}
use Rattle.protocol.specs.Messages.{message_of, bytes_of_request, apart, pieces}
use Rattle.protocol.specs.Reader.{Report, accepted, broke}
use Rattle.request_piece.specs.Pieces.{header_of, parts_of, piece_list, piece_of}
use Rattle.request_piece.specs.declared.Piece.{Piece}
use Rattle.request_piece.specs.declared.Piece.TheVariants as P
use Rattle.recv_buf.proofs.Laws.{held-length}
use Rattle.request.specs.Meaning.{meant}
use Rattle.request.specs.declared.Request.{Request}
use Rattle.session.specs.declared.Pending.TheVariants.{Writing}
use Rattle.session.specs.declared.Reply.{Reply}
use Rattle.session.specs.declared.Reply.TheVariants as R
use Rattle.session.specs.declared.Session.{Session}
use Rattle.session.specs.Core.{fault_of, show_of, step_of, core}
use Rattle.session.specs.Faithful.{pieces_of, Composed}
use Rattle.session.specs.Host.{Step, World, Run, grant_write, granted, run}
use Rattle.session.specs.Reports.{wrote_at, fault_at}
use Rattle.session.specs.State.{dialect_in, St, st, Out, out, beside, at, Good}
use Rattle.session.specs.Sends.{id_for, tidied, carried, piece_reply, send_piece, message_out, resumed, wrote_on}
use Rattle.session.proofs.Buf.{sound-of}
use Rattle.session.proofs.Follows.{Breaks, Follows}
use Rattle.session.proofs.Run.{fault-step, wrote-step}
use Rattle.session.proofs.Site.{once, Site, lent, free, all, Ok, wrote, Goes, later, started, Mid, mid_at, mid_started, mid_pending, mid_tidied, mid_runs, mid_lends, LetIn, all-is}
use Rattle.session.proofs.Tail.{tidied-tail}
use Rattle.session.proofs.Turns.{held, Frame}
use Rattle.session.proofs.Writes.{bytes_in, apart-pieces, Sent, pieces-sent, rest-none, piece-at, drop-rest, wrote-last, wrote-more, placed-good, placed-held, placed-there, placed-inside, message-whole, message-apart, pieces_whole, pieces-apart, pieces-bare}

module _ (c : Site) where
  -- a piece behind the held bytes may be added
  abbrev pub Behind : Type 0
  Behind = (i : ℕ) (is : List ℕ) → i ≡ length (held c.state) → Composed c.call (length (held c.state)) is → Composed c.call (length (held c.state)) (i ∷ is)

  -- the call's session keeps its ids
  abbrev own : Request → ℕ
  own rq = id_for c.state.ses rq

  same_id : {z : ℕ} (rq : Request) (t : St) → Mid c z t → id_for t.ses rq ≡ own rq
  same_id rq t x = ap (λ (ψ : Frame). number_of ψ.ids (asked rq)) x.frame

  same-dialect : {z : ℕ} (t : St) → Mid c z t → dialect_in t.ses ≡ dialect_in c.state.ses
  same-dialect t x = ap (λ (ψ : Frame). dialect_of ψ.ids) x.frame

  module _ (live : c.state.ses.ended ≡ false) (rq : Request) (z n : ℕ) (breaks : Breaks c z n rq) where
    -- the host is handed a piece b
    write-ok : (f i : ℕ) (xs rest : List (List ℕ)) (b : List ℕ) (t : St) (o : Reply) (from k : ℕ) → n ≤ f → Mid c z t
        → t.ses.pending ≡ Writing rq from k → all c ≡ xs ++ b ∷ rest
        → Goes c f (i + 1) (xs ++ b ∷ []) [] (wrote_on t rq from k (lent c))
        → (r : Report) (is : List ℕ) → Composed c.call (length (held c.state)) is
        → Ok c (grant_write core c.host (lent c) (λ w' s'. run core c.host (lent c) f w' s') (wrote c i xs [] is)
        (step_of (record { st = t; reply = o })) b r)
    unfolding wrote_at fault_at
    write-ok f i xs rest b t o from k l x pend e on accepted =
        subst (λ (y : Out). Goes c f (i + 1) (xs ++ b ∷ []) [] y)
        (sym (wrote-step t (length (lent c)) x.good (mid_runs c t x live) (mid_lends c t x) (Writing rq from k) pend refl (lent c) refl)) on
    write-ok f i xs rest b t o from k l x pend e on (broke d) =
        subst (λ (y : Out). Goes c f (i + 1) xs (once xs b d) y)
        (sym (fault-step t (length (lent c)) x.good (mid_runs c t x live) (mid_lends c t x) (Writing rq from k) pend refl (fault_of d)))
        (breaks f (i + 1) xs b rest t d l x e)

    -- A message that carries `part`, from `from` on; ys are the call's pieces up to its last.
    module _ (from : ℕ) (part : List ℕ) (fits : from + length part ≤ length (lent c)) (there : take (length part) (drop from (lent c)) ≡ part)
        (ys todo : List (List ℕ)) (upto : all c ≡ ys ++ todo)
        (on : (f i : ℕ) (t : St) → n ≤ f → Mid c z t → Goes c f i ys [] (resumed t rq from (lent c))) where
      granted-piece : (k : World → Step Session → Run Session) (w' : World) (s' : Step Session) (p : Piece)
          → granted core c.host (lent c) k w' s' (show_of s'.rx s'.msg (piece_reply from (length part) p))
          ≡ grant_write core c.host (lent c) k w' s' (bytes_in part p) (c.host.writes w'.writes)
      granted-piece k w' s' (P.Header id arg) = refl
      granted-piece k w' s' P.Lent = rw (le-leb (from + length part) (length (lent c)) fits, there)
      granted-piece k w' s' P.Comma = refl
      granted-piece k w' s' (P.Digits m) = refl
      granted-piece k w' s' (P.Inner id) = refl
      granted-piece k w' s' (P.Word x) = refl
      granted-piece k w' s' P.End = refl

      -- the k-th piece p goes out, and ps are behind it
      piece-ok : (f i k : ℕ) (xs : List (List ℕ)) (t : St) (p : Piece) (ps : List Piece) → n ≤ f → Mid c z t
          → drop k (piece_list (own rq) rq (length part)) ≡ p ∷ ps
          → ys ≡ xs ++ bytes_in part p ∷ map (bytes_in part) ps
          → ((t' : St) → Mid c z t' → Goes c f (i + 1) (xs ++ bytes_in part p ∷ []) [] (wrote_on t' rq from (k + 1) (lent c)))
          → Goes c (suc f) i xs [] (out (send_piece t.ses rq from (length part) k) t.rx t.msg)
      unfolding run
      piece-ok f i k xs t p ps l x at-k e next is d =
          let t₁ : St = st (at t.ses t.ses.buf (Writing rq from (k + 1))) t.rx t.msg in
          let x₁ : Mid c z t₁ = mid_pending c t (Writing rq from (k + 1)) x in
          let o : Reply = piece_reply from (length part) p in
          rw (ap (λ (j : ℕ). piece_of j rq (length part) k) (same_id rq t x) ∙ piece-at (own rq) rq (length part) k (p ∷ ps) at-k)
          (subst (Ok c)
          (sym (granted-piece (λ w' s'. run core c.host (lent c) f w' s') (wrote c i xs [] is) (step_of (record { st = t₁; reply = o })) p))
          (write-ok f i xs (map (bytes_in part) ps ++ todo) (bytes_in part p) t₁ o from (k + 1) l x₁ refl
          (upto ∙ ap (λ (y : List (List ℕ)). y ++ todo) e ∙ append_assoc xs (bytes_in part p ∷ map (bytes_in part) ps) todo)
          (next t₁ x₁) (c.host.writes i) is d))

      -- the message goes out whole, from the free end of the buffer
      whole-ok : {y : ℕ} (f i : ℕ) (xs : List (List ℕ)) (t : St) (m : List ℕ) → length (held c.state) ≡ z → Behind → n < f → Mid c y t → length (held t) + length m ≤ t.ses.capacity
          → ys ≡ xs ++ m ∷ []
          → Goes c f i xs [] (record {
            st = st (at t.ses (tidied t).ses.buf (Writing rq from 0)) (over (tidied t).rx (tidied t).ses.buf.tail m) t.msg;
            reply = R.WriteRx (tidied t).ses.buf.tail (length m);
          })
      unfolding run wrote_on
      whole-ok zero i xs t m front behind l x fit e is d = absurd (omega arith)
      whole-ok (suc f) i xs t m front behind l x fit e is d =
          let t₁ : St = st (at t.ses (tidied t).ses.buf (Writing rq from 0)) (over (tidied t).rx (tidied t).ses.buf.tail m) t.msg in
          let x₁ : Mid c z t₁ = record {
            good = placed-good t x.good m fit (Writing rq from 0);
            frame = x.frame;
            same = placed-held t x.good m fit ∙ x.same;
            msg = x.msg;
            place = tidied-tail t x.good ∙ ap length x.same ∙ front;
          } in
          rw (le-leb _ _ (placed-inside t x.good m fit), placed-there t x.good m fit)
          (write-ok f i xs todo m t₁ (R.WriteRx (tidied t).ses.buf.tail (length m)) from 0 (omega arith) x₁ refl
          (upto ∙ ap (λ (y : List (List ℕ)). y ++ todo) e ∙ append_assoc xs (m ∷ []) todo)
          (rw (sym e) (on f (i + 1) t₁ (omega arith) x₁)) (c.host.writes i) ((tidied t).ses.buf.tail ∷ is)
          (behind (tidied t).ses.buf.tail is (tidied-tail t x.good ∙ ap length x.same) d))

      module _ (carries : carried rq from (lent c) ≡ part) where
        -- the pieces of a state's session, and of the call's
        listed : (k : ℕ) (t : St) → Mid c z t → drop k (piece_list (id_for t.ses rq) rq (length (carried rq from (lent c)))) ≡ drop k (piece_list (own rq) rq (length part))
        listed k t x =
            ap (λ (j : ℕ). drop k (piece_list j rq (length (carried rq from (lent c))))) (same_id rq t x)
            ∙ ap (λ (l : List ℕ). drop k (piece_list (own rq) rq (length l))) carries

        -- a piece was accepted, and ps are still to go
        pieces-ok : (ps : List Piece) (m f i k : ℕ) (xs : List (List ℕ)) (t : St) → Sent m ps → n + m ≤ f → 0 < k → Mid c z t
            → drop k (piece_list (own rq) rq (length part)) ≡ ps
            → ys ≡ xs ++ map (bytes_in part) ps → Goes c f i xs [] (wrote_on t rq from k (lent c))
        pieces-ok [] m f i k xs t z l p x at-k e =
            rw (wrote-last t rq from k (lent c) p (listed k t x ∙ at-k), sym (append-nil xs) ∙ sym e) (on f i t (omega arith) x)
        pieces-ok (b ∷ ps) zero f i k xs t z l p x at-k e = absurd z
        pieces-ok (b ∷ ps) (suc m) zero i k xs t z l p x at-k e = absurd (omega arith)
        pieces-ok (b ∷ ps) (suc m) (suc f) i k xs t z l p x at-k e =
            rw (wrote-more t rq from k (lent c) p b ps (listed k t x ∙ at-k) z.0, carries)
            (piece-ok f i k xs t b ps (omega arith) x at-k e
            (λ t' x'. pieces-ok ps m f (i + 1) (k + 1) (xs ++ bytes_in part b ∷ []) t' z.1 (omega arith) (omega arith) x'
            (drop-rest (piece_list (own rq) rq (length part)) (b ∷ ps) k at-k)
            (e ∙ sym (append_snoc xs (bytes_in part b) (map (bytes_in part) ps)))))

        -- .. or in pieces, from the first
        pub apart-ok : (f i : ℕ) (xs : List (List ℕ)) (t : St) → n + 5 ≤ f → Mid c z t → ys ≡ xs ++ apart (dialect_in c.state.ses) (meant rq part)
            → Goes c f i xs [] (out (send_piece t.ses rq from (length part) 0) t.rx t.msg)
        unfolding piece_list
        apart-ok zero i xs t l x e = absurd (omega arith)
        apart-ok (suc f) i xs t l x e =
            let p : Piece = header_of (own rq) rq (length part) in
            let ps : List Piece = drop 1 (piece_list (own rq) rq (length part)) in
            let e₁ : ys ≡ xs ++ bytes_in part p ∷ map (bytes_in part) ps = e ∙ ap (λ (y : List (List ℕ)). xs ++ y) (apart-pieces c.state.ses.ids rq part) in
            piece-ok f i 0 xs t p ps (omega arith) x refl e₁
            (λ t' x'. pieces-ok ps 4 f (i + 1) 1 (xs ++ bytes_in part p ∷ []) t' (pieces-sent (own rq) rq (length part)).1 (omega arith) (omega arith) x' refl
            (e₁ ∙ sym (append_snoc xs (bytes_in part p) (map (bytes_in part) ps))))

        pub message-ok : {y : ℕ} (f i : ℕ) (xs : List (List ℕ)) (t : St) → length (held c.state) ≡ z → Behind → n + 5 ≤ f → Mid c y t
            → ys ≡ xs ++ pieces (dialect_in c.state.ses) (free c) (meant rq part)
            → Goes c f i xs [] (beside (message_out t.ses t.rx rq from part) t.msg)
        message-ok f i xs t front behind l x e = go (dec_le (length m) (free c))
          where
            m : List ℕ
            m = bytes_of_request (dialect_in t.ses) (meant rq part)

            e₁ : ys ≡ xs ++ pieces (dialect_in t.ses) (free c) (meant rq part)
            e₁ = e ∙ ap (λ (δ : Dialect). xs ++ pieces δ (free c) (meant rq part)) (sym (same-dialect t x))

            size : t.ses.capacity ≡ c.state.ses.capacity
            size = ap (λ (ψ : Frame). ψ.capacity) x.frame

            count : length (held t) ≡ length (held c.state)
            count = ap length x.same

            go : Dec (length m ≤ free c) → Goes c f i xs [] (beside (message_out t.ses t.rx rq from part) t.msg)
            go (yes fit) =
                let within = held-length t.rx t.ses.buf (sound-of t x.good) in
                let room : length (held t) + length m ≤ t.ses.capacity = omega (arith, x.good, size, count) in
                rw (message-whole t x.good rq from part room)
                (whole-ok f i xs t m front behind (omega arith) x room (e₁ ∙ ap (λ (y : List (List ℕ)). xs ++ y) (pieces_whole (dialect_in t.ses) (free c) (meant rq part) fit)))
            go (no wide) =
                let full : t.ses.capacity < length (held t) + length m = omega (arith, size, count) in
                rw (message-apart t x.good rq from part full)
                (apart-ok _ i xs (tidied t) l (mid_at c (tidied t) (mid_tidied c t x) (sym front))
                (e₁ ∙ ap (λ (y : List (List ℕ)). xs ++ y) (pieces-apart (dialect_in t.ses) (free c) (meant rq part) (omega arith))
                ∙ ap (λ (δ : Dialect). xs ++ apart δ (meant rq part)) (same-dialect t x)))

  -- a call of one message: with a path, or a header only
  module _ (lets : LetIn c) (good : Good c.state) (live : c.state.ses.ended ≡ false) (rq : Request) (z : ℕ) (breaks : Breaks c z (later c) rq)
      (on : Follows c lets z rq) where
    pub path-ok : (f : ℕ) → length (held c.state) ≡ z → Behind → messages c.call ≡ meant rq (lent c) ∷ [] → carried rq 0 (lent c) ≡ lent c → later c + 5 ≤ f
        → Goes c f c.world.writes [] [] (beside (message_out (started c).ses c.state.rx rq 0 (lent c)) c.state.msg)
    path-ok f front behind one carries l =
        message-ok live rq z (later c) breaks 0 (lent c) (omega arith) (take-length (lent c)) (all c) [] (sym (append-nil (all c))) on carries f
        c.world.writes [] (started c) front behind l (mid_started c good)
        (all-is c lets ∙ ap (pieces_of (dialect_in c.state.ses) (free c)) one ∙ append-nil (pieces (dialect_in c.state.ses) (free c) (meant rq (lent c))))

    -- one piece, whatever is lent
    pub bare_ok : (f : ℕ) → c.state.ses.buf.tail ≡ z → messages c.call ≡ meant rq [] ∷ [] → (message_of (dialect_in c.state.ses) (meant rq [])).parts ≡ []
        → ((j : ℕ) → parts_of j rq ≡ []) → later c + 5 ≤ f
        → Goes c f c.world.writes [] [] (out (send_piece (started c).ses rq 0 0 0) c.state.rx c.state.msg)
    unfolding piece_list
    bare_ok zero still one bare none l = absurd (omega arith)
    bare_ok (suc f) still one bare none l =
        piece-ok live rq z (later c) breaks 0 [] (omega arith) refl (all c) [] (sym (append-nil (all c))) on f c.world.writes 0 [] (started c)
        (header_of (own rq) rq 0) [] (omega arith) (mid_at c (started c) (mid_started c good) (sym still)) (rw (none (own rq)))
        (all-is c lets ∙ ap (pieces_of (dialect_in c.state.ses) (free c)) one ∙ append-nil (pieces (dialect_in c.state.ses) (free c) (meant rq []))
        ∙ pieces-bare (dialect_in c.state.ses) (free c) (meant rq []) bare ∙ apart-pieces c.state.ses.ids rq [] ∙ rw (none (own rq)))
        (λ t' x'. rw (wrote-last t' rq 0 1 (lent c) (omega arith) (rest-none (id_for t'.ses rq) rq (length (carried rq 0 (lent c))) (none (id_for t'.ses rq))))
        (subst (λ (ys : List (List ℕ)). Goes c f (c.world.writes + 1) ys [] (resumed t' rq 0 (lent c)))
        (all-is c lets ∙ ap (pieces_of (dialect_in c.state.ses) (free c)) one ∙ append-nil (pieces (dialect_in c.state.ses) (free c) (meant rq []))
        ∙ pieces-bare (dialect_in c.state.ses) (free c) (meant rq []) bare ∙ apart-pieces c.state.ses.ids rq [] ∙ rw (none (own rq))) (on f (c.world.writes + 1) t' (omega arith) x')))
