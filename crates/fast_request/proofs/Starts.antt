-- A call that carries a path alone and is started at once: this is its crossing. First the five calls, then any of them. Assumes nothing.
use mathlib.Core.Bool.{Bool, true, false, true≢false}
use mathlib.Core.List.{List, ◌++◌, append-nil}
use mathlib.Core.Option.{Option, none, some}
use mathlib.Core.Path.{◌≡◌, refl, sym, ap, ◌∙◌}
use Prim.Native.Nat.{ℕ, zero, suc, ◌+◌, ◌-◌, ◌≤◌}
use native.Mathlib.Omega.{arith}
use borrow.Author.Tests.{le-leb, eq-eqb, leb-true}
use lib.ListN.{length}
use Rattle.protocol.specs.Answers.{Answer}
use Rattle.protocol.specs.Bytes.{put}
use Rattle.protocol.specs.Refusal.{is_none, path_refusal, feature_refusal, ask_feature, request_refusal}
use Rattle.protocol.specs.Ids.{Table, under, published}
use Rattle.protocol.specs.Messages.{PathOnly, stat, sta2, list, lis2, recv, path_id, ask, word, message_of, bytes_of_request}
use Rattle.ids.specs.Ids.{number_of, table_of, dialect_of}
use Rattle.ids.specs.declared.Ids.{Ids}
use Rattle.boundary.specs.Boundary.{ask_number}
use Rattle.boundary.specs.Crossing.{crossed, back, request_numbered, call_numbered, unknown_call, cross_start}
use Rattle.boundary.specs.Told.{reply_number, out_size}
use Rattle.fast_replies.specs.Direct.{tried}
use Rattle.fast_replies.proofs.Taken.{ses, head-same, tail-same, no-refusal, written-tried}
use Rattle.features.specs.Meaning.{listed}
use Rattle.request_message.proofs.Laws.{front_bytes}
use Rattle.std.specs.Prelude.{Some}
use Rattle.decimal.proofs.Fitted.{fitted-in}
use Rattle.request_message.specs.Composed.{only, placed}
use Rattle.record.specs.Fields.{bits_of, step_numbers, session_of}
use Rattle.record.specs.Record.{word_of}
use Rattle.recv_buf.specs.RecvBuf.{cursor, held_count, compacted}
use Rattle.recv_buf.specs.declared.RecvBuf.{RecvBuf}
use Rattle.recv_buf.proofs.Laws.{Sound, compacted-head, compacted-length}
use Rattle.request.specs.Meaning.{meant}
use Rattle.session_messages.proofs.Laws.{carried-all}
use Rattle.session_sender.proofs.Laws.{bytes-own, whole_out}
use Rattle.session.specs.Calls.{setting_of, start_call}
use Rattle.session.specs.Core.{ask_of, features_from}
use Rattle.session.specs.State as S
use Rattle.session.specs.State.{dialect_in, St, st, Half, half, beside, stepped, at, begun}
use Rattle.session.specs.Sends.{is_data, carried, id_for, message_out, sent}
use Rattle.session.specs.declared.Pending.TheVariants.{Writing}
use Rattle.session.specs.declared.Reply.TheVariants as R
use Rattle.session.specs.declared.Session.{Session}
use Rattle.fast_record.specs.Standing.{number_in, ids_held, Stands, plain_step}
use Rattle.fast_record.proofs.Laws.{number-in, fits-of, ids-held, stands-in}
use Rattle.fast_request.specs.Starting.{path_of, offered, is_path, held_count_in, ask_fits, asked_in, ask_done, ask_now}

-- ---- the five

-- a call's number, back
number-of : (call : ℕ) → 1 ≤ call → call ≤ 5 → call ≡ ask_number (path_of call)
number-of zero l u = absurd (omega arith)
number-of (suc zero) l u = refl
number-of (suc (suc zero)) l u = refl
number-of (suc (suc (suc zero))) l u = refl
number-of (suc (suc (suc (suc zero)))) l u = refl
number-of (suc (suc (suc (suc (suc zero))))) l u = refl
number-of (suc (suc (suc (suc (suc (suc n)))))) l u = absurd (omega arith)

called : (i : PathOnly) (a b : ℕ) (s : St) (lent : List ℕ)
    → start_call s (ask_of i) lent ≡ call_numbered (ask_number i) a b s lent (request_numbered (ask_number i) a b) (unknown_call s)
called stat a b s lent = refl
called sta2 a b s lent = refl
called list a b s lent = refl
called lis2 a b s lent = refl
called recv a b s lent = refl

step_of : (i : PathOnly) → step_numbers (Writing (ask_of i) 0 0) ≡ plain_step (ask_number i) 0
step_of stat = refl
step_of sta2 = refl
step_of list = refl
step_of lis2 = refl
step_of recv = refl

means : (i : PathOnly) (path : List ℕ) → meant (ask_of i) path ≡ ask i path
means stat path = refl
means sta2 path = refl
means list path = refl
means lis2 path = refl
means recv path = refl

no-data : (i : PathOnly) → is_data (ask_of i) ≡ false
no-data stat = refl
no-data sta2 = refl
no-data list = refl
no-data lis2 = refl
no-data recv = refl

goes-out : (i : PathOnly) (s : Session) (rx path : List ℕ) → message_out s rx (ask_of i) 0 path ≡ sent s rx (ask_of i) 0 path
unfolding sent
goes-out stat s rx path = refl
goes-out sta2 s rx path = refl
goes-out list s rx path = refl
goes-out lis2 s rx path = refl
goes-out recv s rx path = refl

feature_there : (i : PathOnly) (n : ℕ) → offered n (ask_number i) ≡ true → ask_feature (listed (features_from (bits_of 7 n))) i ≡ none
unfolding feature_refusal
feature_there stat n e = refl
feature_there sta2 n e = rw e
feature_there list n e = refl
feature_there lis2 n e = rw e
feature_there recv n e = refl

-- ---- any of them

none_of : (o : Option Answer) → is_none o ≡ true → o ≡ none
none_of none e = refl
none_of (some a) e = absurd (true≢false (sym e))

-- the limit for paths is the same under every table
path-under : (t : Table) (path : List ℕ) → path_refusal (under t) path ≡ path_refusal published path
unfolding path_refusal
path-under t path = refl

ask-long : (t : Ids) (i : PathOnly) (path : List ℕ) → length (bytes_of_request (dialect_of t) (ask i path)) ≡ 8 + length path
unfolding bytes_of_request message_of
ask-long t i path =
    let n = number_of t (path_id i) in
    ap (λ (l : List ℕ). length (word n ++ word (length path) ++ l)) (append-nil path) ∙ front_bytes n (length path) path

-- a message that fits goes out whole
module _ (i : PathOnly) (s : Session) (rx path : List ℕ) (h : Sound rx s.buf) (fits : 8 + length path ≤ length rx - held_count s.buf) where
  abbrev b : List ℕ
  b = (compacted rx s.buf).0

  abbrev n : ℕ
  n = held_count s.buf

  abbrev m : List ℕ
  m = bytes_of_request (dialect_in s) (ask i path)

  front : (b, cursor 0 n) ≡ compacted rx s.buf
  front = ap (λ (c : RecvBuf). (b, c)) (sym (compacted-head rx s.buf h))

  whole : (put b n m, Some (8 + length path)) ≡ placed b n (bytes_of_request (only (id_for s (ask_of i))) (meant (ask_of i) path))
  whole =
      let l = ask-long s.ids i path in
      let k = compacted-length rx s.buf h in
      rw (bytes-own s.ids (ask_of i) path, means i path, fitted-in b n m (omega (arith, h.ordered, h.within)), l)

  message-whole : half (stepped (at s (cursor 0 n) (Writing (ask_of i) 0 0)) (R.WriteRx n (8 + length path))) (put b n m) ≡ sent s rx (ask_of i) 0 (carried (ask_of i) 0 path)
  message-whole =
      whole_out s rx (ask_of i) 0 path b (cursor 0 n) front (id_for s (ask_of i)) refl (put b n m) (Some (8 + length path)) whole (8 + length path) refl
      ∙ goes-out i s rx path
      ∙ ap (λ (p : List ℕ). sent s rx (ask_of i) 0 p) (carried-all (ask_of i) 0 path (no-data i))

module _ (rec rx msg lent : List ℕ) (h : Stands rec (length rx) (length msg)) (idle : number_in rec 7 ≡ 0) (path : is_path lent ≡ true)
    (i : PathOnly) (there : offered (number_in rec 5) (ask_number i) ≡ true) where
  abbrev s : Session
  s = ses rec rx msg h

  -- 8, 7, 9, 10: none of them
  allowed : request_refusal (setting_of s) (meant (ask_of i) lent) ≡ none
  unfolding request_refusal session_of
  allowed =
      rw (means i lent, path-under (table_of s.ids) lent, none_of (path_refusal published lent) path)
      (feature_there i (word_of rec 5) (ap (λ (j : ℕ). offered j (ask_number i)) (sym (number-in rec 5 h.sized)) ∙ there))

  sound : Sound rx s.buf
  sound = let g = fits-of rec (length rx) (length msg) h in record { ordered = g.order; within = omega (arith, g.inside, g.rx) }

  -- what the step leaves, and that this is the session's own
  abbrev left : Ids → (head tail : ℕ) → S.Out
  left t head tail =
      S.out (stepped (at (begun s (length lent)) (cursor 0 (tail - head)) (Writing (ask_of i) 0 0)) (R.WriteRx (tail - head) (8 + length lent)))
      (put (compacted rx (cursor head tail)).0 (tail - head) (bytes_of_request (dialect_of t) (ask i lent))) msg

  started : 8 + length lent ≤ length rx - held_count s.buf → left s.ids s.buf.head s.buf.tail ≡ start_call (st s rx msg) (ask_of i) lent
  unfolding start_call
  started fits =
      rw (no-refusal rec rx msg h idle, allowed)
      (ap (λ (p : Half). beside p msg) (message-whole i (begun s (length lent)) rx lent sound fits))

  steps : ask_fits rec rx lent ≡ true → left (ids_held rec) (number_in rec 2) (number_in rec 3) ≡ start_call (st s rx msg) (ask_of i) lent
  steps z =
      let f = leb-true (8 + length lent) (length rx - held_count_in rec) z in
      let j = head-same rec rx msg h in
      let k = tail-same rec rx msg h in
      ap (λ (t : Ids). left t (number_in rec 2) (number_in rec 3)) (sym (ids-held rec (length rx) (length msg) h))
      ∙ ap (λ (n : ℕ). left s.ids n (number_in rec 3)) j
      ∙ ap (λ (n : ℕ). left s.ids s.buf.head n) k
      ∙ started (omega arith)

module _ (rec rx msg lent out : List ℕ) (h : Stands rec (length rx) (length msg)) (o : out_size ≤ length out) (idle : number_in rec 7 ≡ 0)
    (path : is_path lent ≡ true) where
  pub ask-tried : (call a b : ℕ) → 1 ≤ call → call ≤ 5 → offered (number_in rec 5) call ≡ true → (t : Bool) (rec' rx' told : List ℕ)
      → (t, rec', rx', told) ≡ ask_done rec rx lent call out
      → (t, crossed rec' rx' msg told 2) ≡ tried (ask_now rec rx msg lent call out) (cross_start rec rx msg lent call a b out) (crossed rec rx msg out 2)
  unfolding cross_start reply_number
  ask-tried call a b l u there t rec' rx' told e =
      let i = path_of call in
      let n = number-of call l u in
      let held = held_count_in rec in
      written-tried rec rx msg out h o (λ s. back rec out (call_numbered call a b s lent (request_numbered call a b) (unknown_call s)))
      0 held (length lent) 2 (plain_step call 0) (Writing (ask_of i) 0 0) (R.WriteRx held (8 + length lent))
      (step_of i ∙ ap (λ (k : ℕ). plain_step k 0) (sym n)) refl refl
      (asked_in rec rx (number_in rec 2) (number_in rec 3) call lent) (ask_fits rec rx lent) (ask_now rec rx msg lent call out) t rec' rx' told
      (rw (
        le-leb 1 call l,
        le-leb call 5 u,
        eq-eqb (number_in rec 7) 0 idle,
        stands-in rec (length rx) (length msg) h,
        there,
        path,
        le-leb out_size (length out) o,
      ))
      (λ z. ap (back rec out)
      (steps rec rx msg lent h idle path i (ap (offered (number_in rec 5)) (sym n) ∙ there) z
      ∙ called i a b (st (ses rec rx msg h) rx msg) lent
      ∙ ap (λ (k : ℕ). call_numbered k a b (st (ses rec rx msg h) rx msg) lent (request_numbered k a b) (unknown_call (st (ses rec rx msg h) rx msg))) (sym n)))
      e
