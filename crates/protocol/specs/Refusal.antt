-- The refusals 6 to 10 of a call, in their order: 6, 8, 7, 9, 10 (document 01's, as document 02's [6] has changed it); then 25 ([10]).
-- Assumes nothing.
use Rattle.std.specs.Prelude.{ℕ, zero, suc, Bool, true, false, ◌&&◌, not, List, eqb, ltb, length, get_or}
use Rattle.std.proofs.Math.Option.{Option, none, some}
use Rattle.protocol.specs.Answers.{Answer, refused, missing}
use Rattle.protocol.specs.Bytes.{pick, has}
use Rattle.protocol.specs.Flags.{bit, dry_run, refused_flags}
use Rattle.protocol.specs.Ids.{Dialect}
use Rattle.protocol.specs.Messages.{PathOnly, stat, sta2, list, lis2, recv, Request, ask, rcv2, send, snd2, chunk, done, quit}
use Rattle.protocol.specs.Calls.{Call, call, next_entry, next_chunk, Made}
use Rattle.protocol.specs.Hours.{Hours, lets}

-- What a session knows besides its bytes.
pub record Setting : Type 0 where
  pub dialect : Dialect
  pub features : List Bool
  pub ended : Bool

-- the first of two refusals
abbrev pub or_else : Option Answer → Option Answer → Option Answer
or_else (some a) b = some a
or_else none b = b

abbrev pub refuse : Bool → Answer → Option Answer
refuse b a = pick b (some a) none

abbrev pub is_none : Option Answer → Bool
is_none none = true
is_none (some a) = false

-- 8, then 7: "The NUL test now precedes the length test" (document 02, [6])
unfoldable pub path_refusal : Dialect → List ℕ → Option Answer
path_refusal d p = or_else (refuse (has 0 p) (refused 8)) (refuse (ltb d.longest (length p)) (refused 7))

-- 9
unfoldable pub flag_refusal : Bool → ℕ → Option Answer
flag_refusal pull f = refuse (refused_flags pull f) (refused 9)

-- 10: feature n, counted from 1, is needed and not there
unfoldable pub feature_refusal : List Bool → Bool → ℕ → Option Answer
feature_refusal has needed zero = none
feature_refusal has needed (suc n) = refuse (needed && not (get_or has n false)) (missing (suc n))

-- "3 first, then 4, 5, 6, 7"
unfoldable pub transfer_refusal : List Bool → ℕ → Option Answer
transfer_refusal has f =
    or_else (feature_refusal has true 3)
    (or_else (feature_refusal has (eqb (bit 0 f) 1) 4)
    (or_else (feature_refusal has (eqb (bit 1 f) 1) 5)
    (or_else (feature_refusal has (eqb (bit 2 f) 1) 6) (feature_refusal has (dry_run f) 7))))

abbrev pub ask_feature : List Bool → PathOnly → Option Answer
ask_feature has stat = none
ask_feature has sta2 = feature_refusal has true 1
ask_feature has list = none
ask_feature has lis2 = feature_refusal has true 2
ask_feature has recv = none

-- 8, 7, 9 and 10 of a request
unfoldable pub request_refusal : Setting → Request → Option Answer
request_refusal g (ask i p) = or_else (path_refusal g.dialect p) (ask_feature g.features i)
request_refusal g (rcv2 p f) = or_else (path_refusal g.dialect p) (or_else (flag_refusal true f) (transfer_refusal g.features f))
request_refusal g (send p m) = path_refusal g.dialect p
request_refusal g (snd2 p m f) = or_else (path_refusal g.dialect p) (or_else (flag_refusal false f) (transfer_refusal g.features f))
request_refusal g (chunk x) = none
request_refusal g (done t) = none
request_refusal g quit = none

abbrev pub call_refusal : Setting → Call → Option Answer
call_refusal g (call q) = request_refusal g q
call_refusal g (next_entry v) = none
call_refusal g next_chunk = none

-- "A call first meets refusals 6 to 10 in their order"
unfoldable pub refusal : Setting → Call → Option Answer
refusal g q = or_else (refuse g.ended (refused 6)) (call_refusal g q)

-- ---- 25, of a push start outside the hours (document 02, [10])

abbrev pub is_push : Call → Bool
is_push (call (ask i p)) = false
is_push (call (rcv2 p f)) = false
is_push (call (send p m)) = true
is_push (call (snd2 p m f)) = true
is_push (call (chunk x)) = false
is_push (call (done t)) = false
is_push (call quit) = false
is_push (next_entry v) = false
is_push next_chunk = false

abbrev pub closed_hours : ℕ
closed_hours = 25

abbrev pub outside : Option Hours → Made → Bool
outside h m = not (lets h m.moment) && is_push m.call

-- a call is turned away by the hours: "after 10", so where nothing else refuses it
abbrev pub turned : Option Hours → Setting → Made → Bool
turned h g m = outside h m && is_none (refusal g m.call)

-- all refusals of a call as it is made
abbrev pub refusal_at : Option Hours → Setting → Made → Option Answer
refusal_at h g m = or_else (refusal g m.call) (refuse (outside h m) (refused closed_hours))
