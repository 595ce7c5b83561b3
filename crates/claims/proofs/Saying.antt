-- The claim on the panel's side at the replies of `specs/Saying.antt`: its hypotheses can be met, and what is then sent and read is what the
-- documents say.
-- Assumes nothing.
use Prim.Native.Nat.{ℕ}
use mathlib.Core.Bool.{true}
use mathlib.Core.List.{List, [], ◌∷◌, ◌++◌}
use mathlib.Core.Option.{none, some}
use mathlib.Core.Path.{◌≡◌, refl, ap}
use native.Mathlib.Omega.{arith}
use Rattle.protocol.specs.Bytes.{number_at, signed, over, put}
use Rattle.protocol.specs.Calls.{v1, v2, cut, messages}
use Rattle.protocol.specs.Digits.{digits}
use Rattle.protocol.specs.Features.{rest_after, split, has_feature, features_of}
use Rattle.protocol.specs.Flags.{several, unknown, dry_run, refused_flags}
use Rattle.protocol.specs.Ids.{letters}
use Rattle.protocol.specs.Messages.{message_of, bytes_of_request}
use Rattle.protocol.specs.Reader.{accepted, writes, plain_writes}
use Rattle.protocol.specs.Refusal.{path_refusal, flag_refusal, feature_refusal, transfer_refusal, request_refusal, refusal}
use Rattle.protocol.proofs.Ids.{published-legal}
use Rattle.id_table.specs.IdsFile.{checked}
use Rattle.id_table.specs.Settings.{settings_of, lent_in}
use Rattle.id_table.proofs.Laws.{id-tables}
use Rattle.session.specs.Demand3.{Opening, Side, AllWide, reader}
use Rattle.hours_totals.specs.System.{timed_totals}
use Rattle.panel_reply.specs.Replies.{Reply, behind_id, is_short}
use Rattle.panel_side.specs.Crossing.{with_stat, with_stat2, reply_numbered, cross_speak}
use Rattle.panel_side.specs.Claim.{IsReadBack}
use Rattle.panel_side.specs.ReadBack.{Utterance, spoken_by, Lends, Says, says_none, says_next, sent_all, stat_reads, stat2_reads, step_reads, chunk_reads, done_reads, of_stat, of_stat2, of_entry, of_entry2, of_listing_end, of_chunk, of_transfer_end, of_okay, of_fail, list_writes, recv_writes, list2_writes, recv2_writes, send_writes, send2_writes, data_writes, Dialogue, over as ended, reading, writing, NoneRefused}
use Rattle.claims.specs.Saying.{seven_banner, say, utterances, replies, sent, path, made, heard}
use Rattle.claims.proofs.Applied.{all_bytes, below-bytes, side}
use Rattle.claims.proofs.Claims.{panel_claim}

lends : Lends (settings_of letters) letters
lends = id-tables.opens letters published-legal

-- a reply that is answered 0
next : {k : ℕ} {numbers lent : List ℕ} {r : Reply} {us : List Utterance} {rs : List Reply} → all_bytes numbers ≡ true → reply_numbered k numbers lent ≡ some r
    → (spoken_by (say (settings_of letters) k numbers lent)).number ≡ 0 → Says letters us rs → Says letters (say (settings_of letters) k numbers lent ∷ us) (r ∷ rs)
next {k} {numbers} {lent} {r} b given zero-told more =
    says_next (say (settings_of letters) k numbers lent) r lends (below-bytes numbers b) (omega arith) given zero-told more

says : Says letters (utterances (settings_of letters)) replies
unfolding cross_speak settings_of lent_in checked with_stat with_stat2 behind_id is_short number_at signed
says =
    next refl refl refl (next refl refl refl (next refl refl refl (next refl refl refl (next refl refl refl (next refl refl refl (next refl refl refl (next refl refl refl (next refl refl refl (next refl refl refl (next refl refl refl (next refl refl refl (next refl refl refl (next refl refl refl (next refl refl refl says_none))))))))))))))

-- what is sent is what the documents say
is-sent : sent ≡ sent_all (utterances (settings_of letters))
unfolding cross_speak settings_of lent_in checked with_stat with_stat2 behind_id is_short number_at signed over put
is-sent = refl

-- each is read by its call, a FAIL by any that reads
belong : Dialogue made replies heard
belong =
    reading (of_stat _ path) (reading (of_stat2 _ path)
    (writing (list_writes path) (reading (of_entry _ _) (reading (of_listing_end v1)
    (writing (list2_writes path) (reading (of_entry2 _ _) (reading (of_listing_end v2)
    (writing (recv_writes path) (reading (of_chunk _) (reading of_transfer_end
    (writing (recv2_writes path 4) (writing (send2_writes path 33188 0x8000_0002)
    (writing (send_writes path 33188) (writing (data_writes _) (reading (of_okay 5)
    (reading (of_fail _ (stat_reads path)) (reading (of_fail _ (stat2_reads path)) (reading (of_fail _ (step_reads v1))
    (reading (of_fail _ (step_reads v2)) (reading (of_fail _ chunk_reads) (reading (of_fail _ (done_reads 5))
    ended)))))))))))))))))))))

-- the published ids, and a banner with all seven features
abbrev seven : Opening
seven = record { banner = seven_banner; table = letters; legal = published-legal; hours = none; kept = tt }

free : NoneRefused none (reader seven 76 accepted).setting made
unfolding several unknown dry_run refused_flags path_refusal flag_refusal feature_refusal transfer_refusal request_refusal refusal rest_after split has_feature features_of
free = (refl, (refl, (refl, (refl, (refl, (refl, (refl, (refl, (refl, (refl, (refl, (refl, (refl, (refl, (refl, (refl, (refl, (refl, (refl, (refl, (refl, (refl, tt))))))))))))))))))))))

wide : AllWide made
wide = (omega arith, (omega arith, (omega arith, (omega arith, (omega arith, (omega arith, (omega arith, (omega arith, (omega arith, (omega arith, (omega arith, (omega arith, (omega arith, (omega arith, (omega arith, (omega arith, (omega arith, (omega arith, (omega arith, (omega arith, (omega arith, (omega arith, tt))))))))))))))))))))))

-- a byte a read, on a receive buffer of 76 bytes; a byte behind the replies stays unread
abbrev reads : Side timed_totals 76 accepted
reads = side 76 (sent ++ 0xFF ∷ []) refl (omega arith) refl

pub said_read : IsReadBack timed_totals seven accepted made 76 reads heard (0xFF ∷ [])
unfolding plain_writes writes several unknown dry_run refused_flags path_refusal flag_refusal feature_refusal transfer_refusal request_refusal refusal rest_after split has_feature features_of messages message_of bytes_of_request digits cut
said_read =
    panel_claim.reads_back seven accepted 76 (omega arith) tt (utterances (settings_of letters)) replies says (omega arith) made heard belong free wide reads
    (0xFF ∷ []) (ap (λ (l : List ℕ). l ++ 0xFF ∷ []) is-sent) (omega arith, omega arith)
