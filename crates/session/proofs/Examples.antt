-- The facts of `specs/Examples.antt` hold. Assumes nothing.
use Prim.Native.Nat.{ℕ}
use mathlib.Core.Bool.{Bool, true, false, true≢false}
use mathlib.Core.List.{List, []}
use mathlib.Core.Option.{Option, none, some}
use mathlib.Core.Path.{◌≡◌, refl, sym, ap, ◌∙◌}
use native.Mathlib.Omega.{arith}
use lib.Dec.{eqb}
use lib.ListN.{length, take, get_or}
use Rattle.protocol.specs.Answers.{number, numbers}
use Rattle.protocol.specs.Bytes.{number_at}
use Rattle.protocol.specs.Calls.{messages}
use Rattle.protocol.specs.Digits.{digits}
use Rattle.protocol.specs.Refusal.{refusal, request_refusal, path_refusal}
use Rattle.protocol.specs.Messages.{bytes_of_request, message_of, apart, pieces}
use Rattle.protocol.specs.Reader.{plain, written}
use Rattle.protocol.specs.Records.{stat_at}
use Rattle.session.specs.Faithful.{fail_text}
use Rattle.session.specs.Examples.{Examples, incoming, foreign}

-- two things that a test tells apart are not the same
apart_by : {A : Type 0} (test : A → Bool) (x y : A) → test x ≡ true → test y ≡ false → x ≡ y → ⊥
apart_by test x y a b e = true≢false (sym a ∙ ap test e ∙ b)

abbrev is_some : {A : Type 0} → Option A → Bool
is_some none = false
is_some (some a) = true

-- lists of other lengths, and of another first byte
longer : {A : Type 0} (n : ℕ) (x y : List A) → eqb (length x) n ≡ true → eqb (length y) n ≡ false → x ≡ y → ⊥
longer n x y a b e = apart_by (λ l. eqb (length l) n) x y a b e

pub examples : Examples
unfolding plain written refusal request_refusal path_refusal messages pieces apart bytes_of_request message_of number_at stat_at fail_text digits
examples =
    record {
      right = record {
        answer = refl;
        unread = refl;
        asks = (
          record { come = take 5 incoming; n = 8; split = refl; falls = refl; fits = omega arith; fewer = omega arith; window = omega arith; inside = refl; behind = refl },
          (omega arith, (record { come = []; n = 8; split = refl; falls = refl; fits = omega arith; fewer = omega arith; window = omega arith; inside = refl; behind = refl }, (tt, tt))),
        );
        settled = λ b. refl;
        pieces = refl;
        composed = (refl, tt);
        closes = refl;
        windows = (refl, (refl, tt));
        ends = refl;
        kept = refl;
      };
      answer = λ a. apart_by (λ x. eqb (length (numbers x)) 0) _ _ refl refl a.answer;
      unread = λ a. longer 1 _ _ refl refl a.unread;
      unwritten = λ a. longer 0 _ _ refl refl a.pieces;
      pieces = λ a. longer 2 _ _ refl refl a.pieces;
      composed = λ a. absurd (omega (arith, a.composed.0));
      closes = λ a. longer 1 _ _ refl refl a.closes;
      ends = λ a. absurd (omega (arith, a.ends));
      kept_bytes = λ a. apart_by (λ l. eqb (get_or l 0 0) 8) _ _ refl refl a.kept;
      reads_too_few = λ a. true≢false (sym (a.settled (omega arith)));
      fifteen =
          record {
            answer = refl;
            unread = refl;
            asks = (
              record { come = take 4 foreign; n = 8; split = refl; falls = refl; fits = omega arith; fewer = omega arith; window = omega arith; inside = refl; behind = refl },
              (omega arith, (record { come = []; n = 8; split = refl; falls = refl; fits = omega arith; fewer = omega arith; window = omega arith; inside = refl; behind = refl }, (tt, tt))),
            );
            settled = λ b. refl;
            pieces = refl;
            composed = (refl, tt);
            closes = refl;
            windows = (refl, (refl, tt));
            ends = refl;
            kept = refl;
          };
      no_reads = λ a. true≢false (sym (a.settled tt));
      fifteen_early = λ a. true≢false (sym (a.settled (omega arith)));
      reads_early = λ a. longer 0 _ _ refl refl a.asks.0.behind;
      reads_sated = λ a. absurd (omega (arith, a.asks.0.fits, a.asks.0.fewer));
      reads_half = λ a. absurd (omega (arith, a.asks.0.inside));
      reads_none = λ a. absurd (omega (arith, a.asks.0.window));
      reads_elsewhere = λ a. absurd (omega (arith, a.windows.0));
      ended_again = λ a. absurd (omega (arith, a.1.0));
      missing = λ h x. x;
      more = λ h x. x;
      turned = (record { answer = refl; unread = refl; asks = refl; pieces = refl; broken = refl; composed = refl; closes = refl; stopped = refl; ends = refl; kept = refl }, tt);
      let_in = (record { answer = refl; unread = refl; asks = tt; settled = λ b. refl; pieces = refl; composed = (refl, tt); closes = refl; windows = tt; ends = refl; kept = refl }, tt);
      turned_within = λ a. apart_by (λ x. eqb (number x) 25) _ _ refl refl a.0.answer;
      let_in_outside = λ a. apart_by (λ x. eqb (number x) 0) _ _ refl refl a.0.answer;
      turned_answer = λ a. apart_by (λ x. eqb (number x) 24) _ _ refl refl a.0.answer;
      turned_unread = λ a. longer 15 _ _ refl refl a.0.unread;
      turned_reads = λ a. longer 1 _ _ refl refl a.0.asks;
      turned_writes = λ a. longer 1 _ _ refl refl a.0.pieces;
      turned_broken = λ a. longer 1 _ _ refl refl a.0.broken;
      turned_composed = λ a. longer 1 _ _ refl refl a.0.composed;
      turned_closes = λ a. longer 1 _ _ refl refl a.0.closes;
      turned_stopped = λ a. apart_by is_some _ _ refl refl a.0.stopped;
      turned_ends = λ a. absurd (omega (arith, a.0.ends));
      turned_kept = λ a. apart_by (λ l. eqb (get_or l 0 0) 8) _ _ refl refl a.0.kept;
      some_accepted = λ a. longer 1 _ _ refl refl a;
      broken = ([], (refl, refl));
      other_piece = λ a. apart_by (λ l. eqb (get_or (get_or l 1 []) 0 0) 98) _ _ refl refl a.1.0;
      other_before = λ a. longer 0 _ _ refl refl a.1.1;
      offered_again = λ b x. x;
      behind = λ a. absurd (omega (arith, a.1.0));
      behind_pull = λ a. absurd (omega (arith, a.0));
      behind_send = λ a. absurd (omega (arith, a.0));
      behind_send2 = λ a. absurd (omega (arith, a.0));
      behind_data = λ a. absurd (omega (arith, a.1.0));
      done_by_value = λ a. longer 1 _ _ refl refl a;
      quit_by_value = λ a. longer 1 _ _ refl refl a;
      step_by_value = λ a. longer 1 _ _ refl refl a;
      chunk_by_value = λ a. longer 1 _ _ refl refl a;
      wide = λ p m f t l a b k. ((l, k), ((l, k), ((l, k), ((l, k), ((l, k), (((l, b), k), (((l, a), k), (((l, (a, b)), k), ((l, k), ((a, k), ((tt, k), ((tt, k), ((tt, k), ((tt, k), tt))))))))))))));
      coded = λ c h. (h, h);
      uncoded = (tt, (tt, tt));
    }
