-- Functions on a record that do what an engine does, and tell the reads that the account has. An engine made of them, whatever it keeps of a crossing, is a
-- layer.
-- Assumes nothing.
use Prim.Native.Nat.{ℕ, ◌+◌, ◌≤◌, ◌<◌}
use mathlib.Core.Bool.{false}
use mathlib.Core.List.{List}
use mathlib.Core.Path.{◌≡◌, ap}
use lib.ListN.{length}
use Rattle.protocol.specs.Answers.{Answer, End}
use Rattle.protocol.specs.Bytes.{pick}
use Rattle.protocol.specs.Calls.{Made}
use Rattle.record.specs.Record.{word_of}
use Rattle.recv_buf.specs.RecvBuf.{cursor, held_bytes}
use Rattle.session.specs.Host.{Show, told, read, Spare, Step, Engine}
use Rattle.session_layer.specs.Layer.{asked, Writes, Asks, tells_refusal, Account, starting, reading, writing, under, Alike, Layer}
use Rattle.boundary.specs.Boundary.{end_kind, end_code, step_of}
use Rattle.boundary.specs.Crossing.{Crossed}
use Rattle.totals.specs.Card.{count_in}
use Rattle.totals.specs.System.{Functions, step_by, start_by, engine_by}

-- an answer carries the reads that the account has, a refusal none
abbrev pub Tells : Account → Show → Crossed → Type 0
Tells l sh c = (Asks sh → ⊥) → count_in c ≡ pick (tells_refusal sh) 0 l.reads

-- K l sh rec x: with the account l, and sh last asked or told, the record stands for E's session x
module _ {X : Type 0} (K : Account → Show → List ℕ → X → Type 0) where
  -- the crossing c is E's step s
  pub record Crosses (l : Account) (c : Crossed) (s : Step X) : Type 0 where
    pub step : step_of c ≡ under c.rec s
    pub keeps : K l s.show c.rec s.x
    pub tells : Tells l s.show c

  pub record Follows (limit : ℕ) (fs : Functions) (E : Engine X) (lends : Spare → Type 0) : Type 0 where
    pub holds : (l : Account) (sh : Show) (rec : List ℕ) (x : X) → K l sh rec x → (rx : List ℕ) → held_bytes rx (cursor (word_of rec 2) (word_of rec 3)) ≡ E.holds x rx
    pub tail : (l : Account) (sh : Show) (rec : List ℕ) (x : X) → K l sh rec x → word_of rec 3 ≡ E.tail x
    pub start : (l : Account) (a : Answer) (rec : List ℕ) (x : X) → K l (told a) rec x → (rx msg : List ℕ) (m : Made) (z : Spare) → lends z
        → Crosses (starting (E.start x rx msg m z).show l) (start_by fs rec rx msg m z) (E.start x rx msg m z)
    pub on_read : (l : Account) (at len : ℕ) (rec : List ℕ) (x : X) → K l (read at len) rec x → (rx msg lent : List ℕ) (k : ℕ) (z : Spare) → lends z
        → 0 < k → k ≤ len → k ≤ length l.left → tells_refusal (E.on_read x rx msg lent k z).show ≡ false
        → Crosses (reading k l) (fs.read rec rx msg lent k z.out) (E.on_read x rx msg lent k z)
    pub on_wrote : (l : Account) (sh : Show) (rec : List ℕ) (x : X) → K l sh rec x → Writes sh → l.written + asked sh < limit → (rx msg lent : List ℕ) (z : Spare) → lends z
        → tells_refusal (E.on_wrote x rx msg lent z).show ≡ false → Crosses (writing (asked sh) l) (fs.wrote rec rx msg lent z.out) (E.on_wrote x rx msg lent z)
    pub on_fault : (l : Account) (sh : Show) (rec : List ℕ) (x : X) → K l sh rec x → Asks sh → (rx msg lent : List ℕ) (e : End) (z : Spare) → lends z
        → tells_refusal (E.on_fault x rx msg lent e z).show ≡ false → Crosses l (fs.fault rec rx msg lent (end_kind z e) (end_code z e) z.out) (E.on_fault x rx msg lent e z)

  -- an engine's relation has the record's in it, and follows from that and the reads in the reply
  module _ (limit : ℕ) (fs : Functions) (E : Engine X) (lends : Spare → Type 0) (f : Follows limit fs E lends)
      {Y : Type 0} (record_in : Y → List ℕ) (keeping : Crossed → Y) (R : Account → Show → Y → X → Type 0)
      (finds : (l : Account) (sh : Show) (y : Y) (x : X) → R l sh y x → K l sh (record_in y) x)
      (makes : (l : Account) (sh : Show) (c : Crossed) (x : X) → K l sh c.rec x → Tells l sh c → R l sh (keeping c) x) where
    alike : (l : Account) (c : Crossed) (s : Step X) → Crosses l c s → Alike R l (step_by keeping c) s
    alike l c s x = (keeping c, (ap (under (keeping c)) x.step, makes l s.show c s.x x.keeps x.tells))

    pub engine-layer : Layer limit (engine_by fs record_in keeping) E lends R
    engine-layer =
        record {
          holds = λ l sh y x r rx. f.holds l sh (record_in y) x (finds l sh y x r) rx;
          tail = λ l sh y x r. f.tail l sh (record_in y) x (finds l sh y x r);
          start = λ l a y x r rx msg m z ok. alike _ _ (E.start x rx msg m z) (f.start l a (record_in y) x (finds l (told a) y x r) rx msg m z ok);
          on_read = λ l at len y x r rx msg lent k z ok p q b n.
              alike _ _ (E.on_read x rx msg lent k z) (f.on_read l at len (record_in y) x (finds l (read at len) y x r) rx msg lent k z ok p q b n);
          on_wrote = λ l sh y x r w b rx msg lent z ok n. alike _ _ (E.on_wrote x rx msg lent z) (f.on_wrote l sh (record_in y) x (finds l sh y x r) w b rx msg lent z ok n);
          on_fault = λ l sh y x r w rx msg lent e z ok n. alike _ _ (E.on_fault x rx msg lent e z) (f.on_fault l sh (record_in y) x (finds l sh y x r) w rx msg lent e z ok n);
        }
