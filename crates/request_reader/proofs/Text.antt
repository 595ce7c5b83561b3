-- A SEND's text: the path up to its last comma, and the mode behind it. Assumes nothing.
use Prim.Native.Nat.{ℕ, suc, ◌+◌, ◌-◌, ◌≤◌, ◌<◌}
use mathlib.Core.Bool.{Bool, true, false}
use mathlib.Core.List.{List, ◌∷◌}
use mathlib.Core.Option.{Option, none, some}
use mathlib.Core.Path.{◌≡◌, refl, ap, ◌∙◌}
use native.Mathlib.Omega.{arith}
use lib.ListN.{length, take, drop, length-append, length-take, length-drop}
use lib.Seq.{take-take}
use Rattle.protocol.specs.Bytes.{pick}
use Rattle.protocol.specs.Ids.{published}
use Rattle.protocol.specs.Messages.{send}
use Rattle.protocol.specs.Modes.{mode_in}
use Rattle.protocol.specs.Records.{header_size}
use Rattle.protocol.specs.Requests.{Read, refused, request, bad_path, last_comma, unless_bad, with_mode, at_comma}
use Rattle.protocol.proofs.Bodies.{comma-there}
use Rattle.request_reader.specs.Meaning.{mode_after, send_of}

-- a SEND's text, by what its mode comes to
abbrev sent : List ℕ → ℕ → Option ℕ → Read
sent p size none = refused
sent p size (some m) = request (send p m) size

mode-tests : (p : List ℕ) (size : ℕ) (o : Option ℕ) → with_mode published p size o ≡ sent p size (pick (bad_path published p) none o)
mode-tests p size none = go (bad_path published p)
  where
    go : (bad : Bool) → refused ≡ sent p size (pick bad none none)
    go true = refl
    go false = refl
mode-tests p size (some m) = go (bad_path published p)
  where
    go : (bad : Bool) → unless_bad bad (send p m) size ≡ sent p size (pick bad none (some m))
    go true = refl
    go false = refl

pub text-sent : (b : List ℕ) (k : ℕ) (o : Option ℕ) → last_comma b ≡ some k → mode_after b k ≡ o → send_of b ≡ sent (take k b) (header_size + length b) o
unfolding mode_after
text-sent b k o c e = ap (at_comma published b) c ∙ mode-tests (take k b) (header_size + length b) (mode_in (drop (suc k) b)) ∙ ap (sent (take k b) (header_size + length b)) e

pub comma-within : (b : List ℕ) (k : ℕ) → last_comma b ≡ some k → k < length b
comma-within b k e = omega (arith, ap length (comma-there b k e), length-append (take k b) (44 ∷ drop (suc k) b), length-take k b, length-drop (suc k) b)

-- the text of a SEND of `size` bytes: where it stands, and how long it is
module _ (s : List ℕ) (size : ℕ) (low : 8 ≤ size) (high : size ≤ length s) where
  pub text-size : header_size + length (take (size - 8) (drop header_size s)) ≡ size
  text-size = omega (arith, length-take (size - 8) (drop header_size s), length-drop header_size s)

  pub text_path : (k : ℕ) → k < length (take (size - 8) (drop header_size s)) → take k (take (size - 8) (drop header_size s)) ≡ take k (drop header_size s)
  text_path k h = take-take k (size - 8) (drop header_size s) (omega (arith, text-size))
