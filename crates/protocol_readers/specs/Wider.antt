-- Demand 3's comparison of two plain readers: A, and B with more capacity and more bytes to come.
-- Assumes nothing.
use Rattle.std.specs.Prelude.{ℕ, zero, suc, ◌≤◌, ◌<◌, true, List, [], ◌∷◌, ◌⊎◌, ◌≡◌, length, take, get_or}
use Rattle.std.proofs.Math.Option.{Option}
use Rattle.protocol.specs.Answers.{Answer, End, done, fail, number}
use Rattle.protocol.specs.Bytes.{has}
use Rattle.protocol.specs.Calls.{Made}
use Rattle.protocol.specs.Hours.{Hours}
use Rattle.protocol.specs.Reader.{Config, config_after, plain_made}

-- the same, with capacity d
abbrev pub widen : ℕ → Config → Config
widen d g = record { setting = g.setting; capacity = d; close = g.close }

-- the answer is 12, 13 or 17
abbrev pub Stops : Answer → Type 0
Stops a = has (number a) (12 ∷ 13 ∷ 17 ∷ []) ≡ true

-- "Before A's first answer 12, 13 or 17": none of the answers 0 to k is one
abbrev pub Unstopped : List Answer → ℕ → Type 0
Unstopped s k = (j : ℕ) → j ≤ k → Stops (get_or s j done) → ⊥

-- what is unread before the k-th call, counted from 0, all writes accepted
unfoldable pub unread_at : Option Hours → Config → End → List Made → List ℕ → ℕ → List ℕ
unread_at h g e ms u zero = u
unread_at h g e [] u (suc k) = u
unread_at h g e (m ∷ ms) u (suc k) = unread_at h (config_after g m.call) e ms (plain_made h g e m u).unread k

-- "Only where A's FAIL text is cut": its length l is over A's capacity c. Both answer 14, A's text has c bytes, and B's begins with it.
pub record Cut (c l : ℕ) (a b : Answer) : Type 0 where
  pub over : c < l
  pub text : List ℕ
  pub longer : List ℕ
  pub A_fails : a ≡ fail text
  pub B_fails : b ≡ fail longer
  pub begins : text ≡ take c longer
  pub full : length text ≡ c

-- "B gives A's answers", or A's text is cut
abbrev pub Like : ℕ → ℕ → Answer → Answer → Type 0
Like c l a b = (a ≡ b) ⊎ Cut c l a b
