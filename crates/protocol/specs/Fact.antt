-- A fact from outside: what the definitions compute beside what a public document says. A table of facts is a list of them, and its
-- proof shows that the two columns are equal by computing both.
-- Assumes nothing.
use Rattle.std.specs.Prelude.{List, map, ◌≡◌}

pub record Fact (A : Type 0) : Type 0 where
  pub computed : A
  pub paper : A

-- every row holds
abbrev pub Hold : {A : Type 0} → List (Fact A) → Type 0
Hold {A} facts = map (λ (f : Fact A). f.computed) facts ≡ map (λ (f : Fact A). f.paper) facts
