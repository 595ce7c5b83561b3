-- `session_part::part` meets its contract.
use mathlib.Core.Logic.{inl, inr}
use mathlib.Core.Path.{refl, sym, ◌∙◌}
use Rattle.session.specs.Shown.{paper}
use Rattle.session_part.proofs.Laws.{part-handed, arm, no_part}
use Rattle.session_part.proofs.part.Goals as goal

pub returns-in-EntryV1 : goal.returns-in-EntryV1
unfolding paper
returns-in-EntryV1 c =
    let within = c.within-in-EntryV1.ensures in
    elim c.in-EntryV1.is [
      | inl e ↦ arm _ _ e.1 (within ∙ sym (part-handed _ _ _ _ (λ x. refl)))
      | inr f ↦ elim f [
        | inl e ↦ arm _ _ e.1 (within ∙ sym (part-handed _ _ _ _ (λ x. refl)))
        | inr e ↦ arm _ _ e (within ∙ sym (part-handed _ _ _ _ (λ x. refl)))
      ]
    ]

pub returns-in-Fail : goal.returns-in-Fail
unfolding paper
returns-in-Fail c = arm _ _ c.in-Fail.is (c.within.ensures ∙ sym (part-handed _ _ _ _ (λ x. refl)))

pub returns-in_default : goal.returns-in_default
returns-in_default c = let d = c.in_default in no_part _ _ c.args.a d.not-EntryV1 d.not-EntryV2 d.not-Chunk d.not-Fail
