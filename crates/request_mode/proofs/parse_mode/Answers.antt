-- `request_mode::parse_mode` meets its contract.
use mathlib.Core.Path.{sym, ap, ◌∙◌}
use native.Mathlib.Omega.{arith}
use Rattle.protocol.specs.Digits.{spelled}
use Rattle.protocol.proofs.Bytes.{end_whole}
use Rattle.protocol.proofs.Modes.{mode-decimal, mode-octal, mode-long}
use Rattle.request_mode.proofs.parse_mode.Goals as goal

pub returns-then-text-lt2 : goal.returns-then-text-lt2
returns-then-text-lt2 c = c.parse_u32.ensures ∙ sym (mode-decimal _ (λ h e. grind arith))

pub returns-then-text-gt-MAX_MODE : goal.returns-then-text-gt-MAX_MODE
returns-then-text-gt-MAX_MODE c = sym (mode-long _ c.if-text-gt-MAX_MODE.true c.if-text-ne48.false)

pub returns : goal.returns
returns c =
    let text = c.args.text.now in
    c.parse_digits.ensures
    ∙ ap (spelled 8 0) (end_whole text 1 (omega arith))
    ∙ sym (mode-octal text (omega arith) c.if-text-ne48.false c.if-text-gt-MAX_MODE.false)
