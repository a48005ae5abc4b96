use Rattle.px_text.proofs.NumberLemmas.{IsUtf8-from_IsNumber}
use Rattle.px_text.proofs.number.read_number.Goals as goal

pub returns-in_default : goal.returns-in_default
returns-in_default c = λ h. c.in_default.ensures.cases.0 (IsUtf8-from_IsNumber _ _ c.requires.high h)
