use Rattle.std.proofs.Common.{refl}
use Rattle.px_draft.proofs.laws.no_change_is_the_flow.Goals as goal

pub returns : goal.returns
returns c = λ hook flow. refl
