use Rattle.px_draft.proofs.LineLemmas.{refused_behind}
use Rattle.px_draft.proofs.laws.refusal_changes_nothing.Goals as goal

pub returns : goal.returns
returns c = refused_behind
