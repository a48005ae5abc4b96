use Rattle.px_view.proofs.LineLemmas.{little_kept}
use Rattle.px_view.proofs.laws.little_is_kept.Goals as goal

pub returns : goal.returns
returns c = little_kept
