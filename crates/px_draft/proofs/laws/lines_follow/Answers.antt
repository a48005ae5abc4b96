use Rattle.px_draft.proofs.LineLemmas.{lines_follow}
use Rattle.px_draft.proofs.laws.lines_follow.Goals as goal

pub returns : goal.returns
returns c = lines_follow
