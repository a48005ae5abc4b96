use Rattle.px_view.proofs.LineLemmas.{are_whole}
use Rattle.px_view.proofs.laws.lines_are_whole.Goals as goal

pub returns : goal.returns
returns c = are_whole
