use Rattle.px_view.proofs.LineLemmas.{cut_free}
use Rattle.px_view.proofs.laws.lines_are_cut_free.Goals as goal

pub returns : goal.returns
returns c = cut_free
