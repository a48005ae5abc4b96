use Rattle.px_stream.proofs.PassesLemmas.{passes_follow}
use Rattle.px_stream.proofs.laws.passes_follow.Goals as goal

pub returns : goal.returns
returns c = passes_follow
