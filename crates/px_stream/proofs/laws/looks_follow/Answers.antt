use Rattle.px_stream.proofs.LookLemmas.{advanced}
use Rattle.px_stream.proofs.laws.looks_follow.Goals as goal

pub returns : goal.returns
returns c = advanced
