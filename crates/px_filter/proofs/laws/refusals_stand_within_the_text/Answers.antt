use Rattle.px_filter.proofs.PlaceLemmas.{refused_within}
use Rattle.px_filter.proofs.laws.refusals_stand_within_the_text.Goals as goal

pub returns : goal.returns
returns c = refused_within
