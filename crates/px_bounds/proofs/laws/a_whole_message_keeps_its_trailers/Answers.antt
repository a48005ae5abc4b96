use Rattle.px_bounds.proofs.TrailerLemmas.{whole_few}
use Rattle.px_bounds.proofs.laws.a_whole_message_keeps_its_trailers.Goals as goal

pub returns : goal.returns
returns c = whole_few
