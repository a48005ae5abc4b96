use Rattle.px_parts.proofs.StreamedLemmas.{place-stays}
use Rattle.px_parts.proofs.laws.place_stays.Goals as goal

pub returns : goal.returns
returns c = place-stays
