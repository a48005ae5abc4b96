use Rattle.px_parts.proofs.StreamedLemmas.{streamed-stays}
use Rattle.px_parts.proofs.laws.streamed_stays.Goals as goal

pub returns : goal.returns
returns c = streamed-stays
