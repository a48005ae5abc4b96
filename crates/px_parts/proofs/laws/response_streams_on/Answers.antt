use Rattle.px_parts.proofs.StreamedLemmas.{response-streams_on}
use Rattle.px_parts.proofs.laws.response_streams_on.Goals as goal

pub returns : goal.returns
returns c = response-streams_on
