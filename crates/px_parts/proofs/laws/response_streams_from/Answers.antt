use Rattle.px_parts.proofs.StreamedLemmas.{response-streams_from}
use Rattle.px_parts.proofs.laws.response_streams_from.Goals as goal

pub returns : goal.returns
returns c = response-streams_from
