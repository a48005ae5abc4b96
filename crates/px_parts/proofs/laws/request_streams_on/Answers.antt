use Rattle.px_parts.proofs.StreamedLemmas.{request-streams_on}
use Rattle.px_parts.proofs.laws.request_streams_on.Goals as goal

pub returns : goal.returns
returns c = request-streams_on
