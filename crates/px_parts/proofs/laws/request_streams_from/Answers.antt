use Rattle.px_parts.proofs.StreamedLemmas.{request-streams_from}
use Rattle.px_parts.proofs.laws.request_streams_from.Goals as goal

pub returns : goal.returns
returns c = request-streams_from
