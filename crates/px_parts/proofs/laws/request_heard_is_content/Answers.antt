use Rattle.px_parts.proofs.StreamedLemmas.{request-heard}
use Rattle.px_parts.proofs.laws.request_heard_is_content.Goals as goal

pub returns : goal.returns
returns c = request-heard
