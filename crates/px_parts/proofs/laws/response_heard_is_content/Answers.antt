use Rattle.px_parts.proofs.StreamedLemmas.{response-heard}
use Rattle.px_parts.proofs.laws.response_heard_is_content.Goals as goal

pub returns : goal.returns
returns c = response-heard
