use Rattle.px_parts.proofs.KeptLemmas.{response-little}
use Rattle.px_parts.proofs.laws.response_keeps_little.Goals as goal

pub returns : goal.returns
returns c = response-little
