use Rattle.px_parts.proofs.KeptLemmas.{request-little}
use Rattle.px_parts.proofs.laws.request_keeps_little.Goals as goal

pub returns : goal.returns
returns c = request-little
