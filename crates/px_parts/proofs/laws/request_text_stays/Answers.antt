use Rattle.px_parts.proofs.TextLemmas.{request_text-stays}
use Rattle.px_parts.proofs.laws.request_text_stays.Goals as goal

pub returns : goal.returns
returns c = request_text-stays
