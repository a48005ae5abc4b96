use Rattle.px_parts.proofs.TextLemmas.{response_text-stays}
use Rattle.px_parts.proofs.laws.response_text_stays.Goals as goal

pub returns : goal.returns
returns c = response_text-stays
