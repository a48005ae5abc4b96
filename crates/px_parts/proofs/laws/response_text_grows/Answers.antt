use Rattle.px_parts.proofs.TextLemmas.{response_text-grows}
use Rattle.px_parts.proofs.laws.response_text_grows.Goals as goal

pub returns : goal.returns
returns c = response_text-grows
