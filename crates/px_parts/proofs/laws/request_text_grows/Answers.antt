use Rattle.px_parts.proofs.TextLemmas.{request_text-grows}
use Rattle.px_parts.proofs.laws.request_text_grows.Goals as goal

pub returns : goal.returns
returns c = request_text-grows
