use Rattle.px_parts.proofs.TextLemmas.{final_text-grows}
use Rattle.px_parts.proofs.laws.final_text_grows.Goals as goal

pub returns : goal.returns
returns c = final_text-grows
