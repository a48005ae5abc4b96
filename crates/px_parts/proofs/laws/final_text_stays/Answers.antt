use Rattle.px_parts.proofs.TextLemmas.{final_text-stays}
use Rattle.px_parts.proofs.laws.final_text_stays.Goals as goal

pub returns : goal.returns
returns c = final_text-stays
