use Rattle.px_parts.proofs.FieldLemmas.{length-framing}
use Rattle.px_parts.proofs.laws.length_is_framing.Goals as goal

pub returns : goal.returns
returns c = length-framing
