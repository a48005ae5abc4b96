use Rattle.px_parts.proofs.TextLemmas.{left-added}
use Rattle.px_parts.proofs.laws.left_is_added.Goals as goal

pub returns : goal.returns
returns c = left-added
