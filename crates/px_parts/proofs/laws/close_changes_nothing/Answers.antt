use Rattle.px_parts.proofs.StreamedLemmas.{close-nothing}
use Rattle.px_parts.proofs.laws.close_changes_nothing.Goals as goal

pub returns : goal.returns
returns c = close-nothing
