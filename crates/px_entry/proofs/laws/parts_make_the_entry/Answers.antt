use Rattle.px_entry.proofs.PartLemmas.{parts_make}
use Rattle.px_entry.proofs.laws.parts_make_the_entry.Goals as goal

pub returns : goal.returns
returns c = parts_make
