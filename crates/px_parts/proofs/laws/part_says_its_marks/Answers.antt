use Rattle.px_parts.proofs.GivenLemmas.{part-says}
use Rattle.px_parts.proofs.laws.part_says_its_marks.Goals as goal

pub returns : goal.returns
returns c = part-says
