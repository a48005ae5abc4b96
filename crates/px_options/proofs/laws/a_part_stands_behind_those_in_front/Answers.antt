use Rattle.px_options.proofs.ShownLemmas.{part_stands}
use Rattle.px_options.proofs.laws.a_part_stands_behind_those_in_front.Goals as goal

pub returns : goal.returns
returns c = part_stands
