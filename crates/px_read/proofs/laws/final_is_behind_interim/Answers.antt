use Rattle.px_read.proofs.WholeLemmas.{final-behind}
use Rattle.px_read.proofs.laws.final_is_behind_interim.Goals as goal

pub returns : goal.returns
returns c = final-behind
