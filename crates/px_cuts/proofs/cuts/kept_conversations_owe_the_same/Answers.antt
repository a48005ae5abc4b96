use Rattle.px_cuts.proofs.KeptLaws.{kept_owe}
use Rattle.px_cuts.proofs.cuts.kept_conversations_owe_the_same.Goals as goal

pub returns : goal.returns
returns c = λ onward made start events replies none. kept_owe onward made start events replies none
