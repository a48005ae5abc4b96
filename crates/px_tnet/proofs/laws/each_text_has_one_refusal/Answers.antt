use Rattle.px_tnet.specs.Items.{most_deep}
use Rattle.px_tnet.proofs.OneLemmas.{one_cause}
use Rattle.px_tnet.proofs.laws.each_text_has_one_refusal.Goals as goal

pub returns : goal.returns
returns c = one_cause most_deep
