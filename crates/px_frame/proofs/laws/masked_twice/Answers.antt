use Rattle.px_frame.proofs.MaskLemmas.{under_key_twice}
use Rattle.px_frame.proofs.laws.masked_twice.Goals as goal

pub returns : goal.returns
returns c = under_key_twice
