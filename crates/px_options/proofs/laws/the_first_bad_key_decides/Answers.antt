use Rattle.px_options.proofs.LawLemmas.{first_bad_decides}
use Rattle.px_options.proofs.laws.the_first_bad_key_decides.Goals as goal

pub returns : goal.returns
returns c = first_bad_decides
