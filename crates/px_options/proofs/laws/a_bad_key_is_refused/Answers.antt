use Rattle.px_options.proofs.LawLemmas.{bad_key_refused}
use Rattle.px_options.proofs.laws.a_bad_key_is_refused.Goals as goal

pub returns : goal.returns
returns c = bad_key_refused
