use Rattle.px_options.proofs.LawLemmas.{says_none, says_one}
use Rattle.px_options.proofs.laws.bytes_say_one_thing.Goals as goal

pub returns-clause-one : goal.returns-clause-one
returns-clause-one c = says_one

pub returns-clause-none : goal.returns-clause-none
returns-clause-none c = says_none
