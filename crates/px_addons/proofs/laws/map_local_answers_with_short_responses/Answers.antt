use Rattle.std.proofs.Common.{refl}
use Rattle.std.specs.Fmt.{digits}
use Rattle.px_addons.proofs.laws.map_local_answers_with_short_responses.Goals as goal

pub returns-clause-absent : goal.returns-clause-absent
unfolding digits
returns-clause-absent c = refl

pub returns-clause-failed : goal.returns-clause-failed
unfolding digits
returns-clause-failed c = refl
