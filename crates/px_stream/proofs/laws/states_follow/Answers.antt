use Rattle.px_stream.proofs.StateLaws.{awaits_what_it_asks, ends_where_it_ends}
use Rattle.px_stream.proofs.laws.states_follow.Goals as goal

pub returns-clause-awaits : goal.returns-clause-awaits
returns-clause-awaits c = awaits_what_it_asks

pub returns-clause-ends : goal.returns-clause-ends
returns-clause-ends c = ends_where_it_ends
