use Rattle.px_replay.proofs.RunLemmas.{used_where_given}
use Rattle.px_replay.proofs.laws.a_place_is_used_where_an_ask_got_it.Goals as goal

pub returns : goal.returns
returns c how reuse extra flows asked place within = used_where_given how reuse extra flows asked place within
