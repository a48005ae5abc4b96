use Rattle.px_write.proofs.PlainLemmas.{trailers-plain}
use Rattle.px_write.proofs.read_back.plain_trailers_stand.Goals as goal

pub returns : goal.returns
returns c plain short fields framed = trailers-plain c.args.trailers.now c.fields_are_valid.ensures plain short
