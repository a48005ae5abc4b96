use Rattle.px_http.specs.Stands.{ahead_of}
use Rattle.px_http.proofs.conversation.HttpConv.outcome.Goals as goal

pub returns-clause-of_walk : goal.returns-clause-of_walk
returns-clause-of_walk c = λ made moves given stands. c.outcome.ensures.of_walk made.stream.terms (ahead_of made.stream.at) _ _ stands.place
