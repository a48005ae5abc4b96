use Rattle.px_http.specs.Stands.{ahead_of}
use Rattle.px_http.proofs.conversation.HttpConv.into_rests.Goals as goal

pub returns-clause-behind : goal.returns-clause-behind
returns-clause-behind c made moves given stands = c.into_rests.ensures.behind made.stream.terms (ahead_of made.stream.at) _ _ stands.place
