use Rattle.px_chain.proofs.UpLaws.{body_not_asked, goes_as_it_comes, goes_up_here, stays_here}
use Rattle.px_chain.proofs.laws.a_streamed_request_is_sent_as_it_comes.Goals as goal

pub returns-clause-sent : goal.returns-clause-sent
returns-clause-sent c = λ made at flow doing server seen is. goes_as_it_comes made at flow doing server seen is

pub returns-clause-streams : goal.returns-clause-streams
returns-clause-streams c = λ made at flow most seen is. goes_up_here made at flow most seen is

pub returns-clause-keeps : goal.returns-clause-keeps
returns-clause-keeps c = λ made at flow most seen is. stays_here made at flow most seen is

pub returns-clause-asks : goal.returns-clause-asks
returns-clause-asks c = λ made at flow asked doing seen up is. body_not_asked made at flow asked doing seen up is
