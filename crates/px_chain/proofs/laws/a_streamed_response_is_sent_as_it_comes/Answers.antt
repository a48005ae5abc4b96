use Rattle.px_chain.proofs.ComingLaws.{asks_nothing, ends_silently, keeps_both, keeps_here, sent_as_it_comes, streams_here}
use Rattle.px_chain.proofs.laws.a_streamed_response_is_sent_as_it_comes.Goals as goal

pub returns-clause-sent : goal.returns-clause-sent
returns-clause-sent c = λ made at flow side how seen. sent_as_it_comes made at flow side how seen

pub returns-clause-streams : goal.returns-clause-streams
returns-clause-streams c = λ made at flow side how most seen is. streams_here made at flow side how most seen is

pub returns-clause-keeps : goal.returns-clause-keeps
returns-clause-keeps c = λ made at flow side most seen is. keeps_here made at flow side most seen is

pub returns-clause-keeps_both : goal.returns-clause-keeps_both
returns-clause-keeps_both c = λ made at flow side most seen is unfinished. keeps_both made at flow side most seen is unfinished

pub returns-clause-asks : goal.returns-clause-asks
returns-clause-asks c = λ made at flow side how seen ask is. asks_nothing made at flow side how seen ask is

pub returns-clause-ends : goal.returns-clause-ends
returns-clause-ends c = λ made at flow side how seen owed is. ends_silently made at flow side how seen owed is
