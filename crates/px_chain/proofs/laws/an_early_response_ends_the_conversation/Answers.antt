use Rattle.px_chain.proofs.EarlyLaws.{begun_ends, kept_ends, kept_says, none_follows, streamed_ends, whole_first}
use Rattle.px_chain.proofs.laws.an_early_response_ends_the_conversation.Goals as goal

pub returns-clause-kept : goal.returns-clause-kept
returns-clause-kept c = λ made at flow side most seen answer. kept_ends made at flow side most seen answer

pub returns-clause-said : goal.returns-clause-said
returns-clause-said c = λ made at flow side most seen answer head body trailers used asked response there given goes. kept_says made at flow side most seen answer head body trailers used asked response there given goes

pub returns-clause-streamed : goal.returns-clause-streamed
returns-clause-streamed c = λ made at flow side seen came unfinished there. streamed_ends made at flow side seen came unfinished there

pub returns-clause-begun : goal.returns-clause-begun
returns-clause-begun c = λ made at flow side most seen came streams unfinished there. begun_ends made at flow side most seen came streams unfinished there

pub returns-clause-last : goal.returns-clause-last
returns-clause-last c = λ made at other flow doing side seen up unfinished is. none_follows made at other flow doing side seen up unfinished is

pub returns-clause-whole : goal.returns-clause-whole
returns-clause-whole c = λ made at flow doing side seen size up is. whole_first made at flow doing side seen size up is
