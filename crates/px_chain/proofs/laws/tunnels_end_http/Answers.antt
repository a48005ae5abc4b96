use Rattle.px_chain.proofs.ConnectLaws.{connect_found, connect_there}
use Rattle.px_chain.proofs.laws.tunnels_end_http.Goals as goal

pub returns-clause-found : goal.returns-clause-found
returns-clause-found c = λ made at seen is. connect_found made at seen is

pub returns-clause-there : goal.returns-clause-there
returns-clause-there c = λ made at seen connect is. connect_there made at seen connect is
