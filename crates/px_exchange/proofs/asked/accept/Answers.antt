use Rattle.std.proofs.Common.{rules}
use Rattle.px_message.proofs.RequestLemmas.{request_eq}
use Rattle.px_exchange.specs.Requests.{request_of}
use Rattle.px_exchange.proofs.asked.accept.Goals as goal

pub returns : goal.returns
returns c = λ not_connect.
    request_eq _ (request_of c.args.address c.args.head c.args.path not_connect)
    (search rules) (search rules) (search rules) (search rules) (search rules) (search rules) (search rules) (search rules) (search rules)
