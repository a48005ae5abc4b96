use Rattle.px_stream.proofs.StepLemmas.{goes_up_by}
use Rattle.px_stream.proofs.stream.Stream.go_up.Goals as goal

pub returns : goal.returns
returns c =
    goes_up_by c.pass_request.result c.args.self.now c.args.moment c.now-now.result.moment c.args.ready c.pass_request.new.at c.pass_request.new.requests c.pass_request.new.side
    c.args.out.now.items c.pass_request.new.out.items c.now-now.ensures.moment c.pass_request.ensures.goes
