use Rattle.std.proofs.Common.{sym, ◌∙◌}
use Rattle.px_stream.proofs.PassingLemmas.{passes_by}
use Rattle.px_stream.proofs.stream.Stream.pass.Goals as goal

pub returns : goal.returns
returns c =
    passes_by c.args.self.now c.follow.new.self c.args.moment c.now-now.result.moment c.now-now.result.parked c.now-now.result.client_closed c.args.ready c.in_ok-next.next c.pass.new.at c.pass.new.side
    c.args.out.now.items c.pass.new.out.items c.now-now.ensures.moment c.now-now.ensures.parked c.now-now.ensures.client (sym c.is_passing.ensures ∙ c.if-not-is_passing.false) c.in_ok-next.ensures.passes
    c.follow.result c.follow.ensures.next c.follow.ensures.terms c.follow.ensures.at c.follow.ensures.client c.follow.ensures.requests c.follow.ensures.side
