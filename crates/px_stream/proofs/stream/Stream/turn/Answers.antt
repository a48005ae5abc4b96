use Rattle.px_stream.proofs.StepLemmas.{turns_by}
use Rattle.px_stream.proofs.stream.Stream.turn.Goals as goal

pub returns : goal.returns
returns c =
    turns_by c.args.self.now (record c.args.self.now { at = c.turn.new.at; side = c.turn.new.side }) c.follow.new.self c.args.moment _ c.args.reply c.args.asked _ c.forget.new.at _ _ _ c.args.out.now.items _
    c.follow.result c.forget.ensures c.now-now.ensures.moment c.now-now.ensures.client c.now-now.ensures.parked c.is_dial-dialled.ensures c.in_ok-ready.ensures.gives c.in_ok-ready.ensures.leads
    c.in_ok-ready.ensures.side c.in_ok-ready.ensures.content c.in_ok-ready.ensures.held c.in_ok-ready.ensures.up
    c.follow.ensures.next c.follow.ensures.terms c.follow.ensures.at c.follow.ensures.client c.follow.ensures.requests c.follow.ensures.side
