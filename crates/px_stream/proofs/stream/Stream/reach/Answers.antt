use Rattle.std.proofs.Common.{arith}
use Rattle.std.proofs.lemmas.Result.{on_ok_weaker}
use Rattle.px_stream.proofs.CallLemmas.{few_asked, turn_taken}
use Rattle.px_stream.proofs.WaitLemmas.{dial_awaited, reach_asks, reach_goes, reach_left, reach_looks, reach_passes, reach_unshut, reach_up}
use Rattle.px_stream.proofs.stream.Stream.reach.Goals as goal

pub take_asked-asked-requires : goal.take_asked-asked-requires
take_asked-asked-requires c = dial_awaited c.args.self.now.phase c.requires.waits

pub turn-requires-clause-few : goal.turn-requires-clause-few
turn-requires-clause-few c = (few_asked c.args.self.now c.take_asked-asked.result c.take_asked-asked.ensures c.requires.somewhere).few

pub turn-requires-clause-dials : goal.turn-requires-clause-dials
turn-requires-clause-dials c =
    let few = few_asked c.args.self.now c.take_asked-asked.result c.take_asked-asked.ensures c.requires.somewhere in
    let f = few.few in
    let d = few.dials in
    omega arith

pub feed-requires : goal.feed-requires
feed-requires c = reach_unshut c.args.self.now c.turn.new.self c.args.moment c.take_asked-asked.result c.in_ok-ready.ready c.args.out.now.items c.turn.new.out.items c.requires.waits c.take_asked-asked.ensures
    (turn_taken c.args.self.now c.turn.new.self _ c.args.moment _ c.take_asked-asked.result c.in_ok-ready.ready c.args.out.now.items c.turn.new.out.items c.in_ok-ready.ensures) c.requires.somewhere

pub advance-requires-clause-goes_up : goal.advance-requires-clause-goes_up
advance-requires-clause-goes_up c = reach_up c.args.self.now c.turn.new.self c.args.moment c.take_asked-asked.result c.in_ok-ready.ready c.args.out.now.items c.turn.new.out.items c.requires.waits c.take_asked-asked.ensures
    (turn_taken c.args.self.now c.turn.new.self _ c.args.moment _ c.take_asked-asked.result c.in_ok-ready.ready c.args.out.now.items c.turn.new.out.items c.in_ok-ready.ensures)
    c.feed.new.side c.args.rest.now c.in-Ok.ensures c.requires.somewhere

pub advance-requires-clause-passes : goal.advance-requires-clause-passes
advance-requires-clause-passes c = reach_passes c.args.self.now c.turn.new.self c.args.moment c.take_asked-asked.result c.in_ok-ready.ready c.args.out.now.items c.turn.new.out.items c.requires.waits c.take_asked-asked.ensures
    (turn_taken c.args.self.now c.turn.new.self _ c.args.moment _ c.take_asked-asked.result c.in_ok-ready.ready c.args.out.now.items c.turn.new.out.items c.in_ok-ready.ensures)
    c.feed.new.side c.args.rest.now c.in-Ok.ensures c.requires.somewhere

pub advance-requires-clause-looks : goal.advance-requires-clause-looks
advance-requires-clause-looks c = λ none. reach_looks c.args.self.now c.turn.new.self c.args.moment c.take_asked-asked.result c.in_ok-ready.ready c.args.out.now.items c.turn.new.out.items c.requires.waits c.take_asked-asked.ensures
    (turn_taken c.args.self.now c.turn.new.self _ c.args.moment _ c.take_asked-asked.result c.in_ok-ready.ready c.args.out.now.items c.turn.new.out.items c.in_ok-ready.ensures)
    c.feed.new.side c.args.rest.now c.in-Ok.ensures c.requires.somewhere

pub returns-in-Ok-clause-reaches : goal.returns-in-Ok-clause-reaches
returns-in-Ok-clause-reaches c = on_ok_weaker c.advance.result
    (λ once. reach_goes c.args.self.now c.turn.new.self c.args.moment c.take_asked-asked.result c.in_ok-ready.ready c.args.out.now.items c.turn.new.out.items c.requires.waits c.take_asked-asked.ensures
    (turn_taken c.args.self.now c.turn.new.self _ c.args.moment _ c.take_asked-asked.result c.in_ok-ready.ready c.args.out.now.items c.turn.new.out.items c.in_ok-ready.ensures)
    c.feed.new.side c.args.rest.now c.in-Ok.ensures c.advance.new.self c.advance.new.out.items once c.requires.somewhere) c.advance.ensures

pub returns-in-Ok-clause-asks : goal.returns-in-Ok-clause-asks
returns-in-Ok-clause-asks c = on_ok_weaker c.advance.result
    (λ once. reach_asks c.args.self.now c.turn.new.self c.args.moment c.take_asked-asked.result c.in_ok-ready.ready c.args.out.now.items c.turn.new.out.items c.requires.waits c.take_asked-asked.ensures
    (turn_taken c.args.self.now c.turn.new.self _ c.args.moment _ c.take_asked-asked.result c.in_ok-ready.ready c.args.out.now.items c.turn.new.out.items c.in_ok-ready.ensures)
    c.feed.new.side c.args.rest.now c.in-Ok.ensures c.advance.new.self c.advance.new.out.items once c.requires.somewhere) c.advance.ensures

pub returns-in-Ok-clause-left : goal.returns-in-Ok-clause-left
returns-in-Ok-clause-left c = on_ok_weaker c.advance.result
    (λ once. reach_left c.args.self.now c.turn.new.self c.args.moment c.take_asked-asked.result c.in_ok-ready.ready c.args.out.now.items c.turn.new.out.items c.requires.waits c.take_asked-asked.ensures
    (turn_taken c.args.self.now c.turn.new.self _ c.args.moment _ c.take_asked-asked.result c.in_ok-ready.ready c.args.out.now.items c.turn.new.out.items c.in_ok-ready.ensures)
    c.feed.new.side c.args.rest.now c.in-Ok.ensures c.advance.new.self c.advance.new.out.items once c.requires.somewhere) c.advance.ensures
