use Rattle.std.proofs.lemmas.Result.{on_ok_weaker}
use Rattle.px_stream.proofs.AnywhereLemmas.{goes_on_asks, goes_on_left, goes_on_looks, goes_on_passes, goes_on_up, goes_on_with}
use Rattle.px_stream.proofs.stream.Stream.go_on_with.Goals as goal

pub advance-requires-clause-goes_up : goal.advance-requires-clause-goes_up
advance-requires-clause-goes_up c = goes_on_up c.args.self.now c.args.moment c.args.flow c.behind.result c.behind.ensures c.requires.new c.wanted_for.result (c.wanted_for.ensures c.args.self.now.at)

pub advance-requires-clause-passes : goal.advance-requires-clause-passes
advance-requires-clause-passes c = goes_on_passes c.args.self.now c.args.moment c.args.flow c.behind.result c.behind.ensures c.requires.new c.wanted_for.result (c.wanted_for.ensures c.args.self.now.at)

pub advance-requires-clause-looks : goal.advance-requires-clause-looks
advance-requires-clause-looks c = λ none. goes_on_looks c.args.self.now c.args.moment c.args.flow c.behind.result c.behind.ensures c.requires.new c.wanted_for.result (c.wanted_for.ensures c.args.self.now.at)

pub returns-clause-goes_on : goal.returns-clause-goes_on
returns-clause-goes_on c = on_ok_weaker c.advance.result
    (goes_on_with c.args.self.now c.args.moment c.args.flow c.behind.result c.behind.ensures c.requires.new c.wanted_for.result (c.wanted_for.ensures c.args.self.now.at) c.advance.new.self c.args.out.now.items c.advance.new.out.items) c.advance.ensures

pub returns-clause-asks : goal.returns-clause-asks
returns-clause-asks c = on_ok_weaker c.advance.result
    (goes_on_asks c.args.self.now c.args.moment c.args.flow c.behind.result c.behind.ensures c.requires.new c.wanted_for.result (c.wanted_for.ensures c.args.self.now.at) c.advance.new.self c.args.out.now.items c.advance.new.out.items) c.advance.ensures

pub returns-clause-left : goal.returns-clause-left
returns-clause-left c = on_ok_weaker c.advance.result
    (goes_on_left c.args.self.now c.args.moment c.args.flow c.behind.result c.behind.ensures c.requires.new c.wanted_for.result (c.wanted_for.ensures c.args.self.now.at) c.advance.new.self c.args.out.now.items c.advance.new.out.items) c.advance.ensures
