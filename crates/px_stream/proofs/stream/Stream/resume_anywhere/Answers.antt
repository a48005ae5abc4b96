use Rattle.std.proofs.Common.{arith}
use Rattle.std.proofs.lemmas.Result.{on_ok_weaker}
use Rattle.px_stream.specs.Stands.{awaits}
use Rattle.px_stream.proofs.CallLemmas.{few_asked, is_awaited, may_turn, resume_somewhere, resume_somewhere_asks, resume_somewhere_left, taken_answer, turn_taken}
use Rattle.px_stream.proofs.stream.Stream.resume_anywhere.Goals as goal

pub take_asked-asked-requires : goal.take_asked-asked-requires
take_asked-asked-requires c = is_awaited (awaits c.args.self.now) c.args.reply c.requires.answers

pub turn-requires-clause-few : goal.turn-requires-clause-few
turn-requires-clause-few c = (few_asked c.args.self.now c.take_asked-asked.result c.take_asked-asked.ensures c.requires.somewhere).few

pub turn-requires-clause-dials : goal.turn-requires-clause-dials
turn-requires-clause-dials c =
    let few = few_asked c.args.self.now c.take_asked-asked.result c.take_asked-asked.ensures c.requires.somewhere in
    let f = few.few in
    let d = few.dials in
    omega arith

pub advance-requires-clause-goes_up : goal.advance-requires-clause-goes_up
advance-requires-clause-goes_up c = (may_turn c.args.self.now c.args.moment c.args.reply c.take_asked-asked.result c.take_asked-asked.ensures c.requires.somewhere c.turn.new.self c.in_ok-ready.ready c.args.out.now.items c.turn.new.out.items
    (turn_taken c.args.self.now c.turn.new.self _ c.args.moment c.args.reply c.take_asked-asked.result c.in_ok-ready.ready c.args.out.now.items c.turn.new.out.items c.in_ok-ready.ensures)).goes_up

pub advance-requires-clause-passes : goal.advance-requires-clause-passes
advance-requires-clause-passes c = (may_turn c.args.self.now c.args.moment c.args.reply c.take_asked-asked.result c.take_asked-asked.ensures c.requires.somewhere c.turn.new.self c.in_ok-ready.ready c.args.out.now.items c.turn.new.out.items
    (turn_taken c.args.self.now c.turn.new.self _ c.args.moment c.args.reply c.take_asked-asked.result c.in_ok-ready.ready c.args.out.now.items c.turn.new.out.items c.in_ok-ready.ensures)).passes

pub advance-requires-clause-looks : goal.advance-requires-clause-looks
advance-requires-clause-looks c = (may_turn c.args.self.now c.args.moment c.args.reply c.take_asked-asked.result c.take_asked-asked.ensures c.requires.somewhere c.turn.new.self c.in_ok-ready.ready c.args.out.now.items c.turn.new.out.items
    (turn_taken c.args.self.now c.turn.new.self _ c.args.moment c.args.reply c.take_asked-asked.result c.in_ok-ready.ready c.args.out.now.items c.turn.new.out.items c.in_ok-ready.ensures)).looks

pub returns-clause-resumes : goal.returns-clause-resumes
returns-clause-resumes c = on_ok_weaker c.advance.result
    (λ once. resume_somewhere c.args.self.now c.args.moment c.args.reply c.take_asked-asked.result c.take_asked-asked.ensures c.advance.new.self c.args.out.now.items c.advance.new.out.items
    (taken_answer c.args.self.now _ c.turn.new.self c.advance.new.self c.args.moment c.args.reply c.take_asked-asked.result c.in_ok-ready.ready c.args.out.now.items c.turn.new.out.items c.advance.new.out.items c.in_ok-ready.ensures once) c.requires.somewhere) c.advance.ensures

pub returns-clause-asks : goal.returns-clause-asks
returns-clause-asks c = on_ok_weaker c.advance.result
    (λ once. resume_somewhere_asks c.args.self.now c.args.moment c.args.reply c.take_asked-asked.result c.take_asked-asked.ensures c.advance.new.self c.args.out.now.items c.advance.new.out.items
    (taken_answer c.args.self.now _ c.turn.new.self c.advance.new.self c.args.moment c.args.reply c.take_asked-asked.result c.in_ok-ready.ready c.args.out.now.items c.turn.new.out.items c.advance.new.out.items c.in_ok-ready.ensures once) c.requires.somewhere) c.advance.ensures

pub returns-clause-left : goal.returns-clause-left
returns-clause-left c = on_ok_weaker c.advance.result
    (λ once. resume_somewhere_left c.args.self.now c.args.moment c.args.reply c.take_asked-asked.result c.take_asked-asked.ensures c.advance.new.self c.args.out.now.items c.advance.new.out.items
    (taken_answer c.args.self.now _ c.turn.new.self c.advance.new.self c.args.moment c.args.reply c.take_asked-asked.result c.in_ok-ready.ready c.args.out.now.items c.turn.new.out.items c.advance.new.out.items c.in_ok-ready.ensures once) c.requires.somewhere) c.advance.ensures
