use Rattle.std.proofs.Common.{sym, ◌∙◌}
use Rattle.px_stack.specs.Stack.{visitor_of}
use Rattle.px_stack.proofs.AskingLemmas.{decided_asks, decided_resumed, over_resumed}
use Rattle.px_stack.proofs.stack.Stack.asking_answers.Goals as goal

pub returns-in-Some-clause-resumes : goal.returns-in-Some-clause-resumes
returns-in-Some-clause-resumes c =
    decided_resumed c.args.self.now.conv (visitor_of c.args.self.now) c.args.layer c.answer.new.self c.args.moment c.args.reply c.args.out.now.items c.answer.new.out.items
    c.requires.answers c.in_ok-answer.ensures.answers c.in-Some.tunnel c.opening_in.result c.empty.result c.decide.new.out.items c.decide.result
    (sym c.into_tunnel.ensures ∙ c.in-Some.is) c.opening_in.ensures c.empty.ensures c.decide.ensures.decides

pub returns-in-Some-clause-asks : goal.returns-in-Some-clause-asks
returns-in-Some-clause-asks c =
    decided_asks c.args.layer c.answer.new.self c.args.out.now.items c.answer.new.out.items c.decide.new.out.items c.decide.result
    c.in_ok-answer.ensures.left c.in_ok-answer.ensures.asks c.decide.ensures.asks

pub returns-in-None-clause-resumes : goal.returns-in-None-clause-resumes
returns-in-None-clause-resumes c =
    over_resumed c.args.self.now.conv (visitor_of c.args.self.now) c.args.layer c.answer.new.self c.args.moment c.args.reply c.args.out.now.items c.answer.new.out.items
    c.requires.answers c.in_ok-answer.ensures.answers (sym c.into_tunnel.ensures ∙ c.in-None.is)
