use Rattle.std.proofs.Common.{sym, ◌∙◌}
use Rattle.px_stack.proofs.AskLemmas.{asked_resumed, told_resumed}
use Rattle.px_stack.proofs.stack.Stack.connected.Goals as goal
use Rattle.px_stack.specs.Stack.{visitor_of}

pub returns-then-is_some-clause-resumes : goal.returns-then-is_some-clause-resumes
returns-then-is_some-clause-resumes c =
    asked_resumed c.args.self.now.conv (visitor_of c.args.self.now) c.args.opening c.args.closed c.args.moment c.args.out.now.items c.ask_for.new.out.items
    (sym c.is_some.ensures ∙ c.if-is_some.true) c.ask_for.result c.ask_for.ensures.asked

pub returns-clause-resumes : goal.returns-clause-resumes
returns-clause-resumes c =
    told_resumed c.args.self.now.conv (visitor_of c.args.self.now) c.args.opening c.args.closed c.args.moment c.args.out.now.items c.tell.new.out.items
    c.empty.result c.empty.ensures (sym c.is_some.ensures ∙ c.if-is_some.false) c.tell.result c.tell.ensures.tells
