use Rattle.px_stack.proofs.TellLemmas.{told_decided, told_over}
use Rattle.px_stack.proofs.stack.Stack.tell.Goals as goal
use Rattle.px_stack.specs.Stack.{visitor_of}

pub returns-then-closed-clause-tells : goal.returns-then-closed-clause-tells
returns-then-closed-clause-tells c =
    told_over c.args.self.now.conv (visitor_of c.args.self.now) c.args.opening c.args.server c.args.rest c.args.closed c.args.moment c.args.out.now.items c.send.new.out.items
    c.close_server.new.out.items c.in_ok-connected_text.field-0 c.in_ok-connected_text.ensures c.in_ok-send.ensures c.if-closed.true c.in_ok-close_server.ensures

pub returns-clause-tells : goal.returns-clause-tells
returns-clause-tells c =
    told_decided c.args.self.now.conv (visitor_of c.args.self.now) c.args.opening c.args.server c.args.rest c.args.closed c.args.moment c.args.out.now.items c.send.new.out.items
    c.decide.new.out.items c.in_ok-connected_text.field-0 c.in_ok-connected_text.ensures c.in_ok-send.ensures c.if-closed.false c.decide.result c.decide.ensures.decides
