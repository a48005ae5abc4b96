use Rattle.std.proofs.Common.{◌≢◌, None, sym, subst, arith}
use Rattle.std.specs.Global.{Box}
use Rattle.std.specs.Box.{with_value}
use Rattle.px_relay.specs.declared.layer.WsLayer.{WsLayer}
use Rattle.px_relay.specs.Stands.{Answers, Somewhere, awaits}
use Rattle.px_relay.proofs.StandLemmas.{may_answer}
use Rattle.px_stack.proofs.SocketLemmas.{asks_so, left_so, less_somewhere, resumes_socket, socket_somewhere}
use Rattle.px_stack.proofs.socket.socket_resumes.Goals as goal

pub answer-requires-clause-somewhere : goal.answer-requires-clause-somewhere
answer-requires-clause-somewhere c =
    subst Somewhere (sym c.deref_mut.ensures.value) (socket_somewhere c.requires.somewhere.0 c.requires.somewhere.1 c.args.layer c.requires.somewhere.2)

pub answer-requires-clause-asked : goal.answer-requires-clause-asked
answer-requires-clause-asked c =
    let P : WsLayer → Type 0 = λ l. awaits l ≢ None in
    subst P (sym c.deref_mut.ensures.value) (may_answer c.args.layer.value c.args.reply.now c.requires.answers)

pub returns-clause-resumes : goal.returns-clause-resumes
returns-clause-resumes c =
    let after : Box WsLayer = with_value c.args.layer c.answer.new.self in
    let P : WsLayer → Type 0 = λ l. Answers c.args.moment c.args.reply.now l c.answer.new.self c.args.out.now.items c.answer.new.out.items in
    resumes_socket c.args.layer after c.args.moment c.args.reply.now c.args.out.now.items c.answer.new.out.items (subst P c.deref_mut.ensures.value c.in_ok-answer.ensures.answers)
    c.come_to.result c.come_to.ensures (may_answer c.args.layer.value c.args.reply.now c.requires.answers)

pub returns-clause-asks : goal.returns-clause-asks
returns-clause-asks c =
    asks_so (with_value c.args.layer c.answer.new.self) c.come_to.result c.come_to.ensures c.args.out.now.items c.answer.new.out.items c.in_ok-answer.ensures.asks

pub returns-clause-left : goal.returns-clause-left
returns-clause-left c =
    let after : Box WsLayer = with_value c.args.layer c.answer.new.self in
    let P : WsLayer → Type 0 = λ l. Answers c.args.moment c.args.reply.now l c.answer.new.self c.args.out.now.items c.answer.new.out.items in
    let left = left_so after c.come_to.result c.come_to.ensures in
    let less = less_somewhere c.args.layer after c.args.moment c.args.reply.now c.args.out.now.items c.answer.new.out.items
    (subst P c.deref_mut.ensures.value c.in_ok-answer.ensures.answers) c.requires.somewhere.0 c.requires.somewhere.1
    (may_answer c.args.layer.value c.args.reply.now c.requires.answers) c.requires.somewhere.2 in
    omega arith
