use Rattle.std.proofs.Common.{ap, sym, ◌∙◌, subst, arith}
use Rattle.std.specs.Global.{Box}
use Rattle.std.specs.Box.{with_value}
use Rattle.px_relay.specs.declared.layer.WsLayer.{WsLayer}
use Rattle.px_relay.specs.Stands.{HearsEvent, Somewhere, awaits}
use Rattle.px_stack.proofs.SocketLemmas.{asks_so, fewer_somewhere, left_so, socket_somewhere, takes_socket}
use Rattle.px_stack.proofs.socket.socket_takes.Goals as goal

pub hear-requires-clause-somewhere : goal.hear-requires-clause-somewhere
hear-requires-clause-somewhere c =
    subst Somewhere (sym c.deref_mut.ensures.value) (socket_somewhere c.requires.somewhere.0 c.requires.somewhere.1 c.args.layer c.requires.somewhere.2)

pub hear-requires-clause-free : goal.hear-requires-clause-free
hear-requires-clause-free c = ap awaits c.deref_mut.ensures.value ∙ c.requires.free

pub returns-clause-takes : goal.returns-clause-takes
returns-clause-takes c =
    let after : Box WsLayer = with_value c.args.layer c.hear.new.self in
    let P : WsLayer → Type 0 = λ l. HearsEvent c.args.moment c.args.event.now l c.hear.new.self c.args.out.now.items c.hear.new.out.items in
    takes_socket c.args.layer after c.args.moment c.args.event.now c.args.out.now.items c.hear.new.out.items (subst P c.deref_mut.ensures.value c.in_ok-hear.ensures.hears)
    c.come_to.result c.come_to.ensures c.requires.free

pub returns-clause-asks : goal.returns-clause-asks
returns-clause-asks c =
    asks_so (with_value c.args.layer c.hear.new.self) c.come_to.result c.come_to.ensures c.args.out.now.items c.hear.new.out.items c.in_ok-hear.ensures.asks

pub returns-clause-left : goal.returns-clause-left
returns-clause-left c =
    let after : Box WsLayer = with_value c.args.layer c.hear.new.self in
    let P : WsLayer → Type 0 = λ l. HearsEvent c.args.moment c.args.event.now l c.hear.new.self c.args.out.now.items c.hear.new.out.items in
    let left = left_so after c.come_to.result c.come_to.ensures in
    let fewer = fewer_somewhere c.args.layer after c.args.moment c.args.event.now c.args.out.now.items c.hear.new.out.items (subst P c.deref_mut.ensures.value c.in_ok-hear.ensures.hears)
    c.requires.somewhere.0 c.requires.somewhere.1 c.requires.free c.requires.somewhere.2 in
    omega arith
