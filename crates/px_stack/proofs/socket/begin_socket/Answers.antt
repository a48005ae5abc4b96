use Rattle.std.proofs.Common.{sym, subst, arith}
use Rattle.rand_chacha.specs.ChaCha.{key_of}
use Rattle.px_event.specs.Layer.{AsksOnly}
use Rattle.px_relay.specs.declared.layer.WsLayer.{WsLayer}
use Rattle.px_relay.specs.Stands.{BeginsWith, awaits}
use Rattle.px_stack.proofs.SocketLemmas.{asks_so, begun_left, begun_socket, left_so}
use Rattle.px_stack.proofs.socket.begin_socket.Goals as goal

pub returns-clause-begins : goal.returns-clause-begins
returns-clause-begins c =
    let P : WsLayer → Type 0 = λ l. BeginsWith c.args.moment c.args.sides.shut c.in_ok-layer.layer l c.args.out.now.items c.begin.new.out.items in
    begun_socket (key_of c.args.means.mask_key) c.args.moment c.args.sides c.args.rests c.args.flow c.in_ok-layer.layer c.in_ok-boxed.boxed
    c.args.out.now.items c.begin.new.out.items c.in_ok-layer.ensures.rests c.in_ok-layer.ensures.relaying (subst P (sym c.in_ok-boxed.ensures.ok) c.in_ok-begin.ensures.begins)
    c.come_to.result c.come_to.ensures

pub returns-clause-asks : goal.returns-clause-asks
returns-clause-asks c =
    let P : WsLayer → Type 0 = λ l. AsksOnly (awaits l) c.args.out.now.items c.begin.new.out.items in
    asks_so c.in_ok-boxed.boxed c.come_to.result c.come_to.ensures c.args.out.now.items c.begin.new.out.items
    (subst P (sym c.in_ok-boxed.ensures.ok) c.in_ok-begin.ensures.asks)

pub returns-clause-left : goal.returns-clause-left
returns-clause-left c =
    let P : WsLayer → Type 0 = λ l. BeginsWith c.args.moment c.args.sides.shut c.in_ok-layer.layer l c.args.out.now.items c.begin.new.out.items in
    let left = left_so c.in_ok-boxed.boxed c.come_to.result c.come_to.ensures in
    let most = begun_left (key_of c.args.means.mask_key) c.args.moment c.args.sides c.args.rests c.args.flow c.in_ok-layer.layer c.in_ok-boxed.boxed
    c.args.out.now.items c.begin.new.out.items c.in_ok-layer.ensures.rests c.in_ok-layer.ensures.relaying (subst P (sym c.in_ok-boxed.ensures.ok) c.in_ok-begin.ensures.begins) in
    omega arith
