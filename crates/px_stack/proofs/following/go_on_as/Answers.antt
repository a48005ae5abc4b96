use Rattle.std.proofs.Common.{sym, ◌∙◌}
use Rattle.rand_chacha.specs.ChaCha.{key_of}
use Rattle.px_stack.proofs.OpenedLemmas.{relay_asks}
use Rattle.px_stack.proofs.SocketLemmas.{goes_on_raw, goes_on_socket}
use Rattle.px_stack.proofs.following.go_on_as.Goals as goal

pub returns-then-is_websocket-clause-follows : goal.returns-then-is_websocket-clause-follows
returns-then-is_websocket-clause-follows c =
    goes_on_socket (key_of c.args.means.mask_key) c.args.moment c.args.sides c.args.rests c.args.flow c.args.out.now.items c.begin_socket.new.out.items c.begin_socket.result
    (sym c.is_websocket.ensures ∙ c.if-is_websocket.true) c.begin_socket.ensures.begins

pub returns-clause-follows : goal.returns-clause-follows
returns-clause-follows c =
    goes_on_raw (key_of c.args.means.mask_key) c.args.moment c.args.sides c.args.rests c.args.flow c.args.out.now.items c.begin_relay.new.out.items c.begin_relay.result
    (sym c.is_websocket.ensures ∙ c.if-is_websocket.false) c.begin_relay.ensures.relays

pub returns-clause-asks : goal.returns-clause-asks
returns-clause-asks c = relay_asks c.args.out.now.items c.begin_relay.new.out.items c.begin_relay.result c.begin_relay.ensures.asks
