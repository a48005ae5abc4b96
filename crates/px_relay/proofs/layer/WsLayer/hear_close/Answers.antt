use Rattle.std.proofs.Common.{◌∙◌, Some, ap, subst, sym}
use Rattle.px_relay.specs.Stands.{HearsClose}
use Rattle.px_relay.proofs.HearLemmas.{client_close_heard, no_close, server_close_heard}
use Rattle.px_relay.proofs.layer.WsLayer.hear_close.Goals as goal

pub returns-in-Some-Client-clause-hears : goal.returns-in-Some-Client-clause-hears
returns-in-Some-Client-clause-hears c =
    client_close_heard c.come_to_rest.result _ c.args.self.now c.come_to_rest.new.self c.args.out.now.items c.come_to_rest.new.out.items
    (sym c.peer.ensures ∙ (c.in-Some-Client.is ∙ ap Some c.in-Some-Client.field-0-is)) c.come_to_rest.ensures.comes c.come_to_rest.ensures.rests

pub returns-in-Some-Server-clause-hears : goal.returns-in-Some-Server-clause-hears
returns-in-Some-Server-clause-hears c =
    server_close_heard c.come_to_rest-in-Some-Server.result _ c.args.self.now c.come_to_rest-in-Some-Server.new.self c.args.out.now.items
    c.come_to_rest-in-Some-Server.new.out.items (sym c.peer.ensures ∙ (c.in-Some-Server.is ∙ ap Some c.in-Some-Server.field-0-is))
    c.come_to_rest-in-Some-Server.ensures.comes c.come_to_rest-in-Some-Server.ensures.rests

pub returns-in-None-clause-hears : goal.returns-in-None-clause-hears
returns-in-None-clause-hears c =
    subst (λ p. HearsClose p c.args.self.now c.args.self.now c.args.out.now.items c.args.out.now.items) (sym c.in-None.is ∙ c.peer.ensures)
    (no_close c.args.self.now c.args.out.now.items)
