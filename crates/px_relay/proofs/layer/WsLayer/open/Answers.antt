use Rattle.std.proofs.Common.{ℕ, List, OnOk, subst}
use Rattle.px_relay.specs.declared.peer.Peer.TheVariants.{Client}
use Rattle.px_relay.specs.Stands.{GoesOn}
use Rattle.px_relay.proofs.HearLemmas.{opens_taken}
use Rattle.px_relay.proofs.layer.WsLayer.open.Goals as goal

pub returns-clause-opens : goal.returns-clause-opens
returns-clause-opens c =
    opens_taken c.go_on.result c.args.shut c.args.self.now c.take_rests-client.new.self c.go_on.new.self c.take_rests-client.result c.hear.new.self
    c.as_slice.result.now c.left-left.result c.args.out.now.items c.go_on.new.out.items c.take_rests-client.ensures.state c.take_rests-client.ensures.value
    c.as_slice.ensures c.left-left.ensures c.in_ok-hear.ensures.hears
    (subst (λ (l : List ℕ). OnOk c.go_on.result (GoesOn Client (record c.take_rests-client.new.self { pending = l; client = c.hear.new.self }) c.go_on.new.self
    c.args.out.now.items c.go_on.new.out.items)) c.lone.ensures c.go_on.ensures.goes)
    c.go_on.ensures.rests
