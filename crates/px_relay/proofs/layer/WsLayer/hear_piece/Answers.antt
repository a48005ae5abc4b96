use Rattle.std.proofs.Common.{◌∙◌, subst, sym}
use Rattle.px_relay.specs.Stands.{HearsPiece}
use Rattle.px_relay.proofs.HearLemmas.{nothing_heard}
use Rattle.px_relay.proofs.layer.WsLayer.hear_piece.Goals as goal

pub returns-in-None-clause-hears : goal.returns-in-None-clause-hears
returns-in-None-clause-hears c =
    subst (λ p. HearsPiece p c.args.bytes.now c.args.self.now c.args.self.now c.args.out.now.items c.args.out.now.items) (sym c.in-None.is ∙ c.peer.ensures)
    (nothing_heard c.args.self.now c.args.bytes.now c.args.out.now.items)
