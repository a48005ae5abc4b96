use Rattle.std.proofs.Common.{◌∙◌, ◌++◌, sym, ap}
use Rattle.std.proofs.lemmas.Result.{on_ok_weaker}
use Rattle.px_socks.specs.declared.layer.SocksLayer.{SocksLayer}
use Rattle.px_socks.specs.Stands.{awaits_in, is_over}
use Rattle.px_socks.proofs.LayerLemmas.{advances_ask, hears_on}
use Rattle.px_socks.proofs.layer.SocksLayer.hear.Goals as goal

pub returns-clause-hears : goal.returns-clause-hears
returns-clause-hears c =
    on_ok_weaker c.advance.result
    (λ advances. hears_on c.args.event.now c.args.self.now c.add.new.self c.advance.new.self c.args.out.now.items c.advance.new.out.items
    (sym c.closes_client.ensures ∙ c.if-closes_client.false)
    (c.in_ok-add.ensures.added ∙ ap (λ piece. record c.args.self.now { unread = c.args.self.now.unread ++ piece }) c.client_piece.ensures)
    advances (sym c.is_over.ensures ∙ c.if-is_over.false))
    c.advance.ensures.advances

pub returns-clause-asks : goal.returns-clause-asks
returns-clause-asks c =
    let phase = ap (λ (s : SocksLayer). s.phase) c.in_ok-add.ensures.added in
    on_ok_weaker c.advance.result
    (advances_ask c.add.new.self c.advance.new.self c.args.out.now.items c.advance.new.out.items
    (ap is_over phase ∙ (sym c.is_over.ensures ∙ c.if-is_over.false)) (ap awaits_in phase ∙ c.requires.free))
    c.advance.ensures.advances
