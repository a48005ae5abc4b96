use Rattle.std.proofs.Common.{◌∙◌, sym}
use Rattle.px_relay.proofs.HearLemmas.{answered_hears, begun_hears, close_hears, piece_hears, relaying_phase}
use Rattle.px_relay.proofs.layer.WsLayer.hear_event.Goals as goal

pub returns-in-Begun-clause-hears : goal.returns-in-Begun-clause-hears
returns-in-Begun-clause-hears c =
    begun_hears c.args.moment c.args.event.now c.args.self.now c.open.new.self c.args.out.now.items c.open.new.out.items c.open.result c.in-Begun.is
    (relaying_phase c.args.self.now.flow c.args.self.now.phase c.requires.free (sym c.has_ended.ensures ∙ c.if-has_ended.false)) c.open.ensures.opens

pub returns-in-Piece-clause-hears : goal.returns-in-Piece-clause-hears
returns-in-Piece-clause-hears c =
    piece_hears c.args.moment c.args.event.now c.args.self.now c.hear_piece.new.self c.args.out.now.items c.hear_piece.new.out.items c.hear_piece.result c.in-Piece.side
    c.in-Piece.bytes c.in-Piece.is (relaying_phase c.args.self.now.flow c.args.self.now.phase c.requires.free (sym c.has_ended.ensures ∙ c.if-has_ended.false))
    c.hear_piece.ensures.hears

pub returns-in-Closed-clause-hears : goal.returns-in-Closed-clause-hears
returns-in-Closed-clause-hears c =
    close_hears c.args.moment c.args.event.now c.args.self.now c.hear_close.new.self c.args.out.now.items c.hear_close.new.out.items c.hear_close.result c.in-Closed.side
    c.in-Closed.is (relaying_phase c.args.self.now.flow c.args.self.now.phase c.requires.free (sym c.has_ended.ensures ∙ c.if-has_ended.false))
    c.hear_close.ensures.hears

pub returns-in-Answered-clause-hears : goal.returns-in-Answered-clause-hears
returns-in-Answered-clause-hears c =
    answered_hears c.args.moment c.args.event.now c.in-Answered.ask c.in-Answered.reply c.args.self.now c.args.out.now.items c.in-Answered.is
    (relaying_phase c.args.self.now.flow c.args.self.now.phase c.requires.free (sym c.has_ended.ensures ∙ c.if-has_ended.false))
