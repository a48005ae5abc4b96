use Rattle.std.proofs.lemmas.Result.{on_ok_weaker}
use Rattle.px_relay.proofs.ReplyLemmas.{drops_by, is_sent, sent_reply}
use Rattle.px_relay.proofs.layer.WsLayer.take_reply.Goals as goal

pub returns-in-Discard-clause-takes : goal.returns-in-Discard-clause-takes
returns-in-Discard-clause-takes c =
    drops_by c.discard.result c.args.held c.args.reply.now c.args.self.now c.discard.new.self c.args.out.now.items c.discard.new.out.items
    c.in-Discard.is c.discard.ensures.goes c.discard.ensures.rests

pub returns-in_default-clause-takes : goal.returns-in_default-clause-takes
returns-in_default-clause-takes c =
    on_ok_weaker c.pass_on.result
    (sent_reply c.args.held c.args.reply.now c.sent_payload.result.now c.args.self.now c.pass_on.new.self c.args.out.now.items c.pass_on.new.out.items
    (is_sent c.args.reply.now c.in_default.not-Kill c.in_default.not-Discard) c.sent_payload.ensures)
    c.pass_on.ensures.sends
