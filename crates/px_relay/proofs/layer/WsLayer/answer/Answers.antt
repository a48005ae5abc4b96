use Rattle.std.proofs.Common.{◌∙◌, sym}
use Rattle.std.proofs.lemmas.Result.{on_ok_weaker}
use Rattle.px_relay.proofs.AskLemmas.{answer_asks, answer_somewhere}
use Rattle.px_relay.proofs.ReplyLemmas.{answers_taken}
use Rattle.px_relay.proofs.StandLemmas.{holding_client, holding_server}
use Rattle.px_relay.proofs.layer.WsLayer.answer.Goals as goal

pub take_reply-requires-clause-client : goal.take_reply-requires-clause-client
take_reply-requires-clause-client c =
    holding_client c.args.self.now c.in-Holding.held c.requires.somewhere (sym c.replace.ensures.value ∙ c.in-Holding.is)

pub take_reply-requires-clause-server : goal.take_reply-requires-clause-server
take_reply-requires-clause-server c =
    holding_server c.args.self.now c.in-Holding.held c.requires.somewhere (sym c.replace.ensures.value ∙ c.in-Holding.is)

pub returns-clause-answers : goal.returns-clause-answers
returns-clause-answers c =
    answers_taken c.take_reply.result c.args.moment c.args.reply.now c.in-Holding.held c.args.self.now c.take_reply.new.self c.replace.new.dest c.args.out.now.items
    c.take_reply.new.out.items (sym c.replace.ensures.value ∙ c.in-Holding.is) c.replace.ensures.after c.take_reply.ensures.takes

pub returns-clause-asks : goal.returns-clause-asks
returns-clause-asks c =
    let phase = sym c.replace.ensures.value ∙ c.in-Holding.is in
    on_ok_weaker c.take_reply.result
    (λ answers. answer_asks c.args.moment c.args.reply.now c.in-Holding.held c.args.self.now c.take_reply.new.self c.args.out.now.items c.take_reply.new.out.items
    c.requires.somewhere phase answers)
    (answers_taken c.take_reply.result c.args.moment c.args.reply.now c.in-Holding.held c.args.self.now c.take_reply.new.self c.replace.new.dest c.args.out.now.items
    c.take_reply.new.out.items phase c.replace.ensures.after c.take_reply.ensures.takes)

pub returns-clause-somewhere : goal.returns-clause-somewhere
returns-clause-somewhere c =
    let phase = sym c.replace.ensures.value ∙ c.in-Holding.is in
    on_ok_weaker c.take_reply.result
    (λ answers. answer_somewhere c.args.moment c.args.reply.now c.in-Holding.held c.args.self.now c.take_reply.new.self c.args.out.now.items c.take_reply.new.out.items
    c.requires.somewhere phase answers)
    (answers_taken c.take_reply.result c.args.moment c.args.reply.now c.in-Holding.held c.args.self.now c.take_reply.new.self c.replace.new.dest c.args.out.now.items
    c.take_reply.new.out.items phase c.replace.ensures.after c.take_reply.ensures.takes)
