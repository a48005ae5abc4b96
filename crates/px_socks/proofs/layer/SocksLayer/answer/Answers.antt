use Rattle.std.proofs.lemmas.Result.{on_ok_weaker}
use Rattle.px_event.specs.declared.reply.Reply.TheVariants.{Dialled}
use Rattle.px_socks.proofs.LayerLemmas.{answers_ask, opens_left}
use Rattle.px_socks.proofs.layer.SocksLayer.answer.Goals as goal

pub returns-in-Dialled-clause-asks : goal.returns-in-Dialled-clause-asks
returns-in-Dialled-clause-asks c =
    on_ok_weaker c.open.result (answers_ask Dialled c.args.self.now c.open.new.self c.args.out.now.items c.open.new.out.items c.requires.asked) c.open.ensures.opens

pub returns-in-Dialled-clause-left : goal.returns-in-Dialled-clause-left
returns-in-Dialled-clause-left c =
    on_ok_weaker c.open.result (opens_left c.args.self.now c.open.new.self c.args.out.now.items c.open.new.out.items c.requires.asked) c.open.ensures.opens
