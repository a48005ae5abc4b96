use Rattle.std.proofs.Common.{refl, inl}
use Rattle.px_core.proofs.ResultLemmas.{goes_from_empty, asks_from_empty, named_from_empty, goes_moved}
use Rattle.px_core.proofs.HearLemmas.{gives_end}
use Rattle.px_core.proofs.held.Held.take_end.Goals as goal

pub returns-clause-named : goal.returns-clause-named
returns-clause-named g c = named_from_empty _ _ _ _ c.new-commands.ensures.items c.requires.number c.in_ok-take.ensures.names

pub returns-clause-gives : goal.returns-clause-gives
returns-clause-gives g c =
    gives_end g.C.Conversation.stands g.C.Conversation.awaited c.args.call.conv _ c.args.server c.args.self.now.conversation _ _ c.requires.awaited (returns-clause-named g c)
    (goes_moved g.C.Conversation.stands _ _ _ _ _ _ c.end_of_dial-reply.ensures.reply
    (goes_from_empty g.C.Conversation.stands _ _ _ _ _ c.new-commands.ensures.items (c.in_ok-take.ensures.answered _ _ refl c.requires.awaited)))
    (asks_from_empty _ _ _ c.new-commands.ensures.items (c.in_ok-take.ensures.answer_asks _ _ refl c.requires.awaited))

pub returns-clause-ready : goal.returns-clause-ready
returns-clause-ready g c = inl (asks_from_empty _ _ _ c.new-commands.ensures.items (c.in_ok-take.ensures.answer_asks _ _ refl c.requires.awaited))
