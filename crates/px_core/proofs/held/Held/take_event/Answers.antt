use Rattle.std.proofs.Common.{refl}
use Rattle.px_core.proofs.ResultLemmas.{goes_from_empty, asks_while_from_empty, named_from_empty}
use Rattle.px_core.proofs.HearLemmas.{gives_event, ready_event}
use Rattle.px_core.proofs.held.Held.take_event.Goals as goal

pub returns-clause-named : goal.returns-clause-named
returns-clause-named g c = named_from_empty _ _ _ _ c.new-commands.ensures.items c.requires.number c.in_ok-take.ensures.names

pub returns-clause-gives : goal.returns-clause-gives
returns-clause-gives g c =
    gives_event g.C.Conversation.stands g.C.Conversation.awaited c.args.call.conv _ c.args.self.now.conversation _ _ _ refl (returns-clause-named g c)
    (goes_from_empty g.C.Conversation.stands _ _ _ _ _ c.new-commands.ensures.items (c.in_ok-take.ensures.goes c.requires.news))
    (asks_while_from_empty _ _ _ _ c.new-commands.ensures.items (c.in_ok-take.ensures.asks c.requires.news))

pub returns-clause-ready : goal.returns-clause-ready
returns-clause-ready g c =
    ready_event g.C.Conversation.awaited c.args.self.now (record { conversation = c.take.new.self; connected = c.args.self.now.connected; draft = c.args.self.now.draft; marks = c.args.self.now.marks }) _ _ refl c.requires.settled refl
    (asks_while_from_empty _ _ _ _ c.new-commands.ensures.items (c.in_ok-take.ensures.asks c.requires.news))
