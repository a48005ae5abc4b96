use Rattle.std.proofs.lemmas.Result.{on_ok_weaker}
use Rattle.px_resend.proofs.JoinedLemmas.{client_after, client_goes, client_sound, resent_after, resent_goes, resent_sound}
use Rattle.px_resend.proofs.conversation.ConversationLayer.take.Goals as goal

pub take-requires-clause-sound : goal.take-requires-clause-sound
take-requires-clause-sound g c = client_sound g.L.Layer.stands c.args.self.now c.in-Client.layer c.in-Client.is c.requires.sound

pub returns-in-Client-clause-goes : goal.returns-in-Client-clause-goes
returns-in-Client-clause-goes g c = on_ok_weaker c.take.result
    (client_goes g.L.Layer.stands c.args.self.now c.in-Client.layer c.take.new.self _ c.args.out.now.items c.take.new.out.items c.in-Client.is)
    c.take.ensures.goes

pub returns-in-Client-clause-sound : goal.returns-in-Client-clause-sound
returns-in-Client-clause-sound g c = on_ok_weaker c.take.result (client_after g.L.Layer.stands c.take.new.self) c.take.ensures.sound

pub take-requires-in-Resent-clause-sound : goal.take-requires-in-Resent-clause-sound
take-requires-in-Resent-clause-sound g c = resent_sound g.L.Layer.stands c.args.self.now c.in-Resent.resent c.in-Resent.is c.requires.sound

pub returns-in-Resent-clause-goes : goal.returns-in-Resent-clause-goes
returns-in-Resent-clause-goes g c = on_ok_weaker c.take-in-Resent.result
    (resent_goes g.L.Layer.stands c.args.self.now c.in-Resent.resent c.take-in-Resent.new.self _ c.args.out.now.items c.take-in-Resent.new.out.items c.in-Resent.is)
    c.take-in-Resent.ensures.goes

pub returns-in-Resent-clause-sound : goal.returns-in-Resent-clause-sound
returns-in-Resent-clause-sound g c = on_ok_weaker c.take-in-Resent.result (resent_after g.L.Layer.stands c.take-in-Resent.new.self) c.take-in-Resent.ensures.sound
