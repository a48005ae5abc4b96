use Rattle.std.proofs.lemmas.Result.{on_ok_weaker}
use Rattle.px_resend.proofs.JoinedLemmas.{client_after, client_goes, client_sound, resent_after, resent_goes, resent_sound}
use Rattle.px_resend.proofs.conversation.ConversationLayer.resume.Goals as goal

pub resume-requires-clause-sound : goal.resume-requires-clause-sound
resume-requires-clause-sound g c = client_sound g.L.Layer.stands c.args.self.now c.in-Client.layer c.in-Client.is c.requires.sound

pub returns-in-Client-clause-goes : goal.returns-in-Client-clause-goes
returns-in-Client-clause-goes g c = on_ok_weaker c.resume.result
    (client_goes g.L.Layer.stands c.args.self.now c.in-Client.layer c.resume.new.self _ c.args.out.now.items c.resume.new.out.items c.in-Client.is)
    c.resume.ensures.goes

pub returns-in-Client-clause-sound : goal.returns-in-Client-clause-sound
returns-in-Client-clause-sound g c = on_ok_weaker c.resume.result (client_after g.L.Layer.stands c.resume.new.self) c.resume.ensures.sound

pub resume-requires-in-Resent-clause-sound : goal.resume-requires-in-Resent-clause-sound
resume-requires-in-Resent-clause-sound g c = resent_sound g.L.Layer.stands c.args.self.now c.in-Resent.resent c.in-Resent.is c.requires.sound

pub returns-in-Resent-clause-goes : goal.returns-in-Resent-clause-goes
returns-in-Resent-clause-goes g c = on_ok_weaker c.resume-in-Resent.result
    (resent_goes g.L.Layer.stands c.args.self.now c.in-Resent.resent c.resume-in-Resent.new.self _ c.args.out.now.items c.resume-in-Resent.new.out.items c.in-Resent.is)
    c.resume-in-Resent.ensures.goes

pub returns-in-Resent-clause-sound : goal.returns-in-Resent-clause-sound
returns-in-Resent-clause-sound g c = on_ok_weaker c.resume-in-Resent.result (resent_after g.L.Layer.stands c.resume-in-Resent.new.self) c.resume-in-Resent.ensures.sound
