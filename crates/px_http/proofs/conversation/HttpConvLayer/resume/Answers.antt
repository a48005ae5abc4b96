use Rattle.std.proofs.lemmas.Result.{on_ok_weaker}
use Rattle.px_event.specs.Layer.{Replied}
use Rattle.px_event.proofs.Steps.{sound_after}
use Rattle.px_http.specs.Stands.{HttpStands, somewhere}
use Rattle.px_http.specs.declared.conversation.HttpConv.{HttpConv}
use Rattle.px_http.proofs.CallLemmas.{resume_goes_on}
use Rattle.px_http.proofs.conversation.HttpConvLayer.resume.Goals as goal

pub resume_anywhere-requires-clause-somewhere : goal.resume_anywhere-requires-clause-somewhere
resume_anywhere-requires-clause-somewhere c = somewhere c.args.self.now c.requires.sound

pub resume_anywhere-requires-clause-answers : goal.resume_anywhere-requires-clause-answers
resume_anywhere-requires-clause-answers c = c.requires.answers

pub returns-clause-goes : goal.returns-clause-goes
returns-clause-goes c = on_ok_weaker c.resume_anywhere.result
    (resume_goes_on c.args.self.now (record { stream = c.resume_anywhere.new.self }) c.args.moment c.args.reply c.args.out.now.items c.resume_anywhere.new.out.items) c.resume_anywhere.ensures.resumes

pub returns-clause-sound : goal.returns-clause-sound
returns-clause-sound c =
    let after : HttpConv = record { stream = c.resume_anywhere.new.self } in
    on_ok_weaker c.resume_anywhere.result
    (λ call. sound_after HttpStands c.args.self.now after (Replied c.args.moment c.args.reply) c.args.out.now.items c.resume_anywhere.new.out.items c.requires.sound
    (resume_goes_on c.args.self.now after c.args.moment c.args.reply c.args.out.now.items c.resume_anywhere.new.out.items call)) c.resume_anywhere.ensures.resumes

pub returns-clause-asks : goal.returns-clause-asks
returns-clause-asks c = c.resume_anywhere.ensures.asks

pub returns-clause-left : goal.returns-clause-left
returns-clause-left c = c.resume_anywhere.ensures.left
