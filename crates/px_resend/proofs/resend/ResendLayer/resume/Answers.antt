use Rattle.px_event.specs.Layer.{Replied}
use Rattle.px_event.proofs.Steps.{sound_after}
use Rattle.px_resend.specs.Stands.{ResendStands}
use Rattle.px_resend.proofs.ResendLemmas.{asked, resumed, with_child}
use Rattle.px_resend.proofs.resend.ResendLayer.resume.Goals as goal

pub returns-clause-goes : goal.returns-clause-goes
returns-clause-goes c =
    resumed c.args.self.now c.replace-child.result c.in_ok-next.next c.replace.new.dest c.args.moment c.args.reply c.args.out.now.items c.answer.new.out.items
    c.replace-child.ensures.value c.replace.ensures.after c.in_ok-next.ensures.resumes

pub returns-clause-sound : goal.returns-clause-sound
returns-clause-sound c =
    sound_after ResendStands c.args.self.now (with_child c.args.self.now c.replace.new.dest) (Replied c.args.moment c.args.reply) c.args.out.now.items c.answer.new.out.items c.requires.sound
    (resumed c.args.self.now c.replace-child.result c.in_ok-next.next c.replace.new.dest c.args.moment c.args.reply c.args.out.now.items c.answer.new.out.items
    c.replace-child.ensures.value c.replace.ensures.after c.in_ok-next.ensures.resumes)

pub returns-clause-asks : goal.returns-clause-asks
returns-clause-asks c = asked c.replace.new.dest c.in_ok-next.next c.args.out.now.items c.answer.new.out.items c.replace.ensures.after c.in_ok-next.ensures.asks
