use Rattle.std.proofs.Common.{refl}
use Rattle.std.proofs.lemmas.Result.{on_ok_weaker}
use Rattle.px_gate.proofs.GateLaws.{resume_goes, resume_asks, goes_sound}
use Rattle.px_gate.proofs.gate.Gate.resume.Goals as goal

pub returns-clause-goes : goal.returns-clause-goes
returns-clause-goes g c = on_ok_weaker c.work_off.result
    (λ works. resume_goes g.L.Layer.stands g.L.Layer.awaited c.args.self.now (record { layer = c.resume.new.self; queue = c.args.self.now.queue }) c.work_off.new.self
    c.args.moment c.args.reply c.args.out.now.items c.resume.new.out.items c.work_off.new.out.items refl c.requires.answers c.in_ok-resume.ensures.goes works)
    c.work_off.ensures.works

pub returns-clause-sound : goal.returns-clause-sound
returns-clause-sound g c = on_ok_weaker c.work_off.result
    (goes_sound g.L.Layer.stands g.L.Layer.awaited c.args.self.now c.work_off.new.self _ _ _ c.requires.sound)
    (returns-clause-goes g c)

pub returns-clause-asks : goal.returns-clause-asks
returns-clause-asks g c = on_ok_weaker c.work_off.result
    (resume_asks g.L.Layer.stands g.L.Layer.awaited c.resume.new.self c.work_off.new.self.layer c.args.out.now.items c.resume.new.out.items c.work_off.new.out.items c.in_ok-resume.ensures.asks)
    c.work_off.ensures.asks
