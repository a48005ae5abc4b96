use Rattle.std.proofs.Common.{refl, sym, ◌∙◌}
use Rattle.std.proofs.lemmas.Result.{on_ok_weaker}
use Rattle.px_gate.proofs.GateLaws.{take_waits, take_at_once, goes_sound}
use Rattle.px_gate.proofs.gate.Gate.take.Goals as goal

pub returns-in_ok-push_back-in-Some-clause-goes : goal.returns-in_ok-push_back-in-Some-clause-goes
returns-in_ok-push_back-in-Some-clause-goes g c =
    take_waits g.L.Layer.stands g.L.Layer.awaited c.args.self.now _ c.args.moment c.args.event c.in-Some.field-0 c.args.out.now.items refl c.in_ok-push_back-in-Some.ensures.items (sym c.waiting.ensures ∙ c.in-Some.is) c.requires.news

pub returns-in_ok-push_back-in-Some-clause-sound : goal.returns-in_ok-push_back-in-Some-clause-sound
returns-in_ok-push_back-in-Some-clause-sound g c =
    goes_sound g.L.Layer.stands g.L.Layer.awaited c.args.self.now _ _ _ _ c.requires.sound (returns-in_ok-push_back-in-Some-clause-goes g c)

pub returns-in-None-clause-goes : goal.returns-in-None-clause-goes
returns-in-None-clause-goes g c = on_ok_weaker c.take.result
    (take_at_once g.L.Layer.stands g.L.Layer.awaited c.args.self.now (record { layer = c.take.new.self; queue = c.args.self.now.queue }) c.args.moment c.args.event c.args.out.now.items c.take.new.out.items refl (sym c.waiting.ensures ∙ c.in-None.is))
    c.take.ensures.goes

pub returns-in-None-clause-sound : goal.returns-in-None-clause-sound
returns-in-None-clause-sound g c = on_ok_weaker c.take.result
    (goes_sound g.L.Layer.stands g.L.Layer.awaited c.args.self.now _ _ _ _ c.requires.sound)
    (returns-in-None-clause-goes g c)
