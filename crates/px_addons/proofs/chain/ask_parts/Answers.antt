use Rattle.px_rule.proofs.BodyLemmas.{on_err}
use Rattle.px_addons.specs.Chain.{movers_of}
use Rattle.px_addons.proofs.TurnLemmas.{all_parts_asked, next_part_asked, next_part_failed, none_asked}
use Rattle.px_addons.proofs.chain.ask_parts.Goals as goal

pub loop-i-init : goal.loop-i-init
loop-i-init g c = none_asked _ _ _ c.args.rules.now c.args.hook c.args.parts.now _ (movers_of c.args.replay.now c.args.cookies.now c.args.auth.now c.args.addons.now) _

pub loop-i-preserved : goal.loop-i-preserved
loop-i-preserved g c = next_part_asked _ _ _ c.args.rules.now c.args.hook c.args.parts.now _ _ _ c.loop-i.i _ _ (movers_of c.loop-i.replay c.loop-i.cookies c.loop-i.auth c.loop-i.addons) _ _ _ _
    c.loop-i.invariant c.loop-i-test.true c.in_ok-ask_part.ensures.moved

pub returns-in_err-ask_part-clause-failed : goal.returns-in_err-ask_part-clause-failed
returns-in_err-ask_part-clause-failed g c = on_err c.from_residual.result _
    (next_part_failed _ _ _ c.args.rules.now c.args.hook c.args.parts.now _ _ _ c.loop-i.i _ (movers_of c.loop-i.replay c.loop-i.cookies c.loop-i.auth c.loop-i.addons) _ _ _
    c.loop-i.invariant c.loop-i-test.true c.in_err-ask_part.ensures.failed)

pub returns-clause-moved : goal.returns-clause-moved
returns-clause-moved g c = all_parts_asked _ _ _ c.args.rules.now c.args.hook c.args.parts.now _ _ _ c.loop-i.i _ (movers_of c.loop-i.replay c.loop-i.cookies c.loop-i.auth c.loop-i.addons) _ c.loop-i.invariant c.loop-i-test.false
