use Rattle.std.proofs.Common.{length-set, sym, subst, ◌∙◌, ◌<◌, ◌≤◌}
use Rattle.px_addons.proofs.TurnLemmas.{all_asked, next_asked}
use Rattle.px_addons.proofs.chain.ask_addons.Goals as goal

pub loop-i-preserved : goal.loop-i-preserved
loop-i-preserved g c = (
  length-set c.loop-i.addons c.loop-i.i _ ∙ c.loop-i.invariant.0,
  next_asked _ _ _ c.args.hook _ _ c.loop-i.i _ _ c.loop-i.addons _ _ c.loop-i.invariant.1
      (subst (λ n. c.loop-i.i < n) (sym c.loop-i.invariant.0) c.loop-i-test.true) c.in_ok-ask_addon.ensures,
)

pub returns : goal.returns
returns g c = all_asked _ _ _ c.args.hook _ _ c.loop-i.i _ c.loop-i.addons c.loop-i.invariant.1
    (subst (λ n. n ≤ c.loop-i.i) (sym c.loop-i.invariant.0) c.loop-i-test.false)
