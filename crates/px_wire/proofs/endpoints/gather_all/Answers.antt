use Rattle.std.proofs.Common.{◌∙◌, ap, Ok, arith, nat_eq}
use Rattle.std.specs.HashMap.{get}
use Rattle.px_wire.proofs.DueLemmas.{still_more, looked_step, looked_all}
use Rattle.px_wire.proofs.endpoints.gather_all.Goals as goal

pub loop-at-preserved : goal.loop-at-preserved
loop-at-preserved c = record {
  still = still_more (λ s. get nat_eq c.args.by_slot.now s) c.args.ready.now c.loop-at.ready c.gather_one.new.ready c.loop-at.invariant.still c.gather_one.ensures.still;
  turned = λ all. c.gather_one.ensures.turned (c.loop-at.invariant.turned all);
  looked = looked_step (λ s. get nat_eq c.args.by_slot.now s) c.args.slots.now c.loop-at.at c.loop-at.ready c.gather_one.new.ready (omega (arith, c.loop-at-test.true)) c.gather_one.ensures.still
      (c.gather_one.ensures.looked (c.in_ok-is_over.was ∙ ap Ok c.if-is_over.false)) c.loop-at.invariant.looked;
}

pub returns-clause-looked : goal.returns-clause-looked
returns-clause-looked c = λ is.
    looked_all (λ s. get nat_eq c.args.by_slot.now s) c.args.slots.now c.loop-at.at c.loop-at.ready (omega (arith, c.loop-at-test.false)) c.loop-at.invariant.looked

pub returns-in_err-is_over-clause-turned : goal.returns-in_err-is_over-clause-turned
returns-in_err-is_over-clause-turned c = λ all. c.gather_one.ensures.turned (c.loop-at.invariant.turned all)

pub returns-then-is_over-clause-turned : goal.returns-then-is_over-clause-turned
returns-then-is_over-clause-turned c = λ all. c.gather_one.ensures.turned (c.loop-at.invariant.turned all)
