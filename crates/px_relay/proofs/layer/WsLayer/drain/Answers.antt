use Rattle.std.proofs.Common.{◌∙◌, subst, sym}
use Rattle.px_relay.specs.Calls.{WorksBy, did_frame}
use Rattle.px_relay.proofs.DrainLemmas.{drains_broke, drains_first, drains_goes, drains_stops, drains_through}
use Rattle.px_relay.proofs.KeepLemmas.{popped_writable, so_far_first, so_far_goes}
use Rattle.px_relay.proofs.layer.WsLayer.drain.Goals as goal

pub work-requires : goal.work-requires
work-requires c = record { may = popped_writable c.args.from c.frames.self c.pop.new.self c.in-Some.frame c.frames.invariant.keeps.writable c.in-Some.ensures }

pub returns-then-not-branch-clause-drains : goal.returns-then-not-branch-clause-drains
returns-then-not-branch-clause-drains c =
    drains_stops c.args.from c.args.self.now c.frames.self c.pop.new.self c.work.new.self c.in-Some.frame c.args.out.now.items c.frames.out.items
    c.work.new.out.items c.frames.invariant.drains c.in-Some.ensures
    (subst (λ b. WorksBy (did_frame c.args.from c.pop.new.self c.in-Some.frame) b c.work.new.self c.frames.out.items c.work.new.out.items)
    c.if-not-branch.true c.in_ok-work.ensures)

pub frames-init : goal.frames-init
frames-init c = record {
  drains = drains_first c.args.from c.args.self.now c.args.out.now.items;
  keeps = so_far_first c.args.from c.args.self.now c.requires.relaying c.requires.writable;
}

pub frames-preserved : goal.frames-preserved
frames-preserved c =
    let works = subst (λ b. WorksBy (did_frame c.args.from c.pop.new.self c.in-Some.frame) b c.work.new.self c.frames.out.items c.work.new.out.items)
    c.if-not-branch.false c.in_ok-work.ensures in
    record {
      drains = drains_goes c.args.from c.args.self.now c.frames.self c.pop.new.self c.work.new.self c.in-Some.frame c.args.out.now.items c.frames.out.items
          c.work.new.out.items c.frames.invariant.drains c.in-Some.ensures works;
      keeps = so_far_goes c.args.from c.args.self.now c.frames.self c.pop.new.self c.work.new.self c.in-Some.frame c.frames.out.items c.work.new.out.items
          c.frames.invariant.keeps c.in-Some.ensures works;
    }

pub returns-in_ok-fail-in-Some-fault-clause-drains : goal.returns-in_ok-fail-in-Some-fault-clause-drains
returns-in_ok-fail-in-Some-fault-clause-drains c =
    drains_broke c.args.from c.args.self.now c.frames.self c.pop.new.self c.fail.new.self c.args.out.now.items c.frames.out.items c.fail.new.out.items
    c.in-Some-fault.fault c.frames.invariant.drains c.in_default.ensures (sym c.fault.ensures ∙ c.in-Some-fault.is)
    c.in_ok-fail-in-Some-fault.ensures.over c.in_ok-fail-in-Some-fault.ensures.gives

pub returns-in-None-clause-drains : goal.returns-in-None-clause-drains
returns-in-None-clause-drains c =
    drains_through c.args.from c.args.self.now c.frames.self c.pop.new.self c.args.out.now.items c.frames.out.items
    c.frames.invariant.drains c.in_default.ensures (sym c.fault.ensures ∙ c.in-None.is)
