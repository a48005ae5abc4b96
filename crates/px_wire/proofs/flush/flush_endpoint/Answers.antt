use Rattle.std.proofs.Common.{◌≡◌, ◌∙◌, refl, arith}
use Rattle.px_wire.specs.Stands.{name_of}
use Rattle.px_wire.proofs.AskedLemmas.{told_kept}
use Rattle.px_wire.proofs.CallLemmas.{put_took, put_blocked, put_broke, put_all, same_slot}
use Rattle.px_wire.proofs.PutsLemmas.{took_none, put_more, put_stopped, put_failed, put_whole}
use Rattle.px_wire.proofs.flush.flush_endpoint.Goals as goal

pub loop-wire-init : goal.loop-wire-init
loop-wire-init g c = record {
  stands = λ owed front back accepted moment stands. stands;
  name = refl;
  turn = refl;
  steps = refl;
  listening = refl;
  faults = refl;
  asks = refl;
  kept = λ past times since. since;
  took = took_none c.args.endpoint.now.slot c.args.endpoint.now.queue (g.W.Wire.calls c.args.wire.now);
  blocks = omega arith;
  breaks = omega arith;
}

pub loop-wire-preserved : goal.loop-wire-preserved
loop-wire-preserved g c =
    let before = c.loop-wire.invariant in
    let at = same_slot c.loop-wire.endpoint c.args.endpoint.now before.name in
    record {
      stands = λ owed front back accepted moment stands.
          put_took owed front back c.loop-wire.endpoint c.put_once.new.endpoint accepted moment c.args.endpoint.now.slot c.in-Took.field-0 c.put_once.result _ _ (c.in-Took.is)
          (omega arith) at c.put_once.ensures.endpoint c.put_once.ensures.told (before.stands owed front back accepted moment stands);
      name = (let e : name_of c.put_once.new.endpoint ≡ name_of c.loop-wire.endpoint = rw (c.put_once.ensures.endpoint, c.in-Took.is) refl in e ∙ before.name);
      turn = (let e : c.put_once.new.endpoint.turn ≡ c.loop-wire.endpoint.turn = rw (c.put_once.ensures.endpoint, c.in-Took.is) refl in e ∙ before.turn);
      steps = c.put_once.ensures.steps ∙ before.steps;
      listening = c.put_once.ensures.listening ∙ before.listening;
      faults = c.put_once.ensures.faults ∙ before.faults;
      asks = c.put_once.ensures.asks ∙ before.asks;
      kept = λ past times since. told_kept _ _ _ c.put_once.ensures.told past times (before.kept past times since);
      took = put_more c.args.endpoint.now.slot c.args.endpoint.now.queue c.loop-wire.endpoint c.put_once.result _ _ _ c.put_once.new.endpoint c.in-Took.field-0 c.in-Took.is at c.put_once.ensures.endpoint c.put_once.ensures.told before.took;
      blocks = omega (arith, c.put_once.ensures.blocks, before.blocks);
      breaks = omega (arith, c.put_once.ensures.breaks, before.breaks);
    }

pub returns-in-Blocked-clause-stands : goal.returns-in-Blocked-clause-stands
returns-in-Blocked-clause-stands g c = λ owed front back accepted moment stands.
    let before = c.loop-wire.invariant in
    put_blocked owed front back c.loop-wire.endpoint c.put_once.new.endpoint accepted moment c.args.endpoint.now.slot c.put_once.result _ _ (c.in-Blocked.is)
    (omega arith) (same_slot c.loop-wire.endpoint c.args.endpoint.now before.name) c.put_once.ensures.endpoint c.put_once.ensures.told (before.stands owed front back accepted moment stands)

pub returns-in-Broken-clause-stands : goal.returns-in-Broken-clause-stands
returns-in-Broken-clause-stands g c = λ owed front back accepted moment stands.
    let before = c.loop-wire.invariant in
    put_broke owed front back c.loop-wire.endpoint c.put_once.new.endpoint accepted moment c.args.endpoint.now.slot c.put_once.result _ _ (c.in-Broken.is)
    (omega arith) (same_slot c.loop-wire.endpoint c.args.endpoint.now before.name) c.put_once.ensures.endpoint c.put_once.ensures.told (before.stands owed front back accepted moment stands)

pub returns-clause-stands : goal.returns-clause-stands
returns-clause-stands g c = λ owed front back accepted moment stands.
    let before = c.loop-wire.invariant in
    put_all owed front back c.loop-wire.endpoint accepted moment c.args.endpoint.now.slot _ (omega arith) (same_slot c.loop-wire.endpoint c.args.endpoint.now before.name) (before.stands owed front back accepted moment stands)

pub returns-in-Blocked-clause-does : goal.returns-in-Blocked-clause-does
returns-in-Blocked-clause-does g c =
    let before = c.loop-wire.invariant in
    put_stopped c.args.endpoint.now.slot c.args.endpoint.now.queue c.loop-wire.endpoint c.put_once.result _ _ _ c.in-Blocked.is (omega arith) (same_slot c.loop-wire.endpoint c.args.endpoint.now before.name)
    c.put_once.ensures.told before.took

pub returns-in-Broken-clause-does : goal.returns-in-Broken-clause-does
returns-in-Broken-clause-does g c =
    let before = c.loop-wire.invariant in
    put_failed c.args.endpoint.now.slot c.args.endpoint.now.queue c.loop-wire.endpoint c.put_once.result _ _ _ c.in-Broken.is (omega arith) (same_slot c.loop-wire.endpoint c.args.endpoint.now before.name)
    c.put_once.ensures.told before.took

pub returns-clause-does : goal.returns-clause-does
returns-clause-does g c =
    put_whole c.args.endpoint.now.slot c.args.endpoint.now.queue c.loop-wire.endpoint _ _ (omega arith) c.loop-wire.invariant.took

pub returns-in-Blocked-clause-kept : goal.returns-in-Blocked-clause-kept
returns-in-Blocked-clause-kept g c = λ past times since. told_kept _ _ _ c.put_once.ensures.told past times (c.loop-wire.invariant.kept past times since)

pub returns-in-Broken-clause-kept : goal.returns-in-Broken-clause-kept
returns-in-Broken-clause-kept g c = λ past times since. told_kept _ _ _ c.put_once.ensures.told past times (c.loop-wire.invariant.kept past times since)
