use Rattle.std.proofs.Common.{◌∙◌, ◌+◌, ◌-◌, ◌^◌, ap, refl, arith}
use Rattle.std.specs.Prelude.{Ok}
use Rattle.px_wire.proofs.AskedLemmas.{times_same}
use Rattle.px_wire.proofs.LinesLemmas.{asked_none, asked_more, asked_same, asked_at_most, asked_then, adds_none}
use Rattle.px_wire.proofs.lines.wait.Goals as goal

pub loop-left-init : goal.loop-left-init
loop-left-init g c = record {
  stands = λ rests. rests;
  calm = c.requires.calm;
  room = c.requires.some;
  steps = refl;
  listening = refl;
  later = omega arith;
  most = omega arith;
  kept = λ past times since. since;
  answered = λ past since. since;
  asks = asked_none (g.W.Wire.asks c.args.wire.now);
}

pub loop-left-preserved : goal.loop-left-preserved
loop-left-preserved g c =
    let before = c.loop-left.invariant in
    record {
      stands = λ rests. c.in_ok-heard.ensures.stands (before.stands rests);
      calm = c.in_ok-heard.ensures.calm (ap (λ h. Ok h) c.in-None.is);
      room = (let e = c.in_ok-heard.ensures.room in omega (arith, e, before.room));
      steps = adds_none _ _ _ c.in-None.is c.in_ok-heard.ensures.steps ∙ before.steps;
      listening = c.in_ok-heard.ensures.listening ∙ before.listening;
      later = omega (arith, c.in_ok-heard.ensures.later, before.later);
      most = omega (arith, before.most);
      kept = λ past times since. c.in_ok-heard.ensures.kept past times (before.kept past times since);
      answered = λ past since.
          times_same past (2 ^ 64 - 1 - c.loop-left.left + 1) (2 ^ 64 - 1 - (c.loop-left.left - 1)) _ (omega (arith, before.most))
          (c.in_ok-heard.ensures.answered past (2 ^ 64 - 1 - c.loop-left.left) (before.answered past since));
      asks = asked_same (2 ^ 64 - 1 - c.loop-left.left + 1) (2 ^ 64 - 1 - (c.loop-left.left - 1)) _ _ (omega (arith, before.most))
          (asked_more (2 ^ 64 - 1 - c.loop-left.left) 1 _ _ _ before.asks c.in_ok-heard.ensures.asks);
    }

pub returns-in-Some-clause-asks : goal.returns-in-Some-clause-asks
returns-in-Some-clause-asks g c =
    asked_at_most (2 ^ 64 - 1 - c.loop-left.left + 1) (2 ^ 64 - 1) _ _ (omega (arith, c.loop-left.invariant.most))
    (asked_more (2 ^ 64 - 1 - c.loop-left.left) 1 _ _ _ c.loop-left.invariant.asks c.in_ok-heard.ensures.asks)

pub returns-in_err-heard-clause-asks : goal.returns-in_err-heard-clause-asks
returns-in_err-heard-clause-asks g c =
    asked_then (2 ^ 64 - 1 - c.loop-left.left) 1 (2 ^ 64 - 1) _ _ _ (omega (arith, c.loop-left.invariant.most)) c.loop-left.invariant.asks c.in_err-heard.ensures.asks_err

pub returns-clause-asks : goal.returns-clause-asks
returns-clause-asks g c = asked_at_most (2 ^ 64 - 1 - c.loop-left.left) (2 ^ 64 - 1) _ _ (omega arith) c.loop-left.invariant.asks

pub returns-clause-idle : goal.returns-clause-idle
returns-clause-idle g c = λ is. asked_same (2 ^ 64 - 1 - c.loop-left.left) (2 ^ 64 - 1) _ _ (omega arith) c.loop-left.invariant.asks

pub returns-clause-answered : goal.returns-clause-answered
returns-clause-answered g c = λ past since is. times_same past (2 ^ 64 - 1 - c.loop-left.left) (2 ^ 64 - 1) _ (omega arith) (c.loop-left.invariant.answered past since)

pub returns-in_err-heard-clause-kept : goal.returns-in_err-heard-clause-kept
returns-in_err-heard-clause-kept g c = λ past times since. c.in_err-heard.ensures.kept past times (c.loop-left.invariant.kept past times since)

pub returns-in-Some-clause-kept : goal.returns-in-Some-clause-kept
returns-in-Some-clause-kept g c = λ past times since. c.in_ok-heard.ensures.kept past times (c.loop-left.invariant.kept past times since)
