use Rattle.px_core.specs.Runs.{has}
use Rattle.px_core.proofs.WorkLemmas.{steps_next, asked_next, shows_next}
use Rattle.px_core.proofs.held.tell.Goals as goal

pub loop-command-preserved : goal.loop-command-preserved
loop-command-preserved c =
    let before = c.loop-command.invariant in
    let marks = has c.args.marks.now in
    record {
      told = steps_next c.args.conv marks c.loop-command.command-iterator.rest.items c.next.new.self.rest.items c.in-Some.command _ _ _ c.in-Some.ensures.steps.0 before.told
          c.in_ok-question.ensures.told;
      asked = asked_next marks c.loop-command.command-iterator.rest.items c.next.new.self.rest.items c.in-Some.command c.loop-command.open _ _ _ c.in-Some.ensures.steps.0 before.asked
          c.in_ok-question.ensures.question c.put_later.ensures;
      shows = shows_next marks c.loop-command.command-iterator.rest.items c.next.new.self.rest.items c.in-Some.command c.loop-command.flows c.tell_one.new.flows _ c.in-Some.ensures.steps.0 before.shows
          c.in_ok-question.ensures.shows;
    }
