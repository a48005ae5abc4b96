use Rattle.px_stack.proofs.LetLemmas.{away_now}
use Rattle.px_stack.proofs.ReachingLemmas.{goal_somewhere, heard_somewhere, no_taken, nothing_taken, still_somewhere, yes_somewhere, yes_taken}
use Rattle.px_stack.proofs.stack.Stack.reaching_takes.Goals as goal
use Rattle.px_stack.specs.Stack.{visitor_of}

pub hear_goal-requires : goal.hear_goal-requires
hear_goal-requires c = record { there = goal_somewhere c.args.self.now.conv (visitor_of c.args.self.now) c.args.reaching c.requires.somewhere }

pub hear_proxy-requires : goal.hear_proxy-requires
hear_proxy-requires c = record { awaited = heard_somewhere c.args.self.now.conv (visitor_of c.args.self.now) c.args.reaching c.requires.somewhere }

pub let_through-requires : goal.let_through-requires
let_through-requires c = record {
  there =
      yes_somewhere c.args.self.now.conv (visitor_of c.args.self.now) c.args.reaching c.args.moment c.args.event.now c.in_ok-goal.goal c.hear_proxy.new.asked c.in_ok-goal.ensures.hears
      c.in_ok-hear_proxy.field-0 c.in_ok-hear_proxy.ensures.hears c.requires.somewhere c.in_ok-rest-in-Yes.rest c.in-Yes.is c.in_ok-rest-in-Yes.ensures.rest;
}

pub turn_away-requires : goal.turn_away-requires
turn_away-requires c = record {
  there =
      still_somewhere c.args.self.now.conv (visitor_of c.args.self.now) c.args.reaching c.requires.somewhere c.args.moment c.args.event.now c.in_ok-goal.goal c.hear_proxy.new.asked
      c.in_ok-goal.ensures.hears;
}

pub returns-in-Nothing-clause-takes : goal.returns-in-Nothing-clause-takes
returns-in-Nothing-clause-takes c =
    nothing_taken c.args.self.now.conv (visitor_of c.args.self.now) c.args.reaching c.args.moment c.args.event.now c.in_ok-goal.goal c.hear_proxy.new.asked c.in_ok-goal.ensures.hears
    c.in_ok-hear_proxy.field-0 c.in_ok-hear_proxy.ensures.hears c.args.out.now.items c.in-Nothing.is

pub returns-in_ok-rest-in-Yes-clause-takes : goal.returns-in_ok-rest-in-Yes-clause-takes
returns-in_ok-rest-in-Yes-clause-takes c =
    yes_taken c.args.self.now.conv (visitor_of c.args.self.now) c.args.reaching c.args.moment c.args.event.now c.in_ok-goal.goal c.hear_proxy.new.asked c.in_ok-goal.ensures.hears
    c.in_ok-hear_proxy.field-0 c.in_ok-hear_proxy.ensures.hears c.args.out.now.items c.let_through.new.out.items c.in_ok-rest-in-Yes.rest c.in-Yes.is
    c.in_ok-rest-in-Yes.ensures.rest c.let_through.result c.let_through.ensures.lets_through

pub returns-in-No-clause-takes : goal.returns-in-No-clause-takes
returns-in-No-clause-takes c =
    no_taken c.args.self.now.conv (visitor_of c.args.self.now) c.args.reaching c.args.moment c.args.event.now c.in_ok-goal.goal c.hear_proxy.new.asked c.in_ok-goal.ensures.hears
    c.in_ok-hear_proxy.field-0 c.in_ok-hear_proxy.ensures.hears c.args.out.now.items c.turn_away.new.out.items c.in-No.shut c.in-No.is c.turn_away.result
    (away_now c.args.self.now.conv (visitor_of c.args.self.now) c.args.reaching.server c.in_ok-goal.goal c.in-No.shut c.args.reaching.closed_before c.args.moment
    c.now_by-now.result.client_closed c.now_by-now.result.moment c.args.out.now.items c.turn_away.new.out.items c.turn_away.result c.now_by-now.ensures.closed c.now_by-now.ensures.moment
    c.turn_away.ensures.turns_away)
