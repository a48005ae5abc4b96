use Rattle.std.proofs.Common.{rules, ◌≡◌, ◌∙◌}
use Rattle.px_exchange.specs.declared.outcome.Outcome.TheVariants as outcomes
use Rattle.px_stream.specs.Tells.{outcome_in}
use Rattle.px_stream.proofs.RestLemmas.{outcome_there}
use Rattle.px_stream.proofs.stream.Stream.outcome.Goals as goal

pub returns-in-Ready-Connects-clause-of_walk : goal.returns-in-Ready-Connects-clause-of_walk
returns-in-Ready-Connects-clause-of_walk c = λ made ahead place prefix stands.
    let is : outcomes.Connects ≡ outcome_in c.args.self.now.phase = search rules in
    is ∙ outcome_there made ahead c.args.self.now place prefix stands

pub returns-in-Ready-Upgraded-clause-of_walk : goal.returns-in-Ready-Upgraded-clause-of_walk
returns-in-Ready-Upgraded-clause-of_walk c = λ made ahead place prefix stands.
    let is : outcomes.Upgraded ≡ outcome_in c.args.self.now.phase = search rules in
    is ∙ outcome_there made ahead c.args.self.now place prefix stands

pub returns-in-Ready-Over-clause-of_walk : goal.returns-in-Ready-Over-clause-of_walk
returns-in-Ready-Over-clause-of_walk c = λ made ahead place prefix stands.
    let is : outcomes.Over ≡ outcome_in c.args.self.now.phase = search rules in
    is ∙ outcome_there made ahead c.args.self.now place prefix stands

pub returns-in-Ready : goal.returns-in-Ready
returns-in-Ready c = record {
  phase = search rules;
  ended = search rules;
  of_walk = λ made ahead place prefix stands.
      let is : outcomes.Going ≡ outcome_in c.args.self.now.phase = search rules in
      is ∙ outcome_there made ahead c.args.self.now place prefix stands;
}

pub returns-in-Asked-clause-of_walk : goal.returns-in-Asked-clause-of_walk
returns-in-Asked-clause-of_walk c = λ made ahead place prefix stands.
    let is : outcomes.Going ≡ outcome_in c.args.self.now.phase = search rules in
    is ∙ outcome_there made ahead c.args.self.now place prefix stands
