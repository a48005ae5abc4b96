use Rattle.std.proofs.Common.{[], ◌∷◌, ◌++◌, Ok, le_refl, le_trans}
use Rattle.px_core.proofs.RunLemmas.{front_next, rest_is}
use Rattle.px_app.proofs.SavedLemmas.{puts_more, puts_none, puts_stop}
use Rattle.px_app.proofs.printing.Printing.put_flows.Goals as goal

pub loop-flow-init : goal.loop-flow-init
loop-flow-init g c = record {
  prefix = [];
  split = c.into_iter-flow-iterator.ensures.into_iter_gives.0;
  puts = puts_none _ c.args.self _ _;
  failed = λ first losing bound bound_losses rose. rose;
  later = le_refl _;
  later_losses = le_refl _;
}

pub returns-in_err-printing-clause-puts : goal.returns-in_err-printing-clause-puts
returns-in_err-printing-clause-puts g c =
    let before = c.loop-flow.invariant in
    puts_stop _ c.args.self c.loop-flow.printing c.args.flows.items before.prefix c.in-Some.flow c.next.new.self.rest.items c.in_err-printing.field-0.0 c.from_residual.result _ _ _ _ _ _
    c.from_residual.ensures.0 (rest_is before.prefix _ _ c.args.flows.items c.in-Some.ensures.steps.0 before.split) before.puts c.in_err-printing.ensures.puts

pub loop-flow-preserved : goal.loop-flow-preserved
loop-flow-preserved g c =
    let before = c.loop-flow.invariant in
    let x = c.in-Some.flow in
    record {
      prefix = before.prefix ++ x ∷ [];
      split = front_next before.prefix x c.next.new.self.rest.items c.args.flows.items (rest_is before.prefix _ _ c.args.flows.items c.in-Some.ensures.steps.0 before.split);
      puts = puts_more _ c.args.self c.loop-flow.printing before.prefix (c.in-Some.flow ∷ []) (Ok c.in_ok-printing.printing) _ _ _ _ _ _ before.puts c.in_ok-printing.ensures.puts;
      failed = λ first losing bound bound_losses rose. c.in_ok-printing.ensures.failed first losing (le_trans bound before.later) (le_trans bound_losses before.later_losses) (before.failed first losing bound bound_losses rose);
      later = le_trans before.later c.in_ok-printing.ensures.later;
      later_losses = le_trans before.later_losses c.in_ok-printing.ensures.later_losses;
    }
