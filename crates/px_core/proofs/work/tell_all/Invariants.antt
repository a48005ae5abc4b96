use Rattle.std.proofs.Common.{◌≡◌, List, ◌++◌, Some}
use Rattle.std.specs.List.{flat_map}
use Rattle.px_core.specs.Run.{done_of}
use Rattle.px_event.specs.declared.step.Step.{Step}
use Rattle.px_event.specs.Trace.{Trace}
use Rattle.px_core.proofs.work.tell_all.Given as goal

-- those in front are told
abbrev pub invariant-loop-step : goal.invariant-loop-step
invariant-loop-step g l = record {
  prefix : List Step;
  split : prefix ++ l.step-iterator.rest.items ≡ l.fn.steps.items;
  told : (trace : Trace) → g.N.Net.trace l.initial.net ≡ Some trace → g.N.Net.trace l.net ≡ Some (trace ++ prefix);
  taken : g.T.Taker.taken l.taker ≡ g.T.Taker.taken l.initial.taker ++ flat_map done_of prefix;
  listening : g.N.Net.listening l.net ≡ g.N.Net.listening l.initial.net;
  faults : g.N.Net.faults l.net ≡ g.N.Net.faults l.initial.net;
}
