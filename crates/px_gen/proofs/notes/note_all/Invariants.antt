use Rattle.std.proofs.Common.{◌≡◌, take}
use Rattle.px_gen.specs.Noted.{noted, with_steps}
use Rattle.px_gen.proofs.notes.note_all.Given as goal

-- the steps so far are noted
abbrev pub invariant-loop-step : goal.invariant-loop-step
invariant-loop-step g l = record {
  told : g.N.Net.trace l.net ≡ with_steps (g.N.Net.trace l.initial.net) (noted (take l.step-index l.steps));
  listening : g.N.Net.listening l.net ≡ g.N.Net.listening l.initial.net;
  faults : g.N.Net.faults l.net ≡ g.N.Net.faults l.initial.net;
}
