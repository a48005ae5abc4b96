use Rattle.std.proofs.Common.{◌≡◌, ◌≤◌, ◌⊎◌, ◌++◌, ℕ, List, Ok, option_copied}
use Rattle.px_message.specs.declared.flow.Flow.{Flow}
use Rattle.px_outside.specs.Count.{Rose}
use Rattle.px_core.specs.Answers.{files_meaning}
use Rattle.px_app.specs.Saved.{Puts, saves_to_of}
use Rattle.px_app.specs.declared.printing.Printing.TheVariants.{Failed}
use Rattle.px_app.proofs.printing.Printing.put_flows.Given as goal

-- the flows in front are printed and saved
abbrev pub invariant-loop-flow : goal.invariant-loop-flow
invariant-loop-flow g l = record {
  prefix : List Flow;
  split : prefix ++ l.flow-iterator.rest.items ≡ l.fn.flows.items;
  puts : Puts (saves_to_of (option_copied l.fn.saving)) l.fn.self prefix (Ok l.printing) (files_meaning g.F.Files.contents g.F.Files.calls g.F.Files.misses g.F.Files.faults g.F.Files.losses l.fn.files)
      (files_meaning g.F.Files.contents g.F.Files.calls g.F.Files.misses g.F.Files.faults g.F.Files.losses l.files) (g.S.Sink.written l.fn.out) (g.S.Sink.written l.out);
  failed : (first losing : ℕ) → first ≤ g.S.Sink.faults l.fn.out → losing ≤ g.F.Files.losses l.fn.files → (l.fn.self ≡ Failed → Rose first (g.S.Sink.faults l.fn.out) ⊎ Rose losing (g.F.Files.losses l.fn.files)) →
      l.printing ≡ Failed → Rose first (g.S.Sink.faults l.out) ⊎ Rose losing (g.F.Files.losses l.files);
  later : g.S.Sink.faults l.fn.out ≤ g.S.Sink.faults l.out;
  later_losses : g.F.Files.losses l.fn.files ≤ g.F.Files.losses l.files;
}
