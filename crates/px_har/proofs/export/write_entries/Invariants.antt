use Rattle.std.proofs.Common.{◌≡◌, ◌++◌, List, ℕ, drop, take}
use Rattle.std.specs.Prelude.{All}
use Rattle.px_har.specs.Export.{entries_text}
use Rattle.px_har.specs.Read.{IsReadable}
use Rattle.px_har.specs.declared.export.Place.TheVariants.{First}
use Rattle.px_har.proofs.export.write_entries.Given as goal

-- what was written, with what is still to come, is all
abbrev pub invariant-loop-flow : goal.invariant-loop-flow
invariant-loop-flow l = record {
  written : (given : List ℕ) × (given ++ entries_text l.place (drop l.flow-index l.flows) ≡ entries_text First l.flows) × (l.out.items ≡ l.initial.out.items ++ given);
  readable : All IsReadable (take l.flow-index l.flows);
}
