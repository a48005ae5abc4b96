use Rattle.std.proofs.Common.{◌≡◌, ◌≤◌, None, length}
use Rattle.px_filter.specs.View.{expression}
use Rattle.px_words.specs.Whole.{IsWhole}
use Rattle.px_words.proofs.ExportLemmas.{PrintedSoFar}
use Rattle.px_words.proofs.exporting.print_entries.Given as goal

-- the entries of the flows in front of what is left were printed
abbrev pub invariant-loop-reader : goal.invariant-loop-reader
invariant-loop-reader g l = record {
  so_far : PrintedSoFar (expression l.fn.filter) l.fn.bytes l.reader.rest l.place (g.S.Sink.written l.fn.out) (g.S.Sink.written l.out);
  whole : IsWhole l.reader.rest;
  going : l.reader.fault ≡ None;
  later : g.S.Sink.faults l.fn.out ≤ g.S.Sink.faults l.out;
}

-- what is left
abbrev pub decreases-loop-reader : goal.decreases-loop-reader
decreases-loop-reader g l = length l.reader.rest
