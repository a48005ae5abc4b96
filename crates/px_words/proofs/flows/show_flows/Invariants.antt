use Rattle.std.proofs.Common.{◌≡◌, ◌≤◌, None, length}
use Rattle.px_filter.specs.View.{expression}
use Rattle.px_words.proofs.FlowsLemmas.{Gone}
use Rattle.px_words.proofs.flows.show_flows.Given as goal

-- the flows in front of what is left are gone past, and printed by the filter
abbrev pub invariant-flows : goal.invariant-flows
invariant-flows g l = record {
  gone : Gone l.fn.bytes (expression l.fn.filter) l.reader.rest (g.S.Sink.written l.fn.out) (g.S.Sink.written l.out);
  going : l.reader.fault ≡ None;
  len : l.reader.len ≡ length l.fn.bytes;
  later : g.S.Sink.faults l.fn.out ≤ g.S.Sink.faults l.out;
}

-- what is left
abbrev pub decreases-flows : goal.decreases-flows
decreases-flows g l = length l.reader.rest
