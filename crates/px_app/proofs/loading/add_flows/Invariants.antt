use Rattle.std.proofs.Common.{◌≡◌, None, length}
use Rattle.px_app.proofs.LoadLemmas.{AddedSoFar}
use Rattle.px_app.proofs.loading.add_flows.Given as goal

-- the flows in front of what is left were added
abbrev pub invariant-loop-reader : goal.invariant-loop-reader
invariant-loop-reader l = record {
  added : AddedSoFar l.fn.bytes l.reader.rest l.fn.flows.items l.flows.items;
  going : l.reader.fault ≡ None;
  len : l.reader.len ≡ length l.fn.bytes;
}

-- what is left
abbrev pub decreases-loop-reader : goal.decreases-loop-reader
decreases-loop-reader l = length l.reader.rest
