use Rattle.std.proofs.Common.{◌≡◌, None, length}
use Rattle.px_words.proofs.WholeLemmas.{Judged}
use Rattle.px_words.proofs.whole.judge.Given as goal

-- the entries in front of what is left are gone past
abbrev pub invariant-loop-reader : goal.invariant-loop-reader
invariant-loop-reader l = record {
  judged : Judged l.fn.bytes l.reader.rest;
  going : l.reader.fault ≡ None;
  len : l.reader.len ≡ length l.fn.bytes;
}

-- what is left
abbrev pub decreases-loop-reader : goal.decreases-loop-reader
decreases-loop-reader l = length l.reader.rest
