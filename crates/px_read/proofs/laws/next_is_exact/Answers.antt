use Rattle.px_read.proofs.ReaderLemmas.{next-more, next-end, next-bad}
use Rattle.px_read.proofs.laws.next_is_exact.Goals as goal

pub returns : goal.returns
returns c given reading next = (
  next-more given reading next,
  λ trailers used. next-end given reading trailers used next,
  λ fault. next-bad given reading fault next,
)
