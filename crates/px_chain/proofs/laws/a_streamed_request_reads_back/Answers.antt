use Rattle.px_chain.proofs.UpLaws.{reads_back}
use Rattle.px_chain.proofs.laws.a_streamed_request_reads_back.Goals as goal

pub returns : goal.returns
returns c = λ place flow seen head body trailers used whole may rest. reads_back c.streamed_is_framed_as_read.ensures place flow seen head body trailers used whole may rest
