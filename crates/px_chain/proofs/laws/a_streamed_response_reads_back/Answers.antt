use Rattle.px_chain.proofs.ComingLaws.{read_back}
use Rattle.px_chain.proofs.laws.a_streamed_response_reads_back.Goals as goal

pub returns : goal.returns
returns c = λ flow seen response head body trailers used is whole may. read_back c.streamed_is_framed_as_read.ensures flow seen response head body trailers used is whole may
