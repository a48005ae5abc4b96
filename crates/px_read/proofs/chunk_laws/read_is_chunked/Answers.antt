use Rattle.px_read.proofs.ChunkedLemmas.{read_chunked}
use Rattle.px_read.proofs.chunk_laws.read_is_chunked.Goals as goal

pub returns : goal.returns
returns c = read_chunked
