use Rattle.px_read.proofs.ChunkedLemmas.{chunked_read}
use Rattle.px_read.proofs.chunk_laws.chunked_is_read.Goals as goal

pub returns : goal.returns
returns c = chunked_read
