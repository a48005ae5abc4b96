use Rattle.px_read.proofs.ChunkedLemmas.{chunked_unique}
use Rattle.px_read.proofs.chunk_laws.chunked_is_unique.Goals as goal

pub returns : goal.returns
returns c = chunked_unique
