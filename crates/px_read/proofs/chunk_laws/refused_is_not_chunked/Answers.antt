use Rattle.px_read.proofs.ChunkedLemmas.{refused_not_chunked}
use Rattle.px_read.proofs.chunk_laws.refused_is_not_chunked.Goals as goal

pub returns : goal.returns
returns c = refused_not_chunked
