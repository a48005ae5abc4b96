use Rattle.px_write.specs.Text.{chunk_text, last_chunk_text}
use Rattle.px_text.proofs.PrefixLemmas.{err_behind, err_first, ok_behind}
use Rattle.px_write.proofs.body.write_chunked.Goals as goal

pub returns-in_err-write_chunk-clause-err : goal.returns-in_err-write_chunk-clause-err
returns-in_err-write_chunk-clause-err c = err_first c.from_residual.result (chunk_text c.args.content.now) (last_chunk_text c.args.trailers.now) _ _ c.in_err-write_chunk.ensures.err

pub returns-clause-ok : goal.returns-clause-ok
returns-clause-ok c = ok_behind c.write_last_chunk.result (chunk_text c.args.content.now) (last_chunk_text c.args.trailers.now) _ _ _ c.in_ok-write_chunk.ensures.ok c.write_last_chunk.ensures.ok

pub returns-clause-err : goal.returns-clause-err
returns-clause-err c = err_behind c.write_last_chunk.result (chunk_text c.args.content.now) (last_chunk_text c.args.trailers.now) _ _ _ c.in_ok-write_chunk.ensures.ok c.write_last_chunk.ensures.err
