use Rattle.std.proofs.Common.{refl}
use Rattle.px_words.proofs.FetchLemmas.{no_filter_made}
use Rattle.px_words.proofs.exporting.export.Goals as goal

pub returns-in-Err : goal.returns-in-Err
returns-in-Err g c = record {
  exports = no_filter_made _ _ _ _ c.args.text.now _ _ _ _ c.in-Err.error c.in-Err.ensures.err refl refl c.refuse_filter.ensures.status c.refuse_filter.ensures.memory c.refuse_filter.ensures.prints c.refuse_filter.ensures.notes;
}
