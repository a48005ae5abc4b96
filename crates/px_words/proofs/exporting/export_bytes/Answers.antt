use Rattle.px_words.proofs.ExportLemmas.{exports_nothing}
use Rattle.px_words.proofs.exporting.export_bytes.Goals as goal

pub returns-in-Err : goal.returns-in-Err
returns-in-Err g c = record { exports = exports_nothing _ _ _ _ _ }
