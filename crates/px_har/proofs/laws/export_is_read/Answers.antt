use Rattle.px_har.proofs.ExportLemmas.{export_is_read}
use Rattle.px_har.proofs.laws.export_is_read.Goals as goal

pub returns : goal.returns
returns c = export_is_read
