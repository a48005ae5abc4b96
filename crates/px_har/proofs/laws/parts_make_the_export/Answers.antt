use Rattle.px_har.proofs.ExportLemmas.{parts_make_it}
use Rattle.px_har.proofs.laws.parts_make_the_export.Goals as goal

pub returns : goal.returns
returns c = parts_make_it
