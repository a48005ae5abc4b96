use Rattle.px_flowfile.specs.declared.form.Form.TheVariants as forms
use Rattle.px_flowfile.proofs.BackLemmas.{first_loadable}
use Rattle.px_flowfile.proofs.TextLemmas.{entry_comes_back}
use Rattle.px_flowfile.proofs.laws.first_text_is_read.Goals as goal

pub returns : goal.returns
returns c entry rest loadable none short = entry_comes_back forms.First entry rest (first_loadable entry.flow loadable none) short
