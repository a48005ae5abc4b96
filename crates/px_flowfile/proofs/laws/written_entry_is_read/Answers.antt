use Rattle.px_flowfile.specs.declared.form.Form.TheVariants as forms
use Rattle.px_flowfile.proofs.TextLemmas.{entry_comes_back}
use Rattle.px_flowfile.proofs.laws.written_entry_is_read.Goals as goal

pub returns : goal.returns
returns c entry rest loadable short = entry_comes_back forms.Second entry rest loadable short
