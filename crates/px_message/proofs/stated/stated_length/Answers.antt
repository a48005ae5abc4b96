use Rattle.std.proofs.Common.{◌∙◌, ap}
use Rattle.px_message.specs.Stated.{number_of}
use Rattle.px_message.proofs.StatedLemmas.{number_of-stated}
use Rattle.px_message.proofs.stated.stated_length.Goals as goal

pub returns : goal.returns
returns c = c.number.ensures ∙ ap number_of c.stated_by.ensures ∙ number_of-stated c.args.fields.now
