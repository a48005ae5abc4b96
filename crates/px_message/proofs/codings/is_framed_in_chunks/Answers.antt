use Rattle.std.proofs.Common.{◌∙◌, ap}
use Rattle.px_message.specs.Codings.{is_last}
use Rattle.px_message.proofs.CodingLemmas.{is_last-chunking}
use Rattle.px_message.proofs.codings.is_framed_in_chunks.Goals as goal

pub returns : goal.returns
returns c = c.is_last.ensures ∙ ap is_last c.chunking_of.ensures ∙ is_last-chunking c.args.fields.now
