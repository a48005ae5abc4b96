use Rattle.px_draft.proofs.Base64Lemmas.{base64_read}
use Rattle.px_draft.proofs.laws.base64_is_read.Goals as goal

pub returns : goal.returns
returns c = base64_read
