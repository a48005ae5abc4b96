use Rattle.px_message.proofs.UrlLemmas.{absolute_form-url_text}
use Rattle.px_message.proofs.url.written_url_is_read.Goals as goal

pub returns : goal.returns
returns c = absolute_form-url_text
