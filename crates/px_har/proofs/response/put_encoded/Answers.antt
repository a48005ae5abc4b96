use Rattle.px_har.specs.Entry.{content_text}
use Rattle.px_har.specs.Text.{base64_text}
use Rattle.px_har.proofs.PutLemmas.{◌▸◌, added, all, in_front, token}
use Rattle.px_har.proofs.response.put_encoded.Goals as goal

pub returns : goal.returns
returns c = all (token c.in_ok-begin_object.ensures ▸ added c.in_ok-put_string_member.ensures ▸ in_front (content_text (base64_text c.args.body.now)) c.in_ok-put_kind.ensures ▸ added c.in_ok-put_base64.ensures ▸ token c.in_ok-end_object.ensures)
