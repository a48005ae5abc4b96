use Rattle.px_har.specs.Entry.{content_text}
use Rattle.px_har.proofs.PutLemmas.{◌▸◌, added, all, in_front, token}
use Rattle.px_har.proofs.response.put_plain.Goals as goal

pub returns : goal.returns
returns c = all (token c.in_ok-begin_object.ensures ▸ in_front (content_text c.args.text.now) c.in_ok-put_kind.ensures ▸ added c.in_ok-put_string_member.ensures ▸ token c.in_ok-end_object.ensures)
