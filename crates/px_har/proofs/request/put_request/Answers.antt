use Rattle.std.specs.Prelude.{codes}
use Rattle.serde_json.specs.Data.{member}
use Rattle.px_har.specs.Entry.{request_end, request_value, text_value, with_posted}
use Rattle.px_har.proofs.PutLemmas.{◌▸◌, added, all, in_front, last, token}
use Rattle.px_har.proofs.request.put_request.Goals as goal

pub returns : goal.returns
unfolding request_value
returns c =
    let request = c.args.request.now in
    let head = rw c.version_text-version.ensures at c.in_ok-put_head.ensures in
    let method = rw c.bytes-method.ensures.bytes at c.in_ok-put_text_member.ensures in
    all (
    token c.in_ok-begin_object.ensures
    ▸ added c.in_ok-put_body_size.ensures
    ▸ in_front (member (codes "method") (text_value request.method) (with_posted request (request_end request))) head
    ▸ added method
    ▸ last c.in_ok-put_rest.ensures
    )
