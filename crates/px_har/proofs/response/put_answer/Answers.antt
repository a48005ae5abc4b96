use Rattle.std.specs.Prelude.{codes}
use Rattle.serde_json.specs.Data.{member}
use Rattle.px_har.specs.Entry.{answer_value, first_value, status_end}
use Rattle.px_har.proofs.PutLemmas.{◌▸◌, added, all, in_front, last, token}
use Rattle.px_har.proofs.response.put_answer.Goals as goal

pub returns : goal.returns
unfolding answer_value
returns c =
    let response = c.args.response.now in
    let head = rw c.version_text-version.ensures at c.in_ok-put_head.ensures in
    let location = rw c.first_or_empty-location.ensures at c.in_ok-put_text_member.ensures in
    let end = rw (c.code-code.ensures.code, c.bytes-reason.ensures.bytes) at c.in_ok-put_end.ensures in
    all (
    token c.in_ok-begin_object.ensures
    ▸ added c.in_ok-put_body_size.ensures
    ▸ token c.in_ok-key.ensures
    ▸ added c.in_ok-put_content.ensures
    ▸ in_front (member (codes "redirectURL") (first_value (codes "location") response.fields) (status_end response.status response.reason)) head
    ▸ added location
    ▸ last end
    )
