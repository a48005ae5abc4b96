use Rattle.std.specs.Prelude.{[], codes}
use Rattle.serde_json.specs.Data.{member, string}
use Rattle.px_har.specs.Entry.{no_answer, status_end}
use Rattle.px_har.proofs.PutLemmas.{◌▸◌, added, all, in_front, last, token}
use Rattle.px_har.proofs.response.put_no_answer.Goals as goal

pub returns : goal.returns
unfolding no_answer
returns c =
    let head = rw c.new-fields.ensures at c.in_ok-put_head.ensures in
    all (
    token c.in_ok-begin_object.ensures
    ▸ token c.in_ok-key.ensures
    ▸ added c.in_ok-put_unknown_size.ensures
    ▸ token c.in_ok-key-2.ensures
    ▸ added c.in_ok-put_passed.ensures
    ▸ in_front (member (codes "redirectURL") (string []) (status_end 0 [])) head
    ▸ added c.in_ok-put_string_member.ensures
    ▸ last c.in_ok-put_end.ensures
    )
