use Rattle.std.proofs.Common.{◌∙◌, ap, pos}
use Rattle.px_tnet.specs.Tree.{blob, int}
use Rattle.px_flowfile.proofs.PutLemmas.{line_of}
use Rattle.px_flowfile.proofs.write_parts.put_response.Goals as goal

pub returns : goal.returns
returns c more =
    c.in_ok-put_optional_moment-2.ensures more
    ∙ c.in_ok-put_optional_moment.ensures _
    ∙ c.in_ok-put_trailers.ensures _
    ∙ c.in_ok-put_content.ensures _
    ∙ c.in_ok-put_headers.ensures _
    ∙ line_of _ _ _ _ _ c.in_ok-put_blob.ensures (ap blob c.bytes.ensures.bytes) _
    ∙ line_of _ _ _ _ _ c.in_ok-put_number.ensures (ap (λ n. int (pos n)) c.code.ensures.code) _
    ∙ c.in_ok-put_version.ensures _
