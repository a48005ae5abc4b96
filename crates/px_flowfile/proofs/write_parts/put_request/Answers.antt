use Rattle.std.proofs.Common.{◌∙◌, ap}
use Rattle.px_tnet.specs.Tree.{blob}
use Rattle.px_flowfile.proofs.PutLemmas.{line_of}
use Rattle.px_flowfile.proofs.write_parts.put_request.Goals as goal

pub returns : goal.returns
returns c more =
    line_of _ _ _ _ _ c.in_ok-put_blob-5.ensures (ap blob c.bytes-3.ensures.bytes) more
    ∙ c.in_ok-put_blob-4.ensures _
    ∙ c.in_ok-put_blob-3.ensures _
    ∙ line_of _ _ _ _ _ c.in_ok-put_blob-2.ensures (ap blob c.bytes-2.ensures.bytes) _
    ∙ c.in_ok-put_number.ensures _
    ∙ line_of _ _ _ _ _ c.in_ok-put_blob.ensures (ap blob c.bytes.ensures.bytes) _
    ∙ c.in_ok-put_optional_moment.ensures _
    ∙ c.in_ok-put_moment.ensures _
    ∙ c.in_ok-put_trailers.ensures _
    ∙ c.in_ok-put_content.ensures _
    ∙ c.in_ok-put_headers.ensures _
    ∙ c.in_ok-put_version.ensures _
