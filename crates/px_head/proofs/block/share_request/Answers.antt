use Rattle.std.proofs.Common.{ℕ, List, ◌∙◌, ap, map, take}
use Rattle.httparse.specs.Spans.{header_bytes, span_bytes}
use Rattle.px_head.proofs.BlockLemmas.{request_parts}
use Rattle.px_head.proofs.block.share_request.Goals as goal

pub returns : goal.returns
returns c =
    let w = c.requires in
    let spans = c.args.spans in
    let room = c.args.room.now in
    let same = c.in_ok-block.ensures in
    request_parts c.args.block.now room spans w.0 _ _ _ _ w.1 w.2
    (c.in_ok-part.ensures ∙ ap (λ (b : List ℕ). span_bytes b spans.method) same)
    (c.in_ok-part-2.ensures ∙ ap (λ (b : List ℕ). span_bytes b spans.path) same)
    (c.in_ok-copied.ensures ∙ c.version_text.ensures)
    (c.in_ok-share_pairs.ensures ∙ ap (λ (b : List ℕ). map (header_bytes b) (take spans.headers room)) same)
