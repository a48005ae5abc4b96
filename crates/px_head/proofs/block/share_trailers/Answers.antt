use Rattle.std.proofs.Common.{ℕ, List, ◌∙◌, ap, map, take}
use Rattle.httparse.specs.Spans.{header_bytes}
use Rattle.px_head.proofs.BlockLemmas.{trailers_parts}
use Rattle.px_head.proofs.block.share_trailers.Goals as goal

pub returns : goal.returns
returns c =
    let w = c.requires in
    let room = c.args.room.now in
    let count = c.args.count in
    trailers_parts c.args.block.now room count w.0 w.1 _ _ _ _ w.2 w.3
    c.empty.ensures c.empty-2.ensures c.empty-3.ensures
    (c.in_ok-share_pairs.ensures ∙ ap (λ (b : List ℕ). map (header_bytes b) (take count room)) c.in_ok-block.ensures)
