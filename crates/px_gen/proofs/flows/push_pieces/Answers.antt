use Rattle.std.proofs.Common.{◌≡◌, ◌++◌, ◌∙◌, ap, arith, map}
use Rattle.px_gen.specs.Script.{heard_from, numbers_below, piece_at, pieces_of}
use Rattle.px_gen.proofs.ScriptLemmas.{pieces_further}
use Rattle.px_gen.proofs.flows.push_pieces.Goals as goal

pub loop-place-preserved : goal.loop-place-preserved
loop-place-preserved c =
    pieces_further (heard_from c.args.side) (piece_at 1000 c.args.text.now) c.loop-place.place c.piece_at.result.now c.args.made.now.items _ _
    c.loop-place.invariant c.in_ok-push_piece.ensures c.piece_at.ensures

pub returns : goal.returns
unfolding pieces_of
returns c =
    let at_end : c.loop-place.place ≡ c.div_ceil-place-end.result = omega arith in
    c.loop-place.invariant
    ∙ ap (λ n. c.args.made.now.items ++ map (heard_from c.args.side) (map (piece_at 1000 c.args.text.now) (numbers_below n)))
    (at_end ∙ c.div_ceil-place-end.ensures)
