use Rattle.std.proofs.Common.{ℕ, ◌-◌, ◌<◌, ◌≤◌, ◌≡◌, ◌∙◌, ap, length, min, take, arith}
use Rattle.px_read.proofs.TurnLemmas.{piece_taken, piece_whole, want_of_memory}
use Rattle.px_read.proofs.chunk_reader.content.hear_content.Goals as goal

pub returns-in_err-piece : goal.returns-in_err-piece
returns-in_err-piece c = want_of_memory _ _ _ c.from_residual.result c.from_residual.ensures.1

pub returns : goal.returns
returns c =
    let count = c.piece_length-count.ensures in
    let some = c.requires.some in
    let there : 0 < c.len.result = omega arith in
    let within : c.piece_length-count.result ≤ length c.args.bytes.now = omega arith in
    let whole : c.piece_length-count.result - 0 ≡ c.piece_length-count.result = omega arith in
    piece_taken c.args.left c.piece_length-count.result c.args.bytes.now c.in_ok-piece.piece (count.some c.requires.left there) count.left within
    (c.in_ok-piece.ensures ∙ ap (λ (n : ℕ). take n c.args.bytes.now) whole)
    (piece_whole c.args.left (length c.args.bytes.now) c.piece_length-count.result (count.least ∙ ap (min c.args.left) c.len.ensures))
