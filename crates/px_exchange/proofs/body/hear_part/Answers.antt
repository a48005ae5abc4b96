use Rattle.std.proofs.Common.{◌≡◌, ◌++◌, ap, sym, ◌∙◌}
use Rattle.px_read.specs.Marks.{marks_of}
use Rattle.px_exchange.specs.Bodies.{content_of}
use Rattle.px_exchange.proofs.BodyLemmas.{content_bytes}
use Rattle.px_exchange.proofs.body.hear_part.Goals as goal

pub returns-in-Piece-clause-body : goal.returns-in-Piece-clause-body
returns-in-Piece-clause-body c =
    let content : content_of (marks_of c.args.part) ≡ c.in-Piece.bytes = ap (λ p. content_of (marks_of p)) c.in-Piece.is ∙ content_bytes c.in-Piece.bytes in
    c.in_ok-push-in-Piece.ensures ∙ ap (λ l. c.args.body.now ++ l) (sym content)
