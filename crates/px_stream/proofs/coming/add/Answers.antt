use Rattle.std.proofs.Common.{◌++◌, ap, sym, ◌∙◌}
use Rattle.std.proofs.lemmas.Result.{on_ok_weaker}
use Rattle.px_read.specs.Marks.{marks_of}
use Rattle.px_exchange.specs.Bodies.{content_of}
use Rattle.px_exchange.proofs.BodyLemmas.{content_bytes}
use Rattle.px_stream.proofs.coming.add.Goals as goal

pub returns-in-Piece : goal.returns-in-Piece
returns-in-Piece c =
    on_ok_weaker c.push.result
    (λ grown. grown ∙ ap (λ l. c.args.body.now ++ l) (sym (ap (λ p. content_of (marks_of p)) c.in-Piece.is ∙ content_bytes c.in-Piece.bytes))) c.push.ensures
