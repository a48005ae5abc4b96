use Rattle.std.proofs.Common.{◌++◌, ap, sym, ◌∙◌}
use Rattle.px_read.specs.Marks.{marks_of}
use Rattle.px_parts.specs.Texts.{marks_text}
use Rattle.px_parts.proofs.TextLemmas.{bytes-sent}
use Rattle.px_stream.proofs.coming.say.Goals as goal

pub returns-in_ok-extend_from_slice-in-Piece : goal.returns-in_ok-extend_from_slice-in-Piece
returns-in_ok-extend_from_slice-in-Piece c =
    c.in_ok-extend_from_slice-in-Piece.ensures.items ∙ ap (λ l. c.args.said.now.items ++ l) (c.as_slice.ensures ∙ sym (ap (λ p. marks_text (marks_of p)) c.in-Piece.is ∙ bytes-sent c.in-Piece.bytes))
