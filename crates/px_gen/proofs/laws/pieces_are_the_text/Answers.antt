use Rattle.px_gen.proofs.PieceLemmas.{are_pieces}
use Rattle.px_gen.proofs.laws.pieces_are_the_text.Goals as goal

pub returns : goal.returns
returns c = record { pieces = λ text. are_pieces text }
