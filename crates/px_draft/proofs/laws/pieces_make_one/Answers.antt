use Rattle.px_draft.proofs.PieceLemmas.{pieces_make_one}
use Rattle.px_draft.proofs.laws.pieces_make_one.Goals as goal

pub returns : goal.returns
returns c = pieces_make_one
