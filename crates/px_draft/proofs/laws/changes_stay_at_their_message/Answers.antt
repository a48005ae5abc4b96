use Rattle.px_draft.proofs.StayLemmas.{changes_stay}
use Rattle.px_draft.proofs.laws.changes_stay_at_their_message.Goals as goal

pub returns : goal.returns
returns c = changes_stay
