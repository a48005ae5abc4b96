use Rattle.px_core.proofs.TableLemmas.{no_place}
use Rattle.px_core.proofs.table.Conversations.new.Goals as goal

pub returns-clause-empty : goal.returns-clause-empty
returns-clause-empty g c = λ conv. no_place c.new-3.result c.new-2.result conv c.new-3.ensures.empty c.new-2.ensures.empty
