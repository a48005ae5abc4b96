use Rattle.std.proofs.Common.{refl}
use Rattle.px_words.proofs.FlowsLemmas.{gone_none, shows_some}
use Rattle.px_words.proofs.flows.list_bytes.Goals as goal

pub returns-in-Err : goal.returns-in-Err
returns-in-Err g c = record { shows = shows_some _ _ _ _ c.args.bytes.items _ _ _ (gone_none _ _ _ _ refl) refl }
