use Rattle.px_core.proofs.TableLemmas.{place_ended}
use Rattle.px_core.proofs.table.Conversations.note_end.Goals as goal

pub returns-clause-places : goal.returns-clause-places
returns-clause-places g c = place_ended c.args.self.now (record { live = c.args.self.now.live; keys = c.remove.new.self; ended = c.add.new.self; flows = c.args.self.now.flows }) c.args.conv c.in_ok-add.ensures.added c.remove.ensures.updates
