use Rattle.std.proofs.Common.{refl}
use Rattle.px_core.proofs.TableLemmas.{place_added}
use Rattle.px_core.proofs.table.Conversations.add.Goals as goal

pub returns-clause-places : goal.returns-clause-places
returns-clause-places g c = place_added c.args.self.now (record { live = c.insert.new.self; keys = c.insert-2.new.self; ended = c.args.self.now.ended; flows = c.args.self.now.flows }) c.args.conv _ refl c.in_ok-insert.ensures.updates c.requires.unknown
