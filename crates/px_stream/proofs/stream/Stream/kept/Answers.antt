use Rattle.std.proofs.Common.{subst}
use Rattle.px_stream.specs.Tells.{SideHasRoom}
use Rattle.px_stream.proofs.BoundLemmas.{client_keeps, keeps_little, server_keeps}
use Rattle.px_stream.proofs.stream.Stream.kept.Goals as goal

pub returns-clause-client : goal.returns-clause-client
returns-clause-client c = λ made place prefix at is. client_keeps made c.args.self.now place prefix at c.kept.ensures.room is

pub returns-clause-server : goal.returns-clause-server
returns-clause-server c = λ made place prefix at is.
    server_keeps made c.args.self.now place prefix at (subst (λ counts. SideHasRoom counts c.args.self.now.side) c.uses_side.ensures c.side_size-side.ensures.room) is

pub returns-clause-bound : goal.returns-clause-bound
returns-clause-bound c = λ made place prefix at is.
    keeps_little made c.args.self.now place prefix at c.kept.ensures.room (subst (λ counts. SideHasRoom counts c.args.self.now.side) c.uses_side.ensures c.side_size-side.ensures.room) is
