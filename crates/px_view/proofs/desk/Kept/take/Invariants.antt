use Rattle.std.proofs.Common.{drop}
use Rattle.px_view.specs.Desk.{stand}
use Rattle.px_view.proofs.DeskLemmas.{Going}
use Rattle.px_view.proofs.desk.Kept.take.Given as goal

abbrev pub invariant-loop-byte : goal.invariant-loop-byte
invariant-loop-byte l = Going l.bytes (drop l.byte-index l.bytes) (stand l.initial.self) (stand l.self) l.initial.out.items l.out.items
