-- The pairs that an entry holds beside its flow.
use Rattle.px_tnet.specs.Tree.{Pairs}
use Rattle.px_tnet.specs.View.{pairs_view}
use Rattle.px_flowfile.specs.declared.others.Others.{Others}

abbrev pub others_view : Others → Pairs
others_view others = pairs_view others.pairs.items
