use Rattle.std.proofs.Common.{List, ◌++◌, length}
use Rattle.px_message.specs.declared.messages.WsRecord.{WsRecord}
use Rattle.px_tnet.specs.View.{trees_view}
use Rattle.px_flowfile.specs.Message.{AreRead, FirstIsRefused}
use Rattle.px_flowfile.specs.Sockets.{message_table}
use Rattle.px_flowfile.specs.Table.{dictionary}
use Rattle.px_flowfile.specs.declared.error.FlowFileError.{FlowFileError}
use Rattle.px_flowfile.proofs.sockets.read_each.Given as goal

-- what is left is read as the rest of the messages, or refused as the whole is
abbrev pub invariant-loop-tree : goal.invariant-loop-tree
invariant-loop-tree l =
    ((more : List WsRecord) → AreRead (dictionary message_table) (trees_view l.rest) more
    → AreRead (dictionary message_table) (trees_view l.fn.trees) (l.messages ++ more))
    × ((e : FlowFileError) → FirstIsRefused (dictionary message_table) l.fn.key (trees_view l.rest) e
    → FirstIsRefused (dictionary message_table) l.fn.key (trees_view l.fn.trees) e)

abbrev pub decreases-loop-tree : goal.decreases-loop-tree
decreases-loop-tree l = length l.rest
