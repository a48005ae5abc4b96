use Rattle.std.proofs.Common.{◌≡◌, ◌-◌, ◌≤◌, length, take}
use Rattle.px_tnet.specs.View.{trees_view}
use Rattle.px_flowfile.specs.Message.{row_of}
use Rattle.px_flowfile.specs.Sockets.{message_table}
use Rattle.px_flowfile.specs.Table.{dictionary}
use Rattle.px_flowfile.proofs.put_socket.message_trees.Given as goal

abbrev pub invariant-loop-i : goal.invariant-loop-i
invariant-loop-i l = (trees_view l.trees.items ≡ row_of (dictionary message_table) (take l.i l.fn.messages)) × (l.i ≤ length l.fn.messages)

abbrev pub decreases-loop-i : goal.decreases-loop-i
decreases-loop-i l = length l.fn.messages - l.i
