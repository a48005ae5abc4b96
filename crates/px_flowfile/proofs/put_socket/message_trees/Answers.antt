use Rattle.std.proofs.Common.{refl, arith}
use Rattle.px_flowfile.specs.Sockets.{message_table}
use Rattle.px_flowfile.specs.Table.{dictionary}
use Rattle.px_flowfile.proofs.PutLemmas.{one_more}
use Rattle.px_flowfile.proofs.put_socket.message_trees.Goals as goal

pub loop-i-preserved : goal.loop-i-preserved
loop-i-preserved c =
    let l = c.loop-i in (
      one_more (dictionary message_table) l.trees.items c.push_message.new.trees.items c.args.messages.now l.i c.get.result.now
          c.get.result.now c.in_ok-push_message.ensures.0 l.invariant.0 c.get.ensures refl c.in_ok-push_message.ensures.1
          c.in_ok-push_message.ensures.2,
      (let less = c.loop-i-test.true in let n = c.len.ensures in omega arith),
    )
