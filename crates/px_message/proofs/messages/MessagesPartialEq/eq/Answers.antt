use Rattle.std.proofs.Common.{true, false, arith}
use Rattle.px_message.specs.Messages.{message_eq}
use Rattle.px_message.proofs.MessageLemmas.{with_next}
use Rattle.px_message.proofs.messages.MessagesPartialEq.eq.Goals as goal

pub returns-then-ne : goal.returns-then-ne
returns-then-ne c =
    let inv = c.loop-i.invariant in
    with_next message_eq c.args.self.now c.args.other.now c.loop-i.i c.get.result.now c.get-in-loop-i.result.now true (omega (arith, inv.0, c.loop-i-test.true)) (omega (arith, inv.0, c.loop-i-test.true))
    c.get.ensures c.get-in-loop-i.ensures c.if-ne.ensures inv.1

pub loop-i-preserved : goal.loop-i-preserved
loop-i-preserved c =
    let inv = c.loop-i.invariant in (
      (inv.0.0, (inv.0.1.0, omega (arith, c.loop-i-test.true))),
      with_next message_eq c.args.self.now c.args.other.now c.loop-i.i c.get.result.now c.get-in-loop-i.result.now false (omega (arith, inv.0, c.loop-i-test.true)) (omega (arith, inv.0, c.loop-i-test.true))
          c.get.ensures c.get-in-loop-i.ensures c.if-ne.ensures inv.1,
    )
