use Rattle.std.proofs.Common.{List, ℕ, ap₂, arith}
use Rattle.px_flowfile.specs.Message.{field}
use Rattle.px_flowfile.proofs.PutLemmas.{one_more}
use Rattle.px_flowfile.proofs.put_message.field_trees.Goals as goal

pub loop-i-preserved : goal.loop-i-preserved
loop-i-preserved c =
    let l = c.loop-i in (
      one_more field l.trees.items c.push_field.new.trees.items c.args.fields.now l.i (c.pair.result.0.now, c.pair.result.1.now)
          (c.bytes.result.now, c.bytes-in-loop-i.result.now) c.in_ok-push_field.ensures.0 l.invariant.0 c.pair.ensures
          (ap₂ (λ (n v : List ℕ). (n, v)) c.bytes.ensures.bytes c.bytes-in-loop-i.ensures.bytes) c.in_ok-push_field.ensures.1
          c.in_ok-push_field.ensures.2,
      (let less = c.loop-i-test.true in let n = c.len.ensures in omega arith),
    )
