use Rattle.std.proofs.Common.{ℕ, List}
use Rattle.px_har.specs.Entry.{field_value}
use Rattle.px_har.proofs.PutLemmas.{one_more}
use Rattle.px_har.proofs.message.put_each_field.Goals as goal

pub loop-i-preserved : goal.loop-i-preserved
loop-i-preserved c =
    let pair : List ℕ × List ℕ = (c.pair.result.0.now, c.pair.result.1.now) in
    one_more field_value c.args.fields.now c.loop-i.i pair _ _ _ c.pair.ensures c.loop-i.invariant c.in_ok-put_field.ensures
