use Rattle.std.proofs.Common.{codes}
use Rattle.px_message.specs.Fields.{values_of}
use Rattle.px_refresh.proofs.KeepLemmas.{one_more}
use Rattle.px_refresh.proofs.cookies.keep_all.Goals as goal

pub loop-value-preserved : goal.loop-value-preserved
loop-value-preserved c =
    one_more c.args.site.now (values_of (codes "Set-Cookie") c.args.response.now.fields) c.args.cookies.now c.loop-value.cookies c.keep_one.new.cookies c.in-Some.value.now
    c.loop-value.rest c.next.new.self c.loop-value.invariant c.in-Some.ensures.steps c.in_ok-keep_one.ensures.kept
