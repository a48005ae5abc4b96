use Rattle.std.proofs.Common.{sym, ◌∙◌}
use Rattle.px_core.proofs.RunLemmas.{begun_at}
use Rattle.px_core.proofs.work.fresh.Goals as goal

pub returns-else-knows-clause-fresh : goal.returns-else-knows-clause-fresh
returns-else-knows-clause-fresh g c =
    let begun = begun_at c.args.heard.now c.in-Some.conv (sym c.begins.ensures ∙ c.in-Some.is) in
    (begun.0, begun.1, sym c.if-knows.ensures.known)
