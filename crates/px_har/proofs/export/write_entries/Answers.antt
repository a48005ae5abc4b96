use Rattle.std.specs.Prelude.{All}
use Rattle.std.proofs.Common.{List, arith, subst, take_all}
use Rattle.std.proofs.lemmas.List.Elements.{All-more}
use Rattle.px_message.specs.declared.flow.Flow.{Flow}
use Rattle.px_har.specs.Read.{IsReadable}
use Rattle.px_har.proofs.ExportLemmas.{entries_more}
use Rattle.px_har.proofs.export.write_entries.Goals as goal

pub loop-flow-preserved : goal.loop-flow-preserved
loop-flow-preserved c =
    let flows = c.args.flows.now in
    let l = c.loop-flow in
    let flow = c.flow-item.result in
    let written = l.invariant.written in
    record {
      written = entries_more l.place flows l.flow-index flow _ _ _ written.0 (omega arith) c.flow-item.is written.1 written.2 c.in_ok-write_entry_at.ensures.ok;
      readable = All-more IsReadable flows l.flow-index flow (omega arith) l.invariant.readable (subst IsReadable c.flow-item.is c.in_ok-write_entry_at.ensures.readable);
    }

pub returns-clause-readable : goal.returns-clause-readable
returns-clause-readable c =
    subst (λ (flows : List Flow). All IsReadable flows) (take_all c.loop-flow.flow-index c.args.flows.now (omega arith)) c.loop-flow.invariant.readable
