use Rattle.std.proofs.Common.{◌∙◌}
use Rattle.px_app.specs.Loading.{stop_of}
use Rattle.px_words.proofs.FlowFileLemmas.{comes_so}
use Rattle.px_app.proofs.LoadLemmas.{added_more, added_none, breaks_there, ends_there, from_error}
use Rattle.px_app.proofs.loading.add_flows.Goals as goal

pub loop-reader-init : goal.loop-reader-init
loop-reader-init c = record {
  added = added_none _ _ _ c.new-reader.ensures.rest;
  going = c.new-reader.ensures.fault;
  len = c.new-reader.ensures.len;
}

pub loop-reader-preserved : goal.loop-reader-preserved
loop-reader-preserved c =
    let before = c.loop-reader.invariant in
    let came = c.in_ok-entry.ensures in
    record {
      added = added_more c.args.bytes c.loop-reader.reader.rest c.next_entry.new.reader.rest c.args.flows.now.items c.loop-reader.flows.items c.add_flow.new.flows.items c.in-Some.entry before.added
          (comes_so c.loop-reader.reader.rest c.next_entry.new.reader.rest _ c.in-Some.entry c.in-Some.is came.ok) c.in_ok-add_flow.ensures.ok;
      going = came.going;
      len = came.len ∙ before.len;
    }

pub returns-in_err-entry-clause-err : goal.returns-in_err-entry-clause-err
returns-in_err-entry-clause-err c =
    from_error c.from_residual.result c.in_err-entry.field-0.0 _ c.from_residual.ensures.1
    (λ others. ends_there c.args.path.now c.args.bytes c.loop-reader.reader.rest c.loop-reader.reader.len c.args.flows.now.items c.loop-reader.flows.items (stop_of c.in_err-entry.field-0.0)
    c.loop-reader.invariant.added c.loop-reader.invariant.len c.in_err-entry.ensures.err others)

pub returns-in_err-add_flow-clause-err : goal.returns-in_err-add_flow-clause-err
returns-in_err-add_flow-clause-err c =
    from_error c.from_residual-in_err-add_flow.result c.in_err-add_flow.field-0.0 _ c.from_residual-in_err-add_flow.ensures.1
    (λ others. breaks_there c.args.path.now c.args.bytes (stop_of c.in_err-add_flow.field-0.0) c.in_err-add_flow.ensures.err others)
