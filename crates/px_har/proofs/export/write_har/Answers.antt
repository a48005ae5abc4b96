use Rattle.std.specs.Prelude.{Result, Ok, Err, OnErr}
use Rattle.px_har.proofs.ExportLemmas.{export_is_read, har_begun, har_cut, har_done, har_open}
use Rattle.px_har.proofs.export.write_har.Goals as goal

on_err : {E : Type 0} (result : Result (Unit {0}) E) {P : Type 0} → P → OnErr result P
on_err (Ok _) h = tt
on_err (Err _) h = h

pub returns-in_err-begin_har-clause-err : goal.returns-in_err-begin_har-clause-err
returns-in_err-begin_har-clause-err c = on_err c.from_residual.result (har_begun c.args.flows.now _ _ c.in_err-begin_har.ensures.err)

pub returns-in_err-write_entries-clause-err : goal.returns-in_err-write_entries-clause-err
returns-in_err-write_entries-clause-err c =
    on_err c.from_residual-in_err-write_entries.result (har_cut c.args.flows.now _ _ _ c.in_ok-begin_har.ensures.ok c.in_err-write_entries.ensures.err)

pub returns-in_err-end_har-clause-err : goal.returns-in_err-end_har-clause-err
returns-in_err-end_har-clause-err c =
    on_err c.from_residual-in_err-end_har.result
    (har_open c.args.flows.now _ _ _ _ c.in_ok-begin_har.ensures.ok c.in_ok-write_entries.ensures.ok c.in_err-end_har.ensures.err)

pub returns-clause-ok : goal.returns-clause-ok
returns-clause-ok c = har_done c.args.flows.now _ _ _ _ c.in_ok-begin_har.ensures.ok c.in_ok-write_entries.ensures.ok c.in_ok-end_har.ensures.ok

pub returns-clause-read : goal.returns-clause-read
returns-clause-read c = export_is_read c.args.flows.now c.in_ok-write_entries.ensures.readable
