use Rattle.px_options.specs.View.{path_view}
use Rattle.px_app.proofs.LoadLemmas.{at_error, loaded_more, loads_all, loads_no_more, next_path, no_path}
use Rattle.px_app.proofs.loading.load_flows.Goals as goal

pub loop-path-preserved : goal.loop-path-preserved
loop-path-preserved g c =
    loaded_more _ c.as_str.result.now _ _ _ _ _ c.loop-path.flows.items c.load_file.new.flows.items c.loop-path.invariant
    (next_path path_view c.args.paths.now c.loop-path.path-index c.path-item.result c.as_str.result.now c.loop-path-test.true c.path-item.is c.as_str.ensures.text) c.in_ok-load_file.ensures.ok

pub returns : goal.returns
returns g c = record { came = loads_all _ _ _ _ c.loop-path.flows.items c.loop-path.invariant (no_path path_view c.args.paths.now c.loop-path.path-index c.loop-path-test.false) }

pub returns-in_err-load_file : goal.returns-in_err-load_file
returns-in_err-load_file g c = record {
  came = at_error c.from_residual.result c.in_err-load_file.field-0.0 _ _ _ c.from_residual.ensures.1
      (loads_no_more _ c.as_str.result.now _ _ _ _ _ c.loop-path.flows.items c.in_err-load_file.field-0.0 c.loop-path.invariant
      (next_path path_view c.args.paths.now c.loop-path.path-index c.path-item.result c.as_str.result.now c.loop-path-test.true c.path-item.is c.as_str.ensures.text) c.in_err-load_file.ensures.err);
}
