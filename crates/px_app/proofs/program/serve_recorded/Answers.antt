use Rattle.std.proofs.Common.{List, ℕ, refl, subst}
use Rattle.px_core.specs.Answers.{files_meaning}
use Rattle.px_options.specs.View.{settings}
use Rattle.px_app.specs.Loaded.{LoadsFiles, loaded}
use Rattle.px_app.specs.Loading.{stop_of}
use Rattle.px_app.proofs.OpenLemmas.{none_resent, with_flows, with_from, with_since}
use Rattle.px_app.proofs.program.serve_recorded.Goals as goal

pub returns-in-Ok : goal.returns-in-Ok
returns-in-Ok g c =
    let came = c.in-Ok.ensures.came in
    let run = c.serve_flows.ensures in
    let mid = files_meaning g.F.Files.contents g.F.Files.calls g.F.Files.misses g.F.Files.faults g.F.Files.losses c.load_flows.new.files in (
      came.0,
      run.0,
      mid,
      with_flows (settings c.args.options).client_replay came.0 c.in-Ok.resent.items _ run.0 c.as_slice.ensures came.1 run.1,
      came.2,
      with_since _ _ _ _ _ _ _ _ _ _ _ _ _ _ _ _ _ _ _ _ came.2.losses (with_from _ _ _ _ _ _ _ _ _ _ _ _ (loaded c.args.flows.items) run.0 mid mid _ _ _ run.2),
    )

pub returns-in-Err : goal.returns-in-Err
returns-in-Err g c =
    let came = c.in-Err.ensures.came in
    let P : List (List ℕ) → Type 0 = λ paths. LoadsFiles paths came.0 (stop_of c.in-Err.error) in (
      came.0,
      stop_of c.in-Err.error,
      files_meaning g.F.Files.contents g.F.Files.calls g.F.Files.misses g.F.Files.faults g.F.Files.losses c.load_flows.new.files,
      subst P c.as_slice.ensures came.1,
      came.2,
      none_resent _ _ _ _ _ _ _ _ _ _ _ _ c.args.flows.items c.in-Err.error _ _ _ refl c.refuse_load-status.ensures.status c.refuse_load-status.ensures.prints c.refuse_load-status.ensures.notes,
    )
