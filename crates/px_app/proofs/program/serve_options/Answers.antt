use Rattle.std.proofs.Common.{List, [], ◌++◌, ℕ, refl, subst}
use Rattle.px_core.specs.Answers.{files_meaning}
use Rattle.px_map.proofs.ReadsLemmas.{made_both}
use Rattle.px_app.specs.Loaded.{LoadsFiles, loaded}
use Rattle.px_app.specs.Loading.{stop_of}
use Rattle.px_app.proofs.LoadLemmas.{not_loaded}
use Rattle.px_app.proofs.OpenLemmas.{none_recorded, with_from, with_since}
use Rattle.px_app.proofs.program.serve_options.Goals as goal

pub returns-in-Ok : goal.returns-in-Ok
returns-in-Ok g c =
    let came = c.in-Ok.ensures.came in
    let run = c.serve_recorded.ensures in
    let mid = files_meaning g.F.Files.contents g.F.Files.calls g.F.Files.misses g.F.Files.faults g.F.Files.losses c.load_flows.new.files in
    let P : List (List ℕ) → Type 0 = λ paths. LoadsFiles paths came.0 (loaded c.in-Ok.flows.items) in (
      came.0 ++ run.0,
      loaded c.in-Ok.flows.items,
      run.1,
      run.2,
      record { first_calls = came.0; second_calls = run.0; all = refl; loads = subst P c.as_slice.ensures came.1; then_loads = run.3 },
      made_both came.0 run.0 _ _ _ came.2 run.4,
      with_since _ _ _ _ _ _ _ _ _ _ _ _ _ _ _ _ _ _ _ _ came.2.losses (with_from _ _ _ _ _ _ _ _ _ _ _ _ (loaded c.in-Ok.flows.items) run.1 mid run.2 _ _ _ run.5),
    )

pub returns-in-Err : goal.returns-in-Err
returns-in-Err g c =
    let came = c.in-Err.ensures.came in
    let P : List (List ℕ) → Type 0 = λ paths. LoadsFiles paths came.0 (stop_of c.in-Err.error) in (
      came.0,
      stop_of c.in-Err.error,
      loaded [],
      files_meaning g.F.Files.contents g.F.Files.calls g.F.Files.misses g.F.Files.faults g.F.Files.losses c.load_flows.new.files,
      not_loaded _ _ came.0 c.in-Err.error (subst P c.as_slice.ensures came.1),
      came.2,
      none_recorded _ _ _ _ _ _ _ _ _ _ _ _ c.in-Err.error _ _ _ refl c.refuse_load-status.ensures.status c.refuse_load-status.ensures.prints c.refuse_load-status.ensures.notes,
    )
