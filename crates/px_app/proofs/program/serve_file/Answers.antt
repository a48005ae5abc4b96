use Rattle.std.proofs.Common.{refl}
use Rattle.px_core.specs.Answers.{files_meaning}
use Rattle.px_options.specs.View.{settings}
use Rattle.px_app.proofs.OpenLemmas.{not_opened, opened_so, with_since}
use Rattle.px_app.proofs.program.serve_file.Goals as goal

pub returns-in-Ok : goal.returns-in-Ok
returns-in-Ok g c =
    let read = c.in-Ok.ensures.ok in
    let run = c.serve_options.ensures in
    let mid = files_meaning g.F.Files.contents g.F.Files.calls g.F.Files.misses g.F.Files.faults g.F.Files.losses c.read_file.new.files in
    opened_so _ _ _ _ _ _ _ _ _ _ _ (settings c.in-Ok.options) c.args.path.now read.0 run.0 run.1 run.2 mid run.3 _ _ _ read.1 read.2 run.4 run.5 (with_since _ _ _ _ _ _ _ _ _ _ _ _ _ _ _ _ _ _ _ _ read.1.losses run.6)

pub returns-in-Err : goal.returns-in-Err
returns-in-Err g c = not_opened _ _ _ _ _ _ _ _ _ _ _ _ _ _ _ c.in-Err.error c.in-Err.ensures.err refl c.refuse.ensures.status c.refuse.ensures.prints c.refuse.ensures.notes
