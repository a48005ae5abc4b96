use Rattle.std.proofs.Common.{◌∙◌, inr, Err, ap, refl}
use Rattle.rand_chacha.specs.ChaCha.{key_of}
use Rattle.px_core.specs.Answers.{files_meaning}
use Rattle.px_app.specs.Dues.{run_due}
use Rattle.px_app.specs.Over.{goes_none}
use Rattle.px_app.specs.Saved.{saves_to_of}
use Rattle.px_app.specs.declared.status.Status.TheVariants.{NoMemory}
use Rattle.px_app.proofs.GoesLemmas.{leaves_whole}
use Rattle.px_app.proofs.RanLemmas.{due_of_maker, ran_first, ran_resent, same_items}
use Rattle.px_app.proofs.ToldLemmas.{begun_not, begun_told}
use Rattle.px_app.proofs.serve.serve.Goals as goal

pub returns-in-Err-clause-run : goal.returns-in-Err-clause-run
returns-in-Err-clause-run g c = λ empty.
    ran_first g.A.Answerer.answers g.A.Answerer.drops g.A.Answerer.names g.A.Answerer.fails (run_due c.args.mode (key_of c.args.mask_key) c.args.resent.items) _ (saves_to_of c.args.saving) c.args.budget _ _
    c.in-Err.status _ (c.in-Err.ensures.trace ∙ empty) c.in-Err.ensures.err

pub returns-in-Err-clause-files : goal.returns-in-Err-clause-files
returns-in-Err-clause-files g c = leaves_whole g.A.Answerer.answers g.A.Answerer.drops g.A.Answerer.fails (saves_to_of c.args.saving) _ _ goes_none

pub returns-in-Err-clause-notes : goal.returns-in-Err-clause-notes
returns-in-Err-clause-notes g c =
    begun_not _ c.in-Err.status _ _ _ _ c.in-Err.ensures.err (λ is. c.in-Err.ensures.deaf (ap Err is)) c.in-Err.ensures.untold

pub returns-in-Err-maker_of-clause-run : goal.returns-in-Err-maker_of-clause-run
returns-in-Err-maker_of-clause-run g c = λ empty.
    ran_first g.A.Answerer.answers g.A.Answerer.drops g.A.Answerer.names g.A.Answerer.fails (run_due c.args.mode (key_of c.args.mask_key) c.args.resent.items) _ (saves_to_of c.args.saving) c.args.budget _ _
    NoMemory _ (c.in_default.ensures.trace ∙ empty) (inr refl)

pub returns-in-Err-maker_of-clause-files : goal.returns-in-Err-maker_of-clause-files
returns-in-Err-maker_of-clause-files g c = leaves_whole g.A.Answerer.answers g.A.Answerer.drops g.A.Answerer.fails (saves_to_of c.args.saving) _ _ goes_none

pub returns-in-Ok-clause-run : goal.returns-in-Ok-clause-run
returns-in-Ok-clause-run g c = λ empty.
    let made = c.in-Ok.ensures in
    let flows = same_items c.in-Ok.maker.layers.flows c.args.resent made.resent in
    let due = run_due c.args.mode (key_of c.args.mask_key) c.args.resent.items in
    let files = files_meaning g.F.Files.contents g.F.Files.calls g.F.Files.misses g.F.Files.faults g.F.Files.losses c.args.files.now in
    ran_resent g.A.Answerer.answers g.A.Answerer.drops g.A.Answerer.names g.A.Answerer.fails due (record { own = g.A.Answerer.state c.args.answerer; files = files }) (saves_to_of c.args.saving) c.args.budget _ _ _ _ _ _ flows
    (c.serve_by.ensures.run due (due_of_maker c.in-Ok.maker c.args.mode c.args.mask_key c.args.resent.items made.mode made.mask_key made.proxy flows) (c.in_default.ensures.trace ∙ empty))

pub returns-in-Ok-clause-notes : goal.returns-in-Ok-clause-notes
returns-in-Ok-clause-notes g c = begun_told _ _ _ _ _ _ _ _ _ c.in_default.ensures.listening c.serve_by.ensures.listening c.in_default.ensures.told
