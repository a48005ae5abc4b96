use Rattle.std.proofs.Common.{sym, ◌∙◌}
use Rattle.std.specs.Prelude.{option_map}
use Rattle.px_outside.specs.Count.{Rose}
use Rattle.px_core.specs.Answers.{files_meaning}
use Rattle.px_filter.specs.View.{expression}
use Rattle.px_words.proofs.ConvertLemmas.{copies_chosen, copies_left}
use Rattle.px_words.proofs.converting.copy_entry.Goals as goal

pub returns-in-Ok-true-clause-copies : goal.returns-in-Ok-true-clause-copies
returns-in-Ok-true-clause-copies g c =
    copies_chosen (Rose (g.F.Files.losses c.args.files.now) (g.F.Files.losses c.copy_chosen.new.files)) (option_map expression c.args.filter.now) c.args.to.now c.args.entry
    (files_meaning g.F.Files.contents g.F.Files.calls g.F.Files.misses g.F.Files.faults g.F.Files.losses c.args.files.now)
    (files_meaning g.F.Files.contents g.F.Files.calls g.F.Files.misses g.F.Files.faults g.F.Files.losses c.copy_chosen.new.files) c.copy_chosen.result
    (sym c.in-Ok-true.ensures.chosen ∙ c.in-Ok-true.field-0-test) c.copy_chosen.ensures.copies

pub returns-in-Ok-false-clause-copies : goal.returns-in-Ok-false-clause-copies
returns-in-Ok-false-clause-copies g c =
    copies_left (option_map expression c.args.filter.now) c.args.to.now c.args.entry
    (files_meaning g.F.Files.contents g.F.Files.calls g.F.Files.misses g.F.Files.faults g.F.Files.losses c.args.files.now) (sym c.in-Ok-false.ensures.chosen ∙ c.in-Ok-false.field-0-test)
