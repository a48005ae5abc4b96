use Rattle.std.proofs.Common.{Some}
use Rattle.px_app.specs.Saved.{saves_to}
use Rattle.px_words.specs.Appends.{piece_at}
use Rattle.px_app.proofs.SavedLemmas.{pieces_none, pieces_some, saves_broke, saves_none, saves_one}
use Rattle.px_app.proofs.printing.save_at.Goals as goal

pub returns-in-Ok-Some-clause-saves : goal.returns-in-Ok-Some-clause-saves
returns-in-Ok-Some-clause-saves g c =
    saves_one (Some (saves_to c.args.saving.now)) c.args.flow (piece_at c.as_str.result.now c.deref.result.now) c.append.result _ _
    (pieces_some _ _ _ _ c.in-Ok-Some.field-0 c.in-Ok-Some.text c.in-Ok-Some.ensures.text c.in-Ok-Some.field-0-is c.as_str.ensures.text c.deref.ensures.value)
    c.append.ensures.came

pub returns-in-Ok-None-clause-saves : goal.returns-in-Ok-None-clause-saves
returns-in-Ok-None-clause-saves g c =
    saves_none (Some (saves_to c.args.saving.now)) c.args.flow _ (pieces_none _ _ c.in-Ok-None.field-0 c.in-Ok-None.ensures.text c.in-Ok-None.field-0-is)

pub returns-in-Err-clause-saves : goal.returns-in-Err-clause-saves
returns-in-Err-clause-saves g c = saves_broke (Some (saves_to c.args.saving.now)) c.args.flow _ _
