use Rattle.std.proofs.Common.{refl}
use Rattle.px_filter.specs.View.{expression}
use Rattle.px_words.proofs.KeepLemmas.{pick_keeps}
use Rattle.px_words.proofs.PickLemmas.{none_picked, some_picked}
use Rattle.px_words.proofs.picking.pick.Goals as goal

pub returns-in-Ok : goal.returns-in-Ok
returns-in-Ok g c =
    let picks = some_picked _ _ _ _ _ _ _ _ _ _ (expression c.in-Ok.filter) c.in-Ok.ensures.ok refl c.copy_file.ensures.copies in
    record { picks = picks; keeps = pick_keeps _ _ _ _ _ _ _ _ _ _ picks.0 picks.1 }

pub returns-in-Err : goal.returns-in-Err
returns-in-Err g c =
    let picks = none_picked _ _ _ _ _ c.args.text.now _ _ _ _ c.in-Err.error c.in-Err.ensures.err refl refl c.refuse_filter.ensures.status c.refuse_filter.ensures.memory c.refuse_filter.ensures.prints c.refuse_filter.ensures.notes in
    record { picks = picks; keeps = pick_keeps _ _ _ _ _ _ _ _ _ _ picks.0 picks.1 }
