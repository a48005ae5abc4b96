use Rattle.std.proofs.Common.{◌∙◌, true, ap, set, sym}
use Rattle.px_replay.proofs.PlaceLemmas.{use_at-set}
use Rattle.px_replay.specs.declared.recorded.Recording.{Recording}
use Rattle.px_replay.proofs.recorded.use_place.Goals as goal

pub returns : goal.returns
returns c =
    let items = c.args.recordings.now.items in
    let item = c.index_mut.result.now in
    sym (use_at-set c.args.place items item c.requires
    ∙ ap (λ (r : Recording). set items c.args.place (record r { used = true })) (sym c.index_mut.ensures.value))
