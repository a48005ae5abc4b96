use Rattle.std.proofs.Common.{◌==◌, ◌||◌, refl, sym, ◌∙◌, ap, is_some}
use Rattle.slab.proofs.SlabLemmas.{Updates-with_value}
use Rattle.px_core.specs.declared.held.Held.{Held}
use Rattle.px_core.specs.Runs.{has}
use Rattle.px_core.proofs.ResultLemmas.{same_some}
use Rattle.px_core.proofs.router.Router.mark_at.Goals as goal

pub returns-in-Ok-clause-marks : goal.returns-in-Ok-clause-marks
returns-in-Ok-clause-marks g c = λ held is.
    let was = c.in-Some.held.now in
    let new_held : Held g.row.C.Denot = record { conversation = was.conversation; connected = was.connected; draft = was.draft; marks = c.add.new.self } in
    let same = same_some was held (c.in-Some.ensures.value ∙ is) in
    record {
      new_held = new_held;
      live_now = Updates-with_value c.args.self.now.table.live c.args.key new_held (ap is_some (sym c.in-Some.ensures.value));
      places = λ other. refl;
      flows = refl;
      conversation = ap (λ h. h.conversation) same;
      connected = ap (λ h. h.connected) same;
      draft = ap (λ h. h.draft) same;
      marks = λ other. c.in-Ok.ensures.added other ∙ ap (λ h. (c.args.index == other) || has h.marks other) same;
    }
