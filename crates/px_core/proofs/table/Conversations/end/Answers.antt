use Rattle.std.proofs.Common.{sym, subst, None}
use Rattle.slab.specs.Slab.{Slab, Updates}
use Rattle.px_core.proofs.ResultLemmas.{on_ok_map, on_ok_of}
use Rattle.px_core.specs.declared.held.Held.{Held}
use Rattle.px_core.proofs.table.Conversations.end.Goals as goal

pub returns-clause-live : goal.returns-clause-live
returns-clause-live g c = on_ok_of c.note_end.result
    (let P : Slab (Held g.row.C.Denot) → Type 0 = λ l. Updates c.args.self.now.live l c.args.key None in subst P (sym c.note_end.ensures.live) c.try_remove.ensures.updates)

pub returns-clause-places : goal.returns-clause-places
returns-clause-places g c = on_ok_map c.note_end.result (λ put. record { here = put.here; others = put.others }) c.note_end.ensures.places
