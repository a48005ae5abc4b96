use Rattle.std.proofs.Common.{refl, sym, subst, ◌∙◌, ap, is_some}
use Rattle.slab.proofs.SlabLemmas.{Updates-with_value}
use Rattle.px_core.specs.declared.held.Held.{Held}
use Rattle.px_core.specs.declared.operation.OperateError.TheVariants as refused
use Rattle.px_core.specs.Held.{IsEdit}
use Rattle.px_core.proofs.EditLemmas.{refused_by, same_table}
use Rattle.px_core.proofs.ResultLemmas.{same_some}
use Rattle.px_core.proofs.router.Router.edit_at.Goals as goal
use Rattle.px_draft.specs.declared.error.EditError.TheVariants as errors

pub edit-requires : goal.edit-requires
edit-requires g c = record { waits = c.requires.waits c.in-Some.held.now (sym c.in-Some.ensures.value) }

pub returns-in-Ok-clause-edits : goal.returns-in-Ok-clause-edits
returns-in-Ok-clause-edits g c = λ held is.
    let same = same_some c.in-Some.held.now held (c.in-Some.ensures.value ∙ is) in
    let P : Held g.row.C.Denot → Type 0 = λ h. IsEdit c.args.hook c.args.change.now h c.edit.new.self in
    record {
      new_held = c.edit.new.self;
      live_now = Updates-with_value c.args.self.now.table.live c.args.key c.edit.new.self (ap is_some (sym c.in-Some.ensures.value));
      places = λ other. refl;
      flows = refl;
      edits = subst P same c.in-Ok.ensures.edits;
    }

pub returns-in-Err-NotThere-clause-refused : goal.returns-in-Err-NotThere-clause-refused
returns-in-Err-NotThere-clause-refused g c = λ held kept is is_kept other.
    let same = same_some c.in-Some.held.now held (c.in-Some.ensures.value ∙ is) in
    refused_by c.args.hook c.args.change.now kept _ errors.NotThere refused.NotThere c.in-Err-NotThere.field-0-is refl refl (c.in-Err-NotThere.ensures.refused kept (ap (λ h. h.draft) same ∙ is_kept))

pub returns-in-Err-NotThere-clause-unchanged : goal.returns-in-Err-NotThere-clause-unchanged
returns-in-Err-NotThere-clause-unchanged g c = λ other. record {
  table = same_table c.args.self.now.table c.args.key c.in-Some.held.now c.edit.new.self (sym c.in-Some.ensures.value) c.in-Err-NotThere.ensures.unchanged;
  own = refl;
  poisoned = refl;
}

pub returns-in-Err-BadValue-clause-refused : goal.returns-in-Err-BadValue-clause-refused
returns-in-Err-BadValue-clause-refused g c = λ held kept is is_kept other.
    let same = same_some c.in-Some.held.now held (c.in-Some.ensures.value ∙ is) in
    refused_by c.args.hook c.args.change.now kept _ errors.BadValue refused.BadValue c.in-Err-BadValue.field-0-is refl refl (c.in-Err-BadValue.ensures.refused kept (ap (λ h. h.draft) same ∙ is_kept))

pub returns-in-Err-BadValue-clause-unchanged : goal.returns-in-Err-BadValue-clause-unchanged
returns-in-Err-BadValue-clause-unchanged g c = λ other. record {
  table = same_table c.args.self.now.table c.args.key c.in-Some.held.now c.edit.new.self (sym c.in-Some.ensures.value) c.in-Err-BadValue.ensures.unchanged;
  own = refl;
  poisoned = refl;
}
