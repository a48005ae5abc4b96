use Rattle.std.proofs.Common.{◌∙◌, ap, sym}
use Rattle.std.specs.Prelude.{position}
use Rattle.px_message.specs.Fields.{is_named}
use Rattle.px_message.proofs.SetLemmas.{without-None}
use Rattle.px_message.proofs.fields.remove_shared.Goals as goal

pub returns-in-None-clause-removed : goal.returns-in-None-clause-removed
returns-in-None-clause-removed c =
    let name = c.args.name.now in
    let same = c.as_slice.ensures.value ∙ ap (λ v. v.items) c.deref.ensures in
    without-None name c.args.shared.now.value.items
    (ap (λ l. position (is_named name) l) (sym same) ∙ sym c.position_of.ensures ∙ c.in-None.is)
