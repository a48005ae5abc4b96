use Rattle.std.proofs.Common.{refl}
use Rattle.px_message.specs.declared.request.Request.{Request}
use Rattle.px_message.proofs.RequestLemmas.{request_eq}
use Rattle.px_draft.proofs.fields.request_with_fields.Goals as goal

pub returns : goal.returns
returns c =
    let told : Request = record c.args.request { fields = c.args.fields } in
    request_eq _ told refl refl refl refl refl refl refl refl refl
