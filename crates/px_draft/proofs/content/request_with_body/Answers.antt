use Rattle.std.proofs.Common.{refl}
use Rattle.px_message.specs.declared.request.Request.{Request}
use Rattle.px_message.proofs.RequestLemmas.{request_eq}
use Rattle.px_draft.proofs.content.request_with_body.Goals as goal

pub returns : goal.returns
returns c =
    let told : Request = record c.args.request { body = c.args.bytes } in
    request_eq _ told refl refl refl refl refl refl c.from_bytes.ensures refl refl
