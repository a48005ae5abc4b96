use Rattle.std.proofs.Common.{refl, true}
use Rattle.px_message.specs.declared.request.Request.{Request}
use Rattle.px_message.proofs.RequestLemmas.{request_eq}
use Rattle.px_stream.proofs.going.as_streamed.Goals as goal

pub returns : goal.returns
returns c =
    let told : Request = record c.args.request { streamed = true } in
    request_eq _ told refl refl refl refl refl refl refl refl refl
