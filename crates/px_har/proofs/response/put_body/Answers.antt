use Rattle.std.proofs.Common.{subst}
use Rattle.px_har.specs.Entry.{text_value}
use Rattle.px_har.specs.Puts.{Puts}
use Rattle.px_har.proofs.BodyLemmas.{encoded_body, plain_body}
use Rattle.px_har.proofs.response.put_body.Goals as goal

pub returns-in-Ok : goal.returns-in-Ok
returns-in-Ok c =
    let read = c.in-Ok.ensures.cases in
    subst (λ value. Puts c.put_plain.result c.args.writer.now c.put_plain.new.writer value)
    (plain_body (text_value c.args.mime.now) c.args.body.now _ read.0 read.1) c.put_plain.ensures

pub returns-in-Err : goal.returns-in-Err
returns-in-Err c =
    subst (λ value. Puts c.put_encoded.result c.args.writer.now c.put_encoded.new.writer value)
    (encoded_body (text_value c.args.mime.now) c.args.body.now c.in-Err.ensures.cases.0) c.put_encoded.ensures
