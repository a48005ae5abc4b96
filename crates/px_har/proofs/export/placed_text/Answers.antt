use Rattle.std.specs.Prelude.{length, IsUtf8}
use Rattle.std.proofs.Common.{◌≡◌, ◌∙◌, ◌++◌, ◌<◌, ◌^◌, ap, ap₂, subst}
use Rattle.json.specs.Print.{print}
use Rattle.px_message.specs.declared.request.Request.{Request}
use Rattle.serde_json.proofs.Texts.{print-outline}
use Rattle.px_har.specs.Entry.{entry_value}
use Rattle.px_har.specs.Export.{separator}
use Rattle.px_har.specs.Puts.{value_tokens}
use Rattle.px_har.proofs.export.placed_text.Goals as goal

pub returns-clause-text : goal.returns-clause-text
returns-clause-text c =
    let entry = entry_value c.args.flow.now in
    let before : c.put_entry.new.writer.before ≡ separator c.args.place = c.in_ok-put_entry.ensures.before ∙ c.new-writer.ensures.before ∙ c.in_ok-front.ensures in
    let tokens : c.put_entry.new.writer.tokens ≡ value_tokens entry = c.in_ok-put_entry.ensures.tokens ∙ ap (λ l. l ++ value_tokens entry) c.new-writer.ensures.tokens in
    c.into_inner.ensures.items ∙ ap₂ (λ front told. front ++ print told) before tokens ∙ ap (λ text. separator c.args.place ++ text) (print-outline entry)

pub returns-clause-readable : goal.returns-clause-readable
returns-clause-readable c =
    let entry = entry_value c.args.flow.now in
    let tokens : c.put_entry.new.writer.tokens ≡ value_tokens entry = c.in_ok-put_entry.ensures.tokens ∙ ap (λ l. l ++ value_tokens entry) c.new-writer.ensures.tokens in
    record {
      body = subst (λ (request : Request). length request.body < 2 ^ 64) c.get.ensures c.has_body.ensures;
      response = c.has_sizes.ensures;
      times = c.has_times.ensures;
      utf8 = subst IsUtf8 (ap print tokens ∙ print-outline entry) c.into_inner.ensures.utf8;
    }
