use Rattle.std.proofs.Common.{◌≡◌, ◌∙◌, rules, ap}
use Rattle.std.proofs.lemmas.Result.{on_ok_weaker}
use Rattle.px_refresh.proofs.TextLemmas.{text_is}
use Rattle.px_refresh.specs.Cookies.{cookie_text, sent_to, with_text}
use Rattle.px_refresh.specs.Site.{site_of}
use Rattle.px_refresh.proofs.cookies.send.Goals as goal

pub returns-clause-put : goal.returns-clause-put
returns-clause-put c =
    let flow = c.args.flow.now in
    let cookies = sent_to (site_of flow.request) flow.request.path c.args.cookies.now in
    let text : c.in_ok-text.text.items ≡ cookie_text cookies = search rules in
    on_ok_weaker c.put_text.result (λ is. is ∙ ap (λ text. with_text text flow) text ∙ text_is cookies flow) c.put_text.ensures.put
