use Rattle.std.proofs.Common.{◌∙◌, ap, sym}
use Rattle.px_message.specs.Target.{absolute_form}
use Rattle.px_map.specs.Url.{moved}
use Rattle.px_map.proofs.UrlLemmas.{moved_by}
use Rattle.px_map.proofs.url.moved.Goals as goal

pub returns-in-Ok-set_host-clause-moved : goal.returns-in-Ok-set_host-clause-moved
returns-in-Ok-set_host-clause-moved c =
    ap (λ r. moved r (absolute_form c.args.url.now)) (sym c.in-Ok.ensures)
    ∙ moved_by c.in-Ok.changed c.set_url.new.self c.set_host.new.request c.args.url.now c.in_ok-set_url.ensures.ok.0 c.in_ok-set_url.ensures.ok.1
    c.in-Ok-set_host.ensures.fields c.in-Ok-set_host.ensures.others
