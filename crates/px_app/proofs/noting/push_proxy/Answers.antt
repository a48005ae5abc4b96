use Rattle.px_app.specs.Lines.{proxy_text}
use Rattle.px_app.proofs.TextLemmas.{four_behind}
use Rattle.px_app.proofs.noting.push_proxy.Goals as goal

pub returns : goal.returns
unfolding proxy_text
returns c = four_behind c.push_decimal.new.out.items _ _ _ c.args.text.now.items _ _ _ _ c.in_ok-extend_from_slice.ensures.items c.in_ok-extend_from_slice-2.ensures.items c.in_ok-push.ensures.items c.in_ok-push_decimal.ensures.ok
