use Rattle.px_app.specs.Lines.{upstream_text}
use Rattle.px_app.proofs.TextLemmas.{four_behind}
use Rattle.px_app.proofs.noting.push_upstream.Goals as goal

pub returns : goal.returns
unfolding upstream_text
returns c = four_behind c.push.new.self.items _ _ _ c.args.text.now.items _ _ _ _ c.in_ok-extend_from_slice.ensures.items c.in_ok-extend_from_slice-2.ensures.items c.in_ok-push_port.ensures c.in_ok-push.ensures.items
