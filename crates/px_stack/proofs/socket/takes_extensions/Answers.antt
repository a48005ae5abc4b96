use Rattle.std.proofs.Common.{◌∙◌, ap}
use Rattle.std.specs.Prelude.{codes}
use Rattle.px_message.proofs.FoldLemmas.{has_items, has_items-values_of, is_some-first}
use Rattle.px_stack.proofs.socket.takes_extensions.Goals as goal

pub returns : goal.returns
returns c =
    c.is_some.ensures ∙ is_some-first (λ x. x.now) _ _ c.next.result c.next.ensures.steps
    ∙ ap has_items c.get_all.ensures ∙ has_items-values_of (codes "Sec-WebSocket-Extensions") c.args.fields.now
